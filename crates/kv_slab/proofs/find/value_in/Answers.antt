-- The item that stands there has its slot's class.
use Rattle.std.proofs.Common.{◌≡◌, ◌∙◌, ◌-◌, length, take, drop, sym, ap, arith, length-drop}
use Rattle.std.proofs.lemmas.List.{length-take-le}
use Rattle.kv_model.specs.Layout.{all_classes, class_of, slot_size}
use Rattle.kv_slab.proofs.FitLemmas.{small-fits}
use Rattle.kv_slab.proofs.find.value_in.Goals as goal

pub returns-in_ok-copy-in-Item-clause-fits : goal.returns-in_ok-copy-in-Item-clause-fits
returns-in_ok-copy-in-Item-clause-fits c =
    let page = c.args.page.now in
    let slot = slot_size c.args.class in
    let whole : length page ≡ 4096 = c.told-page in
    let rest : length (drop c.args.offset page) ≡ length page - c.args.offset =
    length-drop c.args.offset page in
    let size : length (take slot (drop c.args.offset page)) ≡ slot =
    length-take-le slot (drop c.args.offset page) (let within = c.requires.within in omega arith) in
    let key : c.in-Item.found.now ≡ c.args.key.now = c.same.ensures.0 c.if-same.true in
    let value : c.in_ok-copy-in-Item.field-0 ≡ c.in-Item.value.now =
    c.in_ok-copy-in-Item.ensures.ok in
    ap (λ k. class_of all_classes (length k) (length c.in_ok-copy-in-Item.field-0)) (sym key)
    ∙ ap (λ v. class_of all_classes (length c.in-Item.found.now) (length v)) value
    ∙ small-fits all_classes c.args.class c.in-Item.stamp (take slot (drop c.args.offset page))
    c.in-Item.found.now c.in-Item.value.now c.requires.class.1 size (sym c.in-Item.ensures)
