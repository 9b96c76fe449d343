-- The item that stands there has its slot's class.
use Rattle.std.proofs.Common.{◌≡◌, ◌∙◌, ◌<◌, ℕ, [], get_or, length, sym, ap}
use Rattle.kv_model.specs.Layout.{all_classes, class_of}
use Rattle.kv_model.specs.Slots.{Item, read_large}
use Rattle.kv_slab.proofs.FitLemmas.{large-fits}
use Rattle.kv_slab.proofs.find.large_value.Goals as goal

pub returns-then-same-clause-fits : goal.returns-then-same-clause-fits
returns-then-same-clause-fits c =
    let found = c.in-Ok-Item.found in
    let value = c.in-Ok-Item.value in
    let pages = c.args.pages.now in
    let key : found ≡ c.args.key.now = sym c.as_slice.ensures ∙ c.same.ensures.0 c.if-same.true in
    let sizes : (i : ℕ) → i < length pages → length (get_or pages i []) ≡ 4096 = c.told-pages in
    let stands : Item c.in-Ok-Item.field-0-0 found value ≡ read_large all_classes c.args.class pages =
    rw c.in-Ok-Item.field-0-is at c.in-Ok-Item.ensures.ok in
    ap (λ k. class_of all_classes (length k) (length value)) (sym key)
    ∙ large-fits all_classes c.args.class c.in-Ok-Item.field-0-0 pages found value
    c.requires.class.0 c.requires.pages sizes (sym stands)
