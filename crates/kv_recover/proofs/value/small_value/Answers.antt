-- The slot of the page has the item.
use Rattle.std.proofs.Common.{take, drop, sym, ap, ◌∙◌}
use Rattle.kv_model.specs.Layout.{all_classes, slot_size}
use Rattle.kv_model.specs.Slots.{read_small}
use Rattle.kv_recover.proofs.PassLemmas.{slot_at-small}
use Rattle.kv_recover.proofs.value.small_value.Goals as goal

pub returns-clause-value : goal.returns-clause-value
returns-clause-value g c = λ tells stamp key value stands.
    let class = c.args.place.class in
    let image = g.D.Disk.seen c.args.disk.now in
    c.in_ok-value.ensures.value stamp key value
    (c.read_slot.ensures
    ∙ ap (λ n. read_small all_classes class (take (slot_size class) (drop n c.read_page.new.content)))
    c.spot-number.ensures.offset
    ∙ ap (λ p. read_small all_classes class (take (slot_size class)
    (drop (Rattle.kv_model.specs.Reading.offset_of class c.args.place.slot) p)))
    (c.in_ok-read_page.ensures.content tells ∙ ap (image class) c.spot-number.ensures.page)
    ∙ sym (slot_at-small image class c.args.place.slot c.requires.place.low c.requires.small)
    ∙ stands)
