-- The pages of the slot have the item.
use Rattle.std.proofs.Common.{map, sym, ap, ◌∙◌}
use Rattle.std.specs.List.{range_with_len}
use Rattle.kv_model.specs.Layout.{all_classes, pages_in_slot}
use Rattle.kv_model.specs.Slots.{read_large}
use Rattle.kv_recover.proofs.LargeLemmas.{slot_at-large}
use Rattle.kv_recover.proofs.value.large_value.Goals as goal

pub returns-clause-value : goal.returns-clause-value
returns-clause-value g c = λ tells stamp key value stands.
    let class = c.args.place.class in
    let image = g.D.Disk.seen c.args.disk.now in
    c.in_ok-value.ensures.value stamp key value
    (c.in_ok-read_large.ensures.ok
    ∙ ap (read_large all_classes class) (c.as_slice.ensures ∙ c.in_ok-pages.ensures.pages tells
    ∙ ap (λ n. map (image class) (range_with_len c.spot-first.result.0 n))
    c.pages_in_slot.ensures.value
    ∙ ap (λ n. map (image class) (range_with_len n (pages_in_slot class))) c.spot-first.ensures.page)
    ∙ sym (slot_at-large image class c.args.place.slot c.requires.large c.requires.place.high)
    ∙ stands)
