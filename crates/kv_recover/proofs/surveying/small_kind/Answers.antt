-- The slot of the page has its kind.
use Rattle.std.proofs.Common.{take, drop, sym, ap, ◌∙◌}
use Rattle.kv_model.specs.Layout.{all_classes, slot_size}
use Rattle.kv_model.specs.Reading.{offset_of}
use Rattle.kv_model.specs.Slots.{read_small}
use Rattle.kv_recover.specs.Kinds.{kind_at}
use Rattle.kv_recover.proofs.PassLemmas.{slot_at-small}
use Rattle.kv_recover.proofs.surveying.small_kind.Goals as goal

pub returns-clause-kind : goal.returns-clause-kind
returns-clause-kind g c = λ tells before.
    let class = c.args.place.class in
    let image = g.D.Disk.seen c.args.disk.now in
    c.kind_of.ensures ∙ ap (kind_at (g.I.Index.entries c.args.index.now) c.args.share.worker c.args.share.workers class c.args.place.slot)
    (c.read_slot.ensures
    ∙ ap (λ n. read_small all_classes class (take (slot_size class) (drop n c.turn_page.new.page)))
    c.in_ok-offset.ensures.offset
    ∙ ap (λ p. read_small all_classes class
    (take (slot_size class) (drop (offset_of class c.args.place.slot) p)))
    (c.in_ok-offset.ensures.page tells before)
    ∙ sym (slot_at-small image class c.args.place.slot c.requires.class.0 c.requires.class.1))
