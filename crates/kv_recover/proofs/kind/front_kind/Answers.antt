-- A whole item has the kind of its key.
use Rattle.std.proofs.Common.{sym, ap, ◌∙◌}
use Rattle.kv_model.specs.Slots.{Item}
use Rattle.kv_slot.specs.Views.{what_stands}
use Rattle.kv_recover.specs.Kinds.{kind_at}
use Rattle.kv_recover.specs.Large.{slot_from}
use Rattle.kv_recover.proofs.kind.front_kind.Goals as goal

pub returns-then-whole : goal.returns-then-whole
returns-then-whole g c = λ value. c.item_kind.ensures c.in-Item.stamp value
    ∙ ap (λ whole. kind_at (g.I.Index.entries c.args.index.now) c.args.share.worker
    c.args.share.workers c.args.place.class c.args.place.slot
    (slot_from (Item c.in-Item.stamp c.in-Item.key.now c.in-Item.value.now) whole value))
    (sym c.if-whole.true)
    ∙ ap (λ slot. kind_at (g.I.Index.entries c.args.index.now) c.args.share.worker
    c.args.share.workers c.args.place.class c.args.place.slot
    (slot_from (what_stands slot) c.args.whole value)) (sym c.in-Item.is)
