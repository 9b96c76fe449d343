-- An item has the kind of its key.
use Rattle.std.proofs.Common.{sym, ap, ◌∙◌}
use Rattle.kv_slot.specs.Views.{what_stands}
use Rattle.kv_recover.specs.Kinds.{kind_at}
use Rattle.kv_recover.proofs.kind.kind_of.Goals as goal

pub returns-in-Item : goal.returns-in-Item
returns-in-Item g c = c.item_kind.ensures c.in-Item.stamp c.in-Item.value.now
    ∙ ap (λ slot. kind_at (g.I.Index.entries c.args.index.now) c.args.share.worker
    c.args.share.workers c.args.place.class c.args.place.slot (what_stands slot)) (sym c.in-Item.is)
