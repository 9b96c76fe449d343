use Rattle.kv_tree.proofs.MapLemmas.{nothing_spare}
use Rattle.kv_tree.proofs.tree.TreeIndexIndex.set.Goals as goal

pub unreachable-requires : goal.unreachable-requires
unreachable-requires c =
    nothing_spare c.self.inside.nodes _ c.self.view_is c.in-None.is c.args.key c.requires.room
