use Rattle.std.proofs.Common.{sym}
use Rattle.kv_tree.proofs.MapLemmas.{nothing_counted}
use Rattle.kv_tree.proofs.tree.TreeIndexIndex.len.Goals as goal

pub returns-in-None : goal.returns-in-None
returns-in-None c = record {
  value = sym (nothing_counted c.self.inside.nodes _ c.self.view_is c.in-None.is);
}
