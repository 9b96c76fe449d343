use Rattle.kv_tree.proofs.MapLemmas.{nothing_found}
use Rattle.kv_tree.proofs.tree.TreeIndexIndex.next_at_or_after.Goals as goal

pub returns-in-None : goal.returns-in-None
returns-in-None c = record {
  next = λ key _. nothing_found c.self.inside.nodes _ c.self.view_is c.in-None.is key;
}
