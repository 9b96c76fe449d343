use Rattle.kv_tree.proofs.FillLemmas.{filled}
use Rattle.kv_tree.proofs.node.Node.own.Goals as goal

pub returns-clause-filled : goal.returns-clause-filled
returns-clause-filled c = filled _ _ _ c.self.view_is c.self.invariant.kids c.self.invariant.shape
