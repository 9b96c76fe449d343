use Rattle.std.proofs.Common.{refl, ap}
use Rattle.std.specs.FinMap.{empty_of_len}
use Rattle.kv_index.proofs.EntriesLemmas.{len_is}
use Rattle.kv_tree.specs.Subtree.{Subtree}
use Rattle.kv_tree.proofs.nodes.Nodes.new.Goals as goal

pub returns-clause-none : goal.returns-clause-none
returns-clause-none c =
    rw (ap (λ (s : Subtree). s.pairs) c.in_ok-root.ensures.ok) (empty_of_len _ (len_is _ refl))
