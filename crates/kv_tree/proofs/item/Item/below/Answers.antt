use Rattle.std.proofs.Common.{sym, ap, ◌∙◌}
use Rattle.std.specs.Ordering.{nat_cmp}
use Rattle.std.specs.Cmp.Lexicographic.{slice_cmp}
use Rattle.kv_tree.specs.Subtree.{Pair}
use Rattle.kv_tree.proofs.HeadLemmas.{head_greater}
use Rattle.kv_tree.proofs.item.Item.below.Goals as goal

pub returns-then-self-number-clause-less : goal.returns-then-self-number-clause-less
returns-then-self-number-clause-less c one key h =
    sym (ap (λ (p : Pair). slice_cmp nat_cmp key p.0) c.self.view_is)
    ∙ head_greater h c.self.invariant c.if-self-number.true
