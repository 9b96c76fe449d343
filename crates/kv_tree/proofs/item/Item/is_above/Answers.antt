use Rattle.std.proofs.Common.{sym, ap, ◌∙◌}
use Rattle.std.specs.Ordering.{nat_cmp}
use Rattle.std.specs.Cmp.Lexicographic.{slice_cmp}
use Rattle.kv_tree.specs.Subtree.{Pair}
use Rattle.std.proofs.lemmas.Bool.{ltb-true}
use Rattle.kv_tree.proofs.HeadLemmas.{head_less}
use Rattle.kv_tree.proofs.item.Item.is_above.Goals as goal

pub returns : goal.returns
returns c above key h =
    sym (ap (λ (p : Pair). slice_cmp nat_cmp key p.0) c.self.view_is)
    ∙ head_less h c.self.invariant (ltb-true _ _ above)
