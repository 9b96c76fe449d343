use Rattle.std.proofs.Common.{◌≤◌, List, ℕ, take}
use Rattle.kv_tree.specs.Head.{HasHead}
use Rattle.kv_tree.specs.Subtree.{Past}
use Rattle.kv_tree.proofs.search.count_below.Given as goal

abbrev pub invariant-loop-item : goal.invariant-loop-item
invariant-loop-item l = record {
  bound : l.at ≤ l.item-index;
  past : (key : List ℕ) → HasHead key l.number → Past key (take l.at l.items);
}
