use Rattle.std.proofs.Common.{◌-◌, ◌≤◌, List, ℕ, length, take}
use Rattle.kv_tree.specs.Head.{HasHead}
use Rattle.kv_tree.specs.Subtree.{Past}
use Rattle.kv_tree.proofs.search.count_by_halves.Given as goal

abbrev pub invariant-loop-low : goal.invariant-loop-low
invariant-loop-low l = record {
  order : l.low ≤ l.high;
  bound : l.high ≤ length l.items;
  past : (key : List ℕ) → HasHead key l.number → Past key (take l.low l.items);
}

abbrev pub decreases-loop-low : goal.decreases-loop-low
decreases-loop-low l = l.high - l.low
