-- The pages so far have their keys.
use Rattle.std.proofs.Common.{◌≡◌, length, map}
use Rattle.std.specs.List.{range_with_len}
use Rattle.kv_slab.proofs.order.order_of.Given as goal

abbrev pub invariant-loop-index : goal.invariant-loop-index
invariant-loop-index l = record {
  keys : map (λ key. key.2) l.order.items ≡ range_with_len 0 l.index;
  count : length l.order.items ≡ l.index;
}
