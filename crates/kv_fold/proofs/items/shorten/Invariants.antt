use Rattle.std.proofs.Common.{◌≡◌, ◌≤◌, vec_len, take}
use Rattle.std.specs.List.{sum_by}
use Rattle.kv_model.specs.Fold.{item_size}
use Rattle.kv_fold.proofs.items.shorten.Given as goal

abbrev pub invariant-loop-items : goal.invariant-loop-items
invariant-loop-items l = record {
  counted : l.left ≡ sum_by item_size l.items.items;
  count : l.count ≤ vec_len l.items;
  same : take l.count l.items.items ≡ take l.count l.initial.items.items;
}

abbrev pub decreases-loop-items : goal.decreases-loop-items
decreases-loop-items l = vec_len l.items
