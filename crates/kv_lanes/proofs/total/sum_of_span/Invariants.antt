-- the lanes add up to the bytes of the blocks so far
use Rattle.std.proofs.Common.{◌≡◌, ◌-◌, ◌≤◌, length, take, sum}
use Rattle.std.specs.Simd.Lanes.{sum_l}
use Rattle.kv_lanes.proofs.total.sum_of_span.Given as goal

abbrev pub invariant-loop-at : goal.invariant-loop-at
invariant-loop-at l = record {
  within : l.at ≤ length l.bytes;
  lanes : length l.lanes ≡ 16;
  sums : sum_l l.lanes ≡ sum (take l.at l.bytes);
}

abbrev pub decreases-loop-at : goal.decreases-loop-at
decreases-loop-at l = length l.bytes - l.at
