-- a lane is 0 where it was 0 in each block so far
use Rattle.std.proofs.Common.{◌≡◌, ◌-◌, ◌≤◌, eqb, length, take}
use Rattle.std.specs.List.{list_all}
use Rattle.kv_lanes.proofs.zero.is_zero_rest.Given as goal

abbrev pub invariant-loop-at : goal.invariant-loop-at
invariant-loop-at l = record {
  within : l.at ≤ length l.bytes;
  lanes : length l.seen ≡ 16;
  zero : list_all (λ byte. eqb byte 0) l.seen ≡ list_all (λ byte. eqb byte 0) (take l.at l.bytes);
}

abbrev pub decreases-loop-at : goal.decreases-loop-at
decreases-loop-at l = length l.bytes - l.at
