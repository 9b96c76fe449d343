-- a lane is 0 where the bytes under it were the same in each block so far
use Rattle.std.proofs.Common.{◌≡◌, ◌-◌, ◌≤◌, eqb, length, take, bit_xor}
use Rattle.std.specs.List.{list_all}
use Rattle.std.specs.Simd.Lanes.{zip2}
use Rattle.kv_lanes.proofs.equal.same.Given as goal

abbrev pub invariant-loop-at : goal.invariant-loop-at
invariant-loop-at l = record {
  within : l.at ≤ length l.a;
  lanes : length l.apart ≡ 64;
  zero : list_all (λ byte. eqb byte 0) l.apart ≡ list_all (λ byte. eqb byte 0)
      (take l.at (zip2 bit_xor l.a l.b));
}

abbrev pub decreases-loop-at : goal.decreases-loop-at
decreases-loop-at l = length l.a - l.at
