-- the sum of the bytes so far
use Rattle.std.proofs.Common.{◌≡◌, ◌*◌, ◌≤◌, sum, take}
use Rattle.kv_lanes.proofs.total.sum_plain.Given as goal

abbrev pub invariant-loop-byte : goal.invariant-loop-byte
invariant-loop-byte l =
    record {
      sums : l.total ≡ sum (take l.byte-index l.bytes);
      bound : l.total ≤ 255 * l.byte-index;
    }
