-- what was added and what is left are all bytes
use Rattle.std.proofs.Common.{◌≡◌, ◌+◌, length, sum}
use Rattle.kv_lanes.proofs.total.sum_bytes.Given as goal

abbrev pub invariant-loop-rest : goal.invariant-loop-rest
invariant-loop-rest l = l.total + sum l.rest ≡ sum l.fn.bytes

abbrev pub decreases-loop-rest : goal.decreases-loop-rest
decreases-loop-rest l = length l.rest
