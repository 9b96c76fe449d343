-- The pages so far that have writes.
use Rattle.std.proofs.Common.{◌≡◌, take, filter}
use Rattle.kv_disk.specs.Replay.{is_waiting}
use Rattle.kv_disk.proofs.replay.waiting.Given as goal

abbrev pub invariant-loop-spot : goal.invariant-loop-spot
invariant-loop-spot l = l.waiting.items ≡ filter (is_waiting l.start l.log)
    (take l.spot-index l.spots)
