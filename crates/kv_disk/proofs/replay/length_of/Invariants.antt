-- The longest so far is that of the pages so far.
use Rattle.std.proofs.Common.{◌≡◌, take}
use Rattle.kv_disk.specs.Replay.{length_in}
use Rattle.kv_disk.proofs.replay.length_of.Given as goal

abbrev pub invariant-loop-spot : goal.invariant-loop-spot
invariant-loop-spot l = l.longest ≡ length_in (take l.spot-index l.spots) l.file
