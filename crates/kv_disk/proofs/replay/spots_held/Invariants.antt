-- The pages so far are those of the pages at the start, and then of the calls so far.
use Rattle.std.proofs.Common.{◌≡◌, ◌≤◌, map, take, vec_capacity}
use Rattle.kv_disk.specs.Replay.{spot_of, spots_in}
use Rattle.kv_disk.proofs.replay.spots_held.Given as goal

abbrev pub invariant-loop-held : goal.invariant-loop-held
invariant-loop-held l = record {
  items : l.spots.items ≡ map spot_of (take l.held-index l.start);
  capacity : l.room ≤ vec_capacity l.spots;
}

abbrev pub invariant-loop-call : goal.invariant-loop-call
invariant-loop-call l = record {
  items : l.spots.items ≡ spots_in l.start (take l.call-index l.log);
  capacity : l.room ≤ vec_capacity l.spots;
}
