-- the joined seat has what all seats so far had
use Rattle.std.proofs.Common.{◌≡◌, ◌++◌}
use Rattle.kv_threads.proofs.SeatLemmas.{HasAll}
use Rattle.kv_threads.proofs.seats.join_seats.Given as goal

abbrev pub invariant-loop-other : goal.invariant-loop-other
invariant-loop-other l = record {
  parts : l.yielded ++ l.other-iterator.rest.items ≡ l.fn.others.items;
  counter : l.joined.counter ≡ l.stamps;
  all : HasAll l.joined l.fn.first l.yielded;
}
