use Rattle.std.proofs.Common.{arith}
use Rattle.kv_stamps.proofs.SeatLemmas.{splits}
use Rattle.kv_stamps.proofs.counter.Stamps.split.Goals as goal

pub split_seat-other-requires : goal.split_seat-other-requires
split_seat-other-requires c = (
  rw (← c.seat.view_is, ← c.self.view_is) at c.requires.counter,
  omega (arith, c.self.invariant),
  splits _ _ _ (rw (← c.seat.view_is) at c.requires.weight)
      (rw (← c.seat.view_is) at c.requires.unspent),
)
