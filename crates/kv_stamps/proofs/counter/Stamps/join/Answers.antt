use Rattle.std.proofs.Common.{◌∙◌, arith}
use Rattle.kv_stamps.proofs.SeatLemmas.{joins}
use Rattle.kv_stamps.proofs.StepLemmas.{checks}
use Rattle.kv_stamps.proofs.counter.Stamps.join.Goals as goal

pub join_seat-requires : goal.join_seat-requires
join_seat-requires c = (
  rw (← c.seat.view_is, ← c.self.view_is) at c.requires.counter,
  rw (← c.other.view_is, ← c.self.view_is) at c.requires.other,
  c.other.invariant.plain,
  omega (arith, c.self.invariant),
  joins _ _ _ _ _ c.seat.invariant.live c.other.invariant.live,
)

pub load-requires : goal.load-requires
load-requires c =
    let own = rw (← c.seat.view_is, ← c.self.view_is) at c.requires.counter in
    let e = c.join_seat.ensures.2 in (
      c.join_seat.ensures.0 ∙ own,
      omega (arith, c.self.invariant),
      checks _ _ _ _ (rw e (omega (arith, c.seat.invariant.live))),
    )
