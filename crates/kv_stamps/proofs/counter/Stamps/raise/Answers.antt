use Rattle.std.proofs.Common.{arith}
use Rattle.kv_stamps.proofs.StepLemmas.{raises}
use Rattle.kv_stamps.proofs.counter.Stamps.raise.Goals as goal

pub fetch_max-found-requires : goal.fetch_max-found-requires
fetch_max-found-requires c = (
  rw (← c.seat.view_is, ← c.self.view_is) at c.requires.counter,
  omega (arith, c.self.invariant),
  raises _ _ _ _ _ c.seat.invariant.live c.requires.to,
)
