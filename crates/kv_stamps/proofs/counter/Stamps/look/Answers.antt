use Rattle.std.proofs.Common.{arith}
use Rattle.kv_stamps.proofs.StepLemmas.{looks}
use Rattle.kv_stamps.proofs.counter.Stamps.look.Goals as goal

pub load-found-requires : goal.load-found-requires
load-found-requires c = (
  rw (← c.seat.view_is, ← c.self.view_is) at c.requires,
  omega (arith, c.self.invariant),
  looks _ _ _ _ c.seat.invariant.live,
)
