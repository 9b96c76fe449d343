use Rattle.std.proofs.Common.{◌≡◌, map}
use Rattle.kv_ring_tests.proofs.stamps.drawer.Drawer.draw.Given as goal

abbrev pub invariant-loop-i : goal.invariant-loop-i
invariant-loop-i l = record {
  own : l.seat.counter ≡ l.fn.seat.counter;
  noted : l.firsts.items ≡ map (λ r. r.first) l.seat.view.drawn;
}
