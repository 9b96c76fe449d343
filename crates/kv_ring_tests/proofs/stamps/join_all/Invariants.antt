use Rattle.std.proofs.Common.{◌≡◌, All, IfOk}
use Rattle.kv_ring_tests.proofs.stamps.join_all.Given as goal

abbrev pub invariant-loop-drawer : goal.invariant-loop-drawer
invariant-loop-drawer l = record {
  own : l.all.seat.counter ≡ l.stamps;
  rest : All (λ r. IfOk r (λ drawer. drawer.seat.counter ≡ l.stamps)) l.drawer-iterator.rest.items;
}
