-- the rings of the first sessions were looked at
use Rattle.std.proofs.Common.{ℕ, ◌<◌, length}
use Rattle.kv_mesh.specs.Moves.{Looks}
use Rattle.kv_mesh.specs.Settled.{AreInOrder}
use Rattle.kv_mesh.proofs.compare.compare_all.Given as goal

abbrev pub invariant-loop-session : goal.invariant-loop-session
invariant-loop-session g l = record {
  order : (session worker : ℕ) → session < l.session → worker < length l.initial.workers.items
      → AreInOrder l.workers.items l.sessions.items session worker;
  same : Looks l.initial.workers.items l.initial.sessions.items l.workers.items l.sessions.items;
}
