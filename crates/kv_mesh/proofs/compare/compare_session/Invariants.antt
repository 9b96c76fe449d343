-- the rings of the first workers were looked at
use Rattle.std.proofs.Common.{ℕ, ◌<◌}
use Rattle.kv_mesh.specs.Moves.{Looks}
use Rattle.kv_mesh.specs.Settled.{AreInOrder}
use Rattle.kv_mesh.proofs.compare.compare_session.Given as goal

abbrev pub invariant-loop-worker : goal.invariant-loop-worker
invariant-loop-worker g l = record {
  order : (worker : ℕ) → worker < l.worker
      → AreInOrder l.workers.items l.sessions.items l.session worker;
  same : Looks l.initial.workers.items l.initial.sessions.items l.workers.items l.sessions.items;
}
