-- the rest of the workers decides
use Rattle.std.proofs.Common.{◌≡◌, drop}
use Rattle.std.specs.List.{list_any}
use Rattle.kv_mesh.proofs.hand_out.is_any_closed.Given as goal

abbrev pub invariant-loop-worker : goal.invariant-loop-worker
invariant-loop-worker g l = list_any (λ worker. worker.store.closed)
    (drop l.worker-index l.workers) ≡ list_any (λ worker. worker.store.closed) l.workers
