-- the rest of the workers decides
use Rattle.std.proofs.Common.{◌≡◌, drop}
use Rattle.kv_mesh.specs.Mesh.{workers_ended}
use Rattle.kv_mesh.proofs.ended.workers_ended.Given as goal

abbrev pub invariant-loop-party : goal.invariant-loop-party
invariant-loop-party g l = workers_ended (drop l.party-index l.workers) ≡ workers_ended l.workers
