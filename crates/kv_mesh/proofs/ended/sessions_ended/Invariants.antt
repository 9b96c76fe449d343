-- the rest of the sessions decides
use Rattle.std.proofs.Common.{◌≡◌, drop}
use Rattle.kv_mesh.specs.Mesh.{sessions_ended}
use Rattle.kv_mesh.proofs.ended.sessions_ended.Given as goal

abbrev pub invariant-loop-party : goal.invariant-loop-party
invariant-loop-party g l = sessions_ended (drop l.party-index l.sessions)
    ≡ sessions_ended l.sessions
