-- where all sessions have ended it served
use Rattle.std.proofs.Math.Logic.{∥∥₁_elim, ∥∥₁_prop}
use Rattle.kv_mesh.specs.Settled.{AreSettled}
use Rattle.kv_mesh.proofs.OverLemmas.{ended-over}
use Rattle.kv_mesh.proofs.RingLemmas.{sessions-draw, workers-draw}
use Rattle.kv_mesh.proofs.ServedLemmas.{finished-serves}
use Rattle.kv_mesh.proofs.mesh.Mesh.finish.Goals as goal

pub hand_out-requires : goal.hand_out-requires
hand_out-requires g c =
    let mesh = c.args.self in
    let all = mesh.all in
    record {
      draw = (
        workers-draw all.workers.items all.sessions.items all.stamps all.start all.kept all.linked,
        sessions-draw all.workers.items all.sessions.items all.stamps all.start all.kept all.linked,
      );
      worker_room = mesh.workers_fit;
      session_room = mesh.sessions_fit;
    }

pub returns-clause-served : goal.returns-clause-served
returns-clause-served g c = λ over before begun is_before.
    let all = c.args.self.all in
    let out = c.hand_out.result in
    let e = c.hand_out.ensures in
    ∥∥₁_elim c.args.self.settled ∥∥₁_prop
    (λ (settled : AreSettled all.workers.items all.sessions.items all.start).
    finished-serves all.workers.items all.sessions.items all.stamps all.start all.kept all.linked
    c.end_laws.ensures (ended-over all.sessions.items over) settled.order out.workers.items
    out.sessions.items out.unsure e.workers e.sessions e.unsure before begun is_before)
