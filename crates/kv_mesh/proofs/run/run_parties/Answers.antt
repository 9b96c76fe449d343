-- all parties make their turns, on threads or in rotation
use denote.Exit.{no}
use denote.Param.Send.{param_send, arg_send}
use Rattle.std.proofs.Common.{◌≡◌, refl, sym, ◌∙◌, subst}
use Rattle.kv_session_party.proofs.CrossLemmas.{party-send as session-send}
use Rattle.kv_session_party.specs.declared.party.SessionParty.{SessionParty}
use Rattle.kv_worker_party.proofs.CrossLemmas.{party-send as worker-send}
use Rattle.kv_worker_party.specs.declared.party.WorkerParty.{WorkerParty}
use Rattle.kv_mesh.specs.Mesh.{HasRoom}
use Rattle.kv_mesh.proofs.EachLemmas.{at-all}
use Rattle.kv_mesh.proofs.RingLemmas.{ringed, sessions-draw, workers-draw}
use Rattle.kv_mesh.proofs.StayLemmas.{has-run-on, ran-later, stay-ringed}
use Rattle.kv_mesh.proofs.run.run_parties.Goals as goal

pub run_all-workers-requires-clause-parties : goal.run_all-workers-requires-clause-parties
run_all-workers-requires-clause-parties g c κs within =
    let Worker = WorkerParty g.row.D.Denot g.row.I.Denot g.row.F.Denot g.D.Disk g.I.Index in
    let all = c.args.all in
    at-all (λ (p : Worker). p.seat.counter ≡ _) all.workers.items (λ k p at.
    workers-draw all.workers.items all.sessions.items all.stamps all.start all.kept all.linked k p
    at ∙ sym c.in-Ok.ensures.ok)

pub run_all-workers-requires-clause-others : goal.run_all-workers-requires-clause-others
run_all-workers-requires-clause-others g c κs within =
    let Session = SessionParty g.row.So.Denot g.row.Si.Denot g.row.F.Denot g.So.Source g.Si.Sink in
    let all = c.args.all in
    at-all (λ (p : Session). p.seat.counter ≡ _) all.sessions.items (λ k p at.
    sessions-draw all.workers.items all.sessions.items all.stamps all.start all.kept all.linked k p
    at ∙ sym c.in-Ok.ensures.ok)

pub turn_all-workers-requires-clause-parties : goal.turn_all-workers-requires-clause-parties
turn_all-workers-requires-clause-parties g c =
    let Worker = WorkerParty g.row.D.Denot g.row.I.Denot g.row.F.Denot g.D.Disk g.I.Index in
    let all = c.args.all in
    at-all (λ (p : Worker). p.seat.counter ≡ _) all.workers.items (λ k p at.
    workers-draw all.workers.items all.sessions.items all.stamps all.start all.kept all.linked k p
    at ∙ sym c.in-Err.ensures.value_returned)

pub turn_all-workers-requires-clause-others : goal.turn_all-workers-requires-clause-others
turn_all-workers-requires-clause-others g c =
    let Session = SessionParty g.row.So.Denot g.row.Si.Denot g.row.F.Denot g.So.Source g.Si.Sink in
    let all = c.args.all in
    at-all (λ (p : Session). p.seat.counter ≡ _) all.sessions.items (λ k p at.
    sessions-draw all.workers.items all.sessions.items all.stamps all.start all.kept all.linked k p
    at ∙ sym c.in-Err.ensures.value_returned)

pub end-requires : goal.end-requires
end-requires g c =
    let all = c.args.all in
    let ran = c.run_all-workers in
    let on = has-run-on all.workers.items ran.result.0.items all.sessions.items ran.result.1.items _ _
    (sym c.deref.ensures) ran.ensures.parties.each ran.ensures.others.each ran.ensures.others.ended
    ran.ensures.parties.draw ran.ensures.others.draw in
    record {
      draw = on.draw;
      ringed = stay-ringed all.workers.items ran.result.0.items all.sessions.items
          ran.result.1.items on.stay (ringed all.workers.items all.sessions.items all.stamps
          all.start all.kept all.linked);
      over = on.over;
      worker_room = subst (HasRoom c.args.worker_room) (sym on.stay.many_workers)
          c.requires.worker_room;
      session_room = subst (HasRoom c.args.session_room) (sym on.stay.many_sessions)
          c.requires.session_room;
    }

pub returns-in-Ok : goal.returns-in-Ok
returns-in-Ok g c =
    let all = c.args.all in
    let ran = c.run_all-workers in
    let on = has-run-on all.workers.items ran.result.0.items all.sessions.items ran.result.1.items _ _
    (sym c.deref.ensures) ran.ensures.parties.each ran.ensures.others.each ran.ensures.others.ended
    ran.ensures.parties.draw ran.ensures.others.draw in
    ran-later all.workers.items ran.result.0.items all.sessions.items ran.result.1.items on.stay
    c.end.result.workers.items c.end.result.sessions.items c.end.result.unsure c.end.ensures

pub end-requires-in-Err : goal.end-requires-in-Err
end-requires-in-Err g c =
    let all = c.args.all in
    let ran = c.turn_all-workers in
    let on = has-run-on all.workers.items ran.result.0.items all.sessions.items ran.result.1.items _ _
    refl ran.ensures.parties.each ran.ensures.others.each ran.ensures.others.ended
    ran.ensures.parties.draw ran.ensures.others.draw in
    record {
      draw = on.draw;
      ringed = stay-ringed all.workers.items ran.result.0.items all.sessions.items
          ran.result.1.items on.stay (ringed all.workers.items all.sessions.items all.stamps
          all.start all.kept all.linked);
      over = on.over;
      worker_room = subst (HasRoom c.args.worker_room) (sym on.stay.many_workers)
          c.requires.worker_room;
      session_room = subst (HasRoom c.args.session_room) (sym on.stay.many_sessions)
          c.requires.session_room;
    }

pub returns-in-Err : goal.returns-in-Err
returns-in-Err g c =
    let all = c.args.all in
    let ran = c.turn_all-workers in
    let on = has-run-on all.workers.items ran.result.0.items all.sessions.items ran.result.1.items _ _
    refl ran.ensures.parties.each ran.ensures.others.each ran.ensures.others.ended
    ran.ensures.parties.draw ran.ensures.others.draw in
    ran-later all.workers.items ran.result.0.items all.sessions.items ran.result.1.items on.stay
    c.end-in-Err.result.workers.items c.end-in-Err.result.sessions.items
    c.end-in-Err.result.unsure c.end-in-Err.ensures

pub run_all-workers-requires-send-P : goal.run_all-workers-requires-send-P
run_all-workers-requires-send-P g c κs within = param_send 0 _ (arg_send _ no _
    (worker-send _ _ _ g.D.Disk g.I.Index c.type_bounds.send-D c.type_bounds.send-I
    c.type_bounds.send-F))

pub run_all-workers-requires-send-Q : goal.run_all-workers-requires-send-Q
run_all-workers-requires-send-Q g c κs within = param_send 1 _ (arg_send _ no _
    (session-send _ _ _ g.So.Source g.Si.Sink c.type_bounds.send-So c.type_bounds.send-Si
    c.type_bounds.send-F))
