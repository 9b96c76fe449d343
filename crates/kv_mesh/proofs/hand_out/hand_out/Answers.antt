-- all parties are taken apart, and a look is made with their seats
use Rattle.std.proofs.Common.{Option, map, ap, ◌∙◌, subst}
use Rattle.std.specs.List.{list_any}
use Rattle.std.specs.Prelude.{IfSome}
use Rattle.kv_session_party.specs.declared.party.SessionParty.{SessionParty}
use Rattle.kv_stamps.specs.declared.view.View.{View}
use Rattle.kv_worker.specs.Worker.{WorkerView}
use Rattle.kv_worker_party.specs.declared.party.WorkerParty.{WorkerParty}
use Rattle.kv_mesh.specs.Joining.{HasLooked, joined_from}
use Rattle.kv_mesh.proofs.LoopLemmas.{list_any-map}
use Rattle.kv_mesh.proofs.hand_out.hand_out.Goals as goal

pub returns-clause-unsure : goal.returns-clause-unsure
returns-clause-unsure g c =
    let Party = WorkerParty g.row.D.Denot g.row.I.Denot g.row.F.Denot g.D.Disk g.I.Index in
    c.is_any_closed-unsure.ensures
    ∙ ap (list_any (λ (worker : WorkerView g.row.D.Denot g.row.I.Denot). worker.store.closed))
    (c.as_slice.ensures ∙ c.hand_out_workers-workers.ensures.workers)
    ∙ list_any-map (λ (worker : WorkerView g.row.D.Denot g.row.I.Denot). worker.store.closed)
    (λ (party : Party). party.worker) c.args.workers.items

pub returns-clause-seats : goal.returns-clause-seats
returns-clause-seats g c =
    let Party = SessionParty g.row.So.Denot g.row.Si.Denot g.row.F.Denot g.So.Source g.Si.Sink in
    subst (λ (o : Option View). IfSome o HasLooked)
    (c.hand_out_sessions-sessions.ensures.view ∙ ap (λ (o : Option View). joined_from o
    (map (λ (party : Party). party.seat) c.args.sessions.items))
    c.hand_out_workers-workers.ensures.view) c.look_with.ensures
