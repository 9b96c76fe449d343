-- the parties ran until they had ended
use Rattle.kv_mesh.proofs.RunLemmas.{all-ended, ran-in-all, ran-serves}
use Rattle.kv_mesh.proofs.mesh.Mesh.run.Goals as goal

pub run_parties-requires-clause-worker_room : goal.run_parties-requires-clause-worker_room
run_parties-requires-clause-worker_room g c κs within = c.args.self.workers_fit

pub run_parties-requires-clause-session_room : goal.run_parties-requires-clause-session_room
run_parties-requires-clause-session_room g c κs within = c.args.self.sessions_fit

pub returns-clause-ended : goal.returns-clause-ended
returns-clause-ended g c =
    let all = c.args.self.all in
    let out = c.run_parties.result in
    all-ended all.workers.items all.sessions.items all.stamps all.start all.kept all.linked
    c.end_laws.ensures out.workers.items out.sessions.items out.unsure c.run_parties.ensures

pub returns-clause-served : goal.returns-clause-served
returns-clause-served g c =
    let all = c.args.self.all in
    let out = c.run_parties.result in
    ran-serves all.workers.items all.sessions.items all.stamps all.start all.kept all.linked
    c.end_laws.ensures out.workers.items out.sessions.items out.unsure c.run_parties.ensures

pub returns-clause-in_all : goal.returns-clause-in_all
returns-clause-in_all g c =
    let all = c.args.self.all in
    let out = c.run_parties.result in
    ran-in-all all.workers.items all.sessions.items all.stamps all.start all.kept all.linked
    c.end_laws.ensures out.workers.items out.sessions.items out.unsure c.run_parties.ensures
