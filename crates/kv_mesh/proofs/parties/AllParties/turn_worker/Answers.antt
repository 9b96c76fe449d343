-- a worker's turn, and then a look at all rings
use Rattle.std.proofs.Math.Logic.{∥∥₁_map}
use Rattle.kv_mesh.proofs.TurnLemmas.{settled-worker, turned-worker, worker-became}
use Rattle.kv_mesh.proofs.parties.AllParties.turn_worker.Goals as goal

pub returns-clause-settled : goal.returns-clause-settled
returns-clause-settled g c =
    let old = c.args.self.now in
    let mid = c.move_worker.new.self in
    let now = c.compare_all.new.self in
    let e = c.compare_all.ensures in
    ∥∥₁_map c.requires.settled (settled-worker old.workers.items old.sessions.items old.stamps
    old.start old.kept old.linked c.args.worker mid.kept mid.workers.items now.workers.items
    mid.sessions.items now.sessions.items mid.start now.start c.move_worker.ensures.moved
    c.move_worker.ensures.others e.same e.order e.start c.mesh_laws.ensures)

pub returns-clause-became : goal.returns-clause-became
returns-clause-became g c =
    let old = c.args.self.now in
    let mid = c.move_worker.new.self in
    let now = c.compare_all.new.self in
    let e = c.compare_all.ensures in
    worker-became old.workers.items old.sessions.items old.start old.kept c.args.worker mid.kept
    mid.workers.items now.workers.items mid.sessions.items now.sessions.items mid.start now.start
    c.move_worker.ensures.moved c.move_worker.ensures.others e.same e.start

pub returns-clause-turned : goal.returns-clause-turned
returns-clause-turned g c =
    let old = c.args.self.now in
    let mid = c.move_worker.new.self in
    let now = c.compare_all.new.self in
    let e = c.compare_all.ensures in
    turned-worker old.workers.items old.sessions.items old.start old.kept c.args.worker mid.kept
    mid.workers.items now.workers.items mid.sessions.items now.sessions.items mid.start now.start
    c.move_worker.ensures.moved c.move_worker.ensures.others e.same e.start
