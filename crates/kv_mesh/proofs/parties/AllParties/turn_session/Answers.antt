-- a session's turn, and then a look at all rings
use Rattle.std.proofs.Math.Logic.{∥∥₁_map}
use Rattle.kv_mesh.proofs.TurnLemmas.{session-became, settled-session, turned-session}
use Rattle.kv_mesh.proofs.parties.AllParties.turn_session.Goals as goal

pub returns-clause-settled : goal.returns-clause-settled
returns-clause-settled g c =
    let old = c.args.self.now in
    let mid = c.move_session.new.self in
    let now = c.compare_all.new.self in
    let e = c.compare_all.ensures in
    ∥∥₁_map c.requires.settled (settled-session old.workers.items old.sessions.items old.start
    c.args.session mid.workers.items now.workers.items mid.sessions.items now.sessions.items
    mid.start now.start c.move_session.ensures.moved c.move_session.ensures.others e.same e.start
    e.order)

pub returns-clause-became : goal.returns-clause-became
returns-clause-became g c =
    let old = c.args.self.now in
    let mid = c.move_session.new.self in
    let now = c.compare_all.new.self in
    let e = c.compare_all.ensures in
    session-became old.workers.items old.sessions.items old.start c.args.session
    mid.workers.items now.workers.items mid.sessions.items now.sessions.items mid.start now.start
    c.move_session.ensures.moved c.move_session.ensures.others e.same e.start

pub returns-clause-turned : goal.returns-clause-turned
returns-clause-turned g c =
    let old = c.args.self.now in
    let mid = c.move_session.new.self in
    let now = c.compare_all.new.self in
    let e = c.compare_all.ensures in
    turned-session old.workers.items old.sessions.items old.start c.args.session
    mid.workers.items now.workers.items mid.sessions.items now.sessions.items mid.start now.start
    c.move_session.ensures.moved c.move_session.ensures.others e.same e.start
