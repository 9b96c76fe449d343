-- the next session
use Rattle.std.proofs.Common.{◌≡◌, ◌⊎◌, ⊎_elim, ◌<◌, subst, arith}
use Rattle.kv_mesh.specs.Settled.{AreInOrder}
use Rattle.kv_mesh.proofs.LookLemmas.{looks-same, looks-then, order-looked, sessions-long}
use Rattle.kv_mesh.proofs.LookLemmas.{workers-long}
use Rattle.kv_mesh.proofs.RingLemmas.{ringed-looked}
use Rattle.kv_mesh.proofs.compare.compare_all.Goals as goal

pub compare_session-requires : goal.compare_session-requires
compare_session-requires g c =
    let looks = c.loop-session.invariant.same in
    let sessions = c.args.sessions.now.items in
    let new = c.loop-session.sessions.items in
    record {
      place = omega (
        arith,
        c.loop-session-test.true,
        c.len-session-end.ensures,
        c.args.sessions.now.ok,
        sessions-long sessions new looks.sessions_began,
      );
      ringed = ringed-looked c.args.workers.now.items c.loop-session.workers.items sessions new
          c.requires looks;
    }

pub loop-session-init : goal.loop-session-init
loop-session-init g c = record {
  order = λ session worker lt less. absurd (omega (arith, lt));
  same = looks-same c.args.workers.now.items c.args.sessions.now.items;
}

pub loop-session-preserved : goal.loop-session-preserved
loop-session-preserved g c =
    let inv = c.loop-session.invariant in
    let old = c.args.workers.now.items in
    let mid = c.loop-session.workers.items in
    let between = c.loop-session.sessions.items in
    let now = c.compare_session.new.workers.items in
    let new = c.compare_session.new.sessions.items in
    let e = c.compare_session.ensures in
    let long = workers-long old mid inv.same.workers_began in
    record {
      order = λ s w lt less. ⊎_elim
          (λ (before : s < c.loop-session.session). order-looked mid now between new s w e.same
          (inv.order s w before less))
          (λ (is : c.loop-session.session ≡ s). subst (λ t. AreInOrder now new t w) is
          (e.order w (omega (arith, long, less))))
          (let both : (s < c.loop-session.session) ⊎ (c.loop-session.session ≡ s) =
          grind arith in both);
      same = looks-then old mid now c.args.sessions.now.items between new inv.same e.same;
    }

pub returns-clause-order : goal.returns-clause-order
returns-clause-order g c = λ s w near far here there.
    let looks = c.loop-session.invariant.same in
    c.loop-session.invariant.order s w
    (omega (
      arith,
      here.0,
      c.loop-session-test.false,
      c.len-session-end.ensures,
      c.args.sessions.now.ok,
      sessions-long c.args.sessions.now.items c.loop-session.sessions.items looks.sessions_began,
    ))
    (omega (
      arith,
      there.0,
      workers-long c.args.workers.now.items c.loop-session.workers.items looks.workers_began,
    )) near far here there
