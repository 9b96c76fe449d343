-- the next worker
use Rattle.std.proofs.Common.{◌≡◌, ◌⊎◌, ⊎_elim, ◌<◌, subst, arith}
use Rattle.kv_mesh.specs.Settled.{AreInOrder}
use Rattle.kv_mesh.proofs.LookLemmas.{looks-same, looks-then, order-looked, sessions-long}
use Rattle.kv_mesh.proofs.LookLemmas.{workers-long}
use Rattle.kv_mesh.proofs.RingLemmas.{ringed-looked}
use Rattle.kv_mesh.proofs.compare.compare_session.Goals as goal

pub compare-requires : goal.compare-requires
compare-requires g c =
    let looks = c.loop-worker.invariant.same in
    let workers = c.args.workers.now.items in
    let sessions = c.args.sessions.now.items in
    let now = c.loop-worker.workers.items in
    let new = c.loop-worker.sessions.items in
    record {
      place = (
        omega (arith, c.requires.place, sessions-long sessions new looks.sessions_began),
        omega (
          arith,
          c.loop-worker-test.true,
          c.len-worker-end.ensures,
          c.args.workers.now.ok,
          workers-long workers now looks.workers_began,
        ),
      );
      ringed = ringed-looked workers now sessions new c.requires.ringed looks;
    }

pub loop-worker-init : goal.loop-worker-init
loop-worker-init g c = record {
  order = λ worker lt. absurd (omega (arith, lt));
  same = looks-same c.args.workers.now.items c.args.sessions.now.items;
}

pub loop-worker-preserved : goal.loop-worker-preserved
loop-worker-preserved g c =
    let inv = c.loop-worker.invariant in
    let mid = c.loop-worker.workers.items in
    let between = c.loop-worker.sessions.items in
    let now = c.compare.new.workers.items in
    let new = c.compare.new.sessions.items in
    let e = c.compare.ensures in
    record {
      order = λ w lt. ⊎_elim
          (λ (less : w < c.loop-worker.worker). order-looked mid now between new c.args.session w
          e.same (inv.order w less))
          (λ (is : c.loop-worker.worker ≡ w). subst (AreInOrder now new c.args.session) is e.order)
          (let both : (w < c.loop-worker.worker) ⊎ (c.loop-worker.worker ≡ w) = grind arith in both);
      same = looks-then c.args.workers.now.items mid now c.args.sessions.now.items between new
          inv.same e.same;
    }

pub returns-clause-order : goal.returns-clause-order
returns-clause-order g c = λ w lt. c.loop-worker.invariant.order w
    (omega (
      arith,
      c.loop-worker-test.false,
      c.len-worker-end.ensures,
      c.args.workers.now.ok,
      lt,
    ))
