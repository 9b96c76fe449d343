-- the next turn
use Rattle.std.proofs.Common.{◌≡◌, ◌∙◌, get_or, length, refl, sym, ap, subst, subst₂, arith}
use Rattle.std.proofs.Math.Logic.{∥∥₁_elim, ∥∥₁_prop}
use Rattle.kv_mesh.specs.Mesh.{HasRoom}
use Rattle.kv_mesh.specs.Moves.{TurnsParty}
use Rattle.kv_mesh.proofs.LookLemmas.{become-same, become-then, sessions-long, workers-long}
use Rattle.kv_mesh.proofs.MomentLemmas.{prefixes-left}
use Rattle.kv_mesh.proofs.ServeLemmas.{serve-as-one}
use Rattle.kv_mesh.proofs.mesh.Mesh.run_turns.Goals as goal

pub loop-number-init : goal.loop-number-init
loop-number-init g c =
    let old = c.args.self.now.all in
    record {
      became = become-same old.workers.items old.sessions.items old.start;
      none = λ start. (refl, refl);
      one = λ number is first. absurd (omega (arith, first));
    }

pub loop-number-preserved : goal.loop-number-preserved
loop-number-preserved g c =
    let old = c.args.self.now.all in
    let mid = c.loop-number.self.all in
    let now = c.turn.new.self in
    let inv = c.loop-number.invariant in
    record {
      became = become-then old.workers.items mid.workers.items now.workers.items
          old.sessions.items mid.sessions.items now.sessions.items old.start mid.start now.start
          inv.became c.turn.ensures.became;
      none = λ start. absurd (omega (arith, start));
      one = λ number is first.
          let start : c.loop-number.number-index ≡ 0 = omega (arith, first) in
          let same = inv.none start in
          let named : c.from.result ≡ number = c.from.ensures
          ∙ ap (λ k. get_or c.args.schedule.now k 0) start ∙ ap (λ xs. get_or xs 0 0) is in
          subst (λ n. TurnsParty n old.workers.items old.sessions.items now.workers.items
          now.sessions.items) named (subst₂ (λ ws ss. TurnsParty c.from.result ws ss
          now.workers.items now.sessions.items) same.0 same.1 c.turn.ensures.turned);
    }

pub invariant_of-self : goal.invariant_of-self
invariant_of-self g c =
    let old = c.loop-number.self in
    let now = c.turn.new.self in
    let began = c.turn.ensures.became.began in
    record {
      settled = c.turn.ensures.settled;
      workers_fit = subst (HasRoom old.worker_room)
          (sym (workers-long old.all.workers.items now.workers.items began.workers_began))
          old.workers_fit;
      sessions_fit = subst (HasRoom old.session_room)
          (sym (sessions-long old.all.sessions.items now.sessions.items began.sessions_began))
          old.sessions_fit;
    }

pub returns-clause-stands : goal.returns-clause-stands
returns-clause-stands g c = λ before begun is_before.
    let all = c.loop-number.self.all in
    ∥∥₁_elim c.loop-number.self.settled ∥∥₁_prop
    (λ settled. serve-as-one c.mesh_laws.ensures all.workers.items all.sessions.items all.stamps
    all.start all.kept all.linked settled before begun is_before)

pub returns-clause-began : goal.returns-clause-began
returns-clause-began g c = c.loop-number.invariant.became.began

pub returns-clause-moments : goal.returns-clause-moments
returns-clause-moments g c = λ before begun is_before w was is here there moment from to image left.
    let old = c.args.self.now in
    let new = c.loop-number.self in
    ∥∥₁_elim old.settled ∥∥₁_prop (λ settled. ∥∥₁_elim new.settled ∥∥₁_prop (λ settled_now.
    prefixes-left c.mesh_laws.ensures old.all.workers.items old.all.sessions.items old.all.stamps
    old.all.start old.all.kept old.all.linked settled new.all.workers.items new.all.sessions.items
    new.all.stamps new.all.start new.all.kept new.all.linked settled_now
    c.loop-number.invariant.became before begun is_before w was is here there moment from to image left))

pub returns-clause-one : goal.returns-clause-one
returns-clause-one g c = λ number is. c.loop-number.invariant.one number is (omega (
  arith,
  ap length is,
  c.loop-number-test.false,
  c.loop-number.auto.number-index-end,
))
