-- One slot more.
use Rattle.std.proofs.Common.{◌≡◌, inl, inr, ◌+◌, subst, arith, refl, ◌∙◌}
use Rattle.kv_base.proofs.CrashLemmas.{started, joins, weaker}
use Rattle.kv_recover.specs.FreeLarge.{HasFreedAny}
use Rattle.kv_recover.proofs.FreeLargeSteps.{any-later, any-none}
use Rattle.kv_recover.proofs.free_large.free_large_class.Goals as goal

pub returns-then-count-end-clause-done : goal.returns-then-count-end-clause-done
returns-then-count-end-clause-done g c = λ first ends end_is taken has.
    any-none g.D.Disk (g.I.Index.entries c.args.index.now) first ends c.args.floor c.args.class
    c.args.end c.args.disk.now c.args.stack.now end_is
    (λ tells. taken tells c.if-count-end.true) has

pub returns-then-count-end-clause-any_moment : goal.returns-then-count-end-clause-any_moment
returns-then-count-end-clause-any_moment g c = λ first ends end_is has.
    started _ _ _ (λ image left. any-later (g.I.Index.entries c.args.index.now) first ends
    c.args.floor c.args.class 0 c.args.class c.args.end image (λ k s before. elim before [
      | inl below ↦ inl below
      | inr at ↦ inr (at.0, omega (arith, at.1))
    ]) (has.crash image left))

pub loop-slot-init : goal.loop-slot-init
loop-slot-init g c = record {
  few = omega (arith, c.requires.none);
  calm = refl;
  done = λ first ends end_is has. has;
  any_moment = λ first ends end_is has. started _ _ _ (λ image left. any-later
      (g.I.Index.entries c.args.index.now) first ends
      c.args.floor c.args.class 0 c.args.class c.args.end image
      (λ k s before. elim before [
        | inl below ↦ inl below
        | inr at ↦ inr (at.0, omega (arith, at.1))
      ]) (has.crash image left));
}

pub returns-in_err-free_large_at-clause-any_moment :
    goal.returns-in_err-free_large_at-clause-any_moment
returns-in_err-free_large_at-clause-any_moment g c = λ first ends end_is has.
    let start = c.loop-slot.invariant.done first ends end_is has in
    joins _ _ _ _ _ _ _ (c.loop-slot.invariant.any_moment first ends end_is has)
    (weaker _ _ _ _ _ _ (c.free_large_at.ensures.any_moment first ends (omega (arith, end_is))
    start)
    (λ image may. any-later (g.I.Index.entries c.args.index.now) first ends c.args.floor
    c.args.class (c.loop-slot.slot + 1) c.args.class c.args.end image
    (λ k s before. elim before [
      | inl less ↦ inl less
      | inr at ↦ inr (at.0, omega (arith, at.1))
    ]) may))

pub loop-slot-preserved : goal.loop-slot-preserved
loop-slot-preserved g c = record {
  few = c.free_large_at.ensures.count;
  calm = c.in_ok-free_large_at.ensures.counted ∙ c.loop-slot.invariant.calm;
  done = λ first ends end_is has.
      c.in_ok-free_large_at.ensures.done first ends (omega (arith, end_is))
      (c.loop-slot.invariant.done first ends end_is has);
  any_moment = λ first ends end_is has.
      let start = c.loop-slot.invariant.done first ends end_is has in
      joins _ _ _ _ _ _ _ (c.loop-slot.invariant.any_moment first ends end_is has)
      (weaker _ _ _ _ _ _ (c.free_large_at.ensures.any_moment first ends
      (omega (arith, end_is)) start)
      (λ image may. any-later (g.I.Index.entries c.args.index.now) first ends c.args.floor
      c.args.class (c.loop-slot.slot + 1) c.args.class c.args.end image
      (λ k s before. elim before [
        | inl less ↦ inl less
        | inr at ↦ inr (at.0, omega (arith, at.1))
      ]) may));
}

pub returns-clause-done : goal.returns-clause-done
returns-clause-done g c = λ first ends end_is taken has.
    let all : c.loop-slot.slot ≡ c.args.end = omega arith in
    subst (λ n. HasFreedAny g.D.Disk (g.I.Index.entries c.args.index.now) first ends
    c.args.floor c.args.class n c.loop-slot.disk c.loop-slot.stack) all
    (c.loop-slot.invariant.done first ends end_is has)
