-- One page more.
use Rattle.std.proofs.Common.{◌≡◌, inl, inr, ◌+◌, ◌*◌, min, sym, ap, subst, arith, refl, ◌∙◌}
use Rattle.kv_base.proofs.CrashLemmas.{started, joins, weaker}
use Rattle.kv_model.specs.Layout.{slots_in_page}
use Rattle.kv_recover.specs.Free.{HasFreed}
use Rattle.kv_recover.proofs.FreeLemmas.{may-later}
use Rattle.kv_recover.proofs.FreeSteps.{freed-none}
use Rattle.kv_recover.proofs.free.free_class.Goals as goal

pub returns-then-count-end-clause-done : goal.returns-then-count-end-clause-done
returns-then-count-end-clause-done g c = λ first ends end_is taken has.
    freed-none g.D.Disk (g.I.Index.entries c.args.index.now) first ends c.args.floor c.args.class
    c.args.end c.args.disk.now c.args.stack.now end_is
    (λ tells. taken tells c.if-count-end.true) has

pub returns-then-count-end-clause-any_moment : goal.returns-then-count-end-clause-any_moment
returns-then-count-end-clause-any_moment g c = λ first ends end_is has.
    started _ _ _ (λ image left. may-later _ first ends c.args.floor c.args.class 0 c.args.class
    c.args.end image (λ k s before. elim before [
      | inl below ↦ inl below
      | inr at ↦ inr (at.0, omega (arith, at.1))
    ]) (has.crash image left))

pub loop-number-init : goal.loop-number-init
loop-number-init g c =
    let none : min (0 * slots_in_page c.args.class) c.args.end ≡ 0 = omega arith in
    record {
      few = omega (arith, c.requires.none);
      calm = refl;
      done = λ first ends end_is has. subst (λ n. HasFreed g.D.Disk
          (g.I.Index.entries c.args.index.now) first ends c.args.floor c.args.class n
          c.args.disk.now c.args.stack.now) (sym none) has;
      any_moment = λ first ends end_is has. started _ _ _ (λ image left. may-later _ first ends
          c.args.floor c.args.class 0 c.args.class c.args.end image
          (λ k s before. elim before [
            | inl below ↦ inl below
            | inr at ↦ inr (at.0, omega (arith, at.1))
          ]) (has.crash image left));
    }

pub returns-in_err-free_page-clause-any_moment : goal.returns-in_err-free_page-clause-any_moment
returns-in_err-free_page-clause-any_moment g c = λ first ends end_is has.
    let below = c.pages_below-number-end.ensures.within c.loop-number.number
    c.loop-number-test.true in
    let at : min (c.loop-number.number * slots_in_page c.args.class) c.args.end
    ≡ c.loop-number.number * slots_in_page c.args.class = omega arith in
    let start = subst (λ n. HasFreed g.D.Disk (g.I.Index.entries c.args.index.now) first ends
    c.args.floor c.args.class n c.loop-number.disk c.loop-number.stack) at
    (c.loop-number.invariant.done first ends end_is has) in
    joins _ _ _ _ _ _ _ (c.loop-number.invariant.any_moment first ends end_is has)
    (weaker _ _ _ _ _ _ (c.free_page.ensures.any_moment first ends end_is start)
    (λ image may. may-later _ first ends c.args.floor c.args.class
    (min ((c.loop-number.number + 1) * slots_in_page c.args.class) c.args.end) c.args.class
    c.args.end image (λ k s before. elim before [
      | inl less ↦ inl less
      | inr at ↦ inr (at.0, omega (arith, at.1))
    ]) may))

pub loop-number-preserved : goal.loop-number-preserved
loop-number-preserved g c =
    let below = c.pages_below-number-end.ensures.within c.loop-number.number
    c.loop-number-test.true in
    let at : min (c.loop-number.number * slots_in_page c.args.class) c.args.end
    ≡ c.loop-number.number * slots_in_page c.args.class = omega arith in
    record {
      few = c.free_page.ensures.count;
      calm = c.in_ok-free_page.ensures.counted ∙ c.loop-number.invariant.calm;
      done = λ first ends end_is has.
          c.in_ok-free_page.ensures.done first ends end_is
          (subst (λ n. HasFreed g.D.Disk (g.I.Index.entries c.args.index.now) first ends
          c.args.floor c.args.class n c.loop-number.disk c.loop-number.stack) at
          (c.loop-number.invariant.done first ends end_is has));
      any_moment = λ first ends end_is has.
          let start = subst (λ n. HasFreed g.D.Disk (g.I.Index.entries c.args.index.now) first ends
          c.args.floor c.args.class n c.loop-number.disk c.loop-number.stack) at
          (c.loop-number.invariant.done first ends end_is has) in
          joins _ _ _ _ _ _ _ (c.loop-number.invariant.any_moment first ends end_is has)
          (weaker _ _ _ _ _ _ (c.free_page.ensures.any_moment first ends end_is start)
          (λ image may. may-later _ first ends c.args.floor c.args.class
          (min ((c.loop-number.number + 1) * slots_in_page c.args.class) c.args.end) c.args.class
          c.args.end image (λ k s before. elim before [
            | inl less ↦ inl less
            | inr at ↦ inr (at.0, omega (arith, at.1))
          ]) may));
    }

pub returns-clause-done : goal.returns-clause-done
returns-clause-done g c = λ first ends end_is taken has.
    let all = c.pages_below-number-end.ensures.all in
    let number : c.loop-number.number ≡ c.pages_below-number-end.result = omega arith in
    let slots = ap (λ n. n * slots_in_page c.args.class) number in
    let at : min (c.loop-number.number * slots_in_page c.args.class) c.args.end ≡ c.args.end =
    omega arith in
    subst (λ n. HasFreed g.D.Disk (g.I.Index.entries c.args.index.now) first ends
    c.args.floor c.args.class n c.loop-number.disk c.loop-number.stack) at
    (c.loop-number.invariant.done first ends end_is has)
