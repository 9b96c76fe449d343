-- One class more.
use Rattle.std.proofs.Common.{◌≡◌, ◌+◌, get_or, inl, refl, subst, arith, ◌∙◌}
use Rattle.kv_base.proofs.CrashLemmas.{started, joins, weaker}
use Rattle.kv_recover.specs.FreeLarge.{FreesAnyBelow}
use Rattle.kv_recover.proofs.FreeLargeSteps.{any-later}
use Rattle.kv_recover.proofs.free_large.free_large.Goals as goal

pub loop-class-init : goal.loop-class-init
loop-class-init g c = record {
  room = omega (arith, c.requires.room);
  count = c.requires.eight;
  calm = refl;
  done = λ first taken below. below;
  any_moment = λ first taken below. started _ _ _ (λ image left. any-later
      (g.I.Index.entries c.args.index.now) first (λ x. get_or c.args.ends.now x 0) c.args.floor 8 0
      12 0 image (λ k s before. inl (omega (arith, before))) (below.crash image left));
}

pub returns-in_err-free_large_next-clause-any_moment :
    goal.returns-in_err-free_large_next-clause-any_moment
returns-in_err-free_large_next-clause-any_moment g c = λ first taken below.
    joins _ _ _ _ _ _ _ (c.loop-class.invariant.any_moment first taken below)
    (weaker _ _ _ _ _ _ (c.free_large_next.ensures.any_moment first
    (λ x. get_or c.args.ends.now x 0) refl (c.loop-class.invariant.done first taken below))
    (λ image. any-later (g.I.Index.entries c.args.index.now) first
    (λ x. get_or c.args.ends.now x 0) c.args.floor (c.loop-class.class + 1) 0 12 0 image
    (λ k s before. inl (omega (arith, before)))))

pub loop-class-preserved : goal.loop-class-preserved
loop-class-preserved g c =
    let room = c.loop-class.invariant.room in
    let spare = c.in_ok-free_large_next.ensures.spare in
    record {
      room = omega arith;
      count = let before = c.loop-class.invariant.count in
          let next = c.in_ok-free_large_next.ensures.count in omega arith;
      calm = c.in_ok-free_large_next.ensures.counted ∙ c.loop-class.invariant.calm;
      done = λ first taken below. c.in_ok-free_large_next.ensures.done first
          (λ x. get_or c.args.ends.now x 0) refl
          (λ tells. taken tells c.loop-class.class (omega arith)) (c.loop-class.invariant.done first taken below);
      any_moment = λ first taken below.
          joins _ _ _ _ _ _ _ (c.loop-class.invariant.any_moment first taken below)
          (weaker _ _ _ _ _ _ (c.free_large_next.ensures.any_moment first
          (λ x. get_or c.args.ends.now x 0) refl (c.loop-class.invariant.done first taken below))
          (λ image. any-later (g.I.Index.entries c.args.index.now) first
          (λ x. get_or c.args.ends.now x 0) c.args.floor (c.loop-class.class + 1) 0 12 0 image
          (λ k s before. inl (omega (arith, before)))));
    }

pub returns-clause-done : goal.returns-clause-done
returns-clause-done g c = λ first taken below.
    let last : c.loop-class.class ≡ 12 = omega arith in
    subst (λ n. FreesAnyBelow g.D.Disk (g.I.Index.entries c.args.index.now) first
    (λ x. get_or c.args.ends.now x 0) c.args.floor n c.loop-class.disk c.loop-class.stacks.items)
    last (c.loop-class.invariant.done first taken below)
