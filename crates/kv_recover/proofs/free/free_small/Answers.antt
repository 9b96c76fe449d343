-- One class more.
use Rattle.std.proofs.Common.{length, length-append, ◌≡◌, ◌+◌, [], ◌∷◌, Result, Ok, Err, OnOk, IsOk, get_or, inl, refl, sym, ap, subst, arith, ◌∙◌}
use Rattle.kv_base.proofs.CrashLemmas.{started, joins, weaker}
use Rattle.kv_recover.specs.Free.{FreesBelow, HasStacks}
use Rattle.kv_recover.proofs.FreeLemmas.{may-later}
use Rattle.kv_recover.proofs.FreeSteps.{stacks-start, stacks-next}
use Rattle.kv_recover.proofs.free.free_small.Goals as goal

-- of an Ok call
of_ok : {T E : Type 0} (result : Result T E) (P : Type 0) → IsOk result → OnOk result P → P
of_ok (Ok x) P is p = p
of_ok (Err e) P is p = absurd (cc)

pub loop-class-init : goal.loop-class-init
loop-class-init g c = record {
  room = refl;
  count = c.requires.one;
  calm = refl;
  done = λ first taken below. record {
    freed = below;
    stacks_are = λ tells. stacks-start (g.I.Index.entries c.args.index.now) first
        (λ x. get_or c.args.ends.now x 0) c.args.stacks.now.items c.requires.one c.requires.empty;
  };
  any_moment = λ first taken below. started _ _ _ (λ image left. may-later
      (g.I.Index.entries c.args.index.now) first (λ x. get_or c.args.ends.now x 0) c.args.floor 1 0
      8 0 image (λ k s before. inl (omega (arith, before))) (below.crash image left));
}

pub returns-in_err-stack-clause-any_moment : goal.returns-in_err-stack-clause-any_moment
returns-in_err-stack-clause-any_moment g c = λ first taken below.
    let so_far = c.loop-class.invariant.done first taken below in
    joins _ _ _ _ _ _ _ (c.loop-class.invariant.any_moment first taken below)
    (weaker _ _ _ _ _ _ (c.free_next.ensures.any_moment first (λ x. get_or c.args.ends.now x 0)
    refl so_far.freed)
    (λ image. may-later (g.I.Index.entries c.args.index.now) first
    (λ x. get_or c.args.ends.now x 0) c.args.floor (c.loop-class.class + 1) 0 8 0 image
    (λ k s before. inl (omega (arith, before)))))

pub loop-class-preserved : goal.loop-class-preserved
loop-class-preserved g c =
    let room = c.loop-class.invariant.room in
    let ok = c.append.ensures.room (omega (arith, c.requires.room)) in
    let spare = of_ok c.append.result _ ok c.append.ensures.spare in
    let items = of_ok c.append.result _ ok c.append.ensures.ok in
    record {
      room = omega (arith, c.requires.room);
      count = let before = c.loop-class.invariant.count in
          omega (
            arith,
            ap length items,
            length-append c.loop-class.stacks.items
                (c.in_ok-stack.stack ∷ []),
            before,
          );
      calm = c.in_ok-stack.ensures.counted ∙ c.loop-class.invariant.calm;
      done = λ first taken below.
          let so_far = c.loop-class.invariant.done first taken below in
          let next = c.in_ok-stack.ensures.done first (λ x. get_or c.args.ends.now x 0) refl
          (λ tells. taken tells c.loop-class.class (omega arith)) so_far.freed in
          record {
            freed = next.0;
            stacks_are = λ tells. subst (HasStacks (g.I.Index.entries c.args.index.now) first
                (λ x. get_or c.args.ends.now x 0) (c.loop-class.class + 1)) (sym items)
                (stacks-next (g.I.Index.entries c.args.index.now) first
                (λ x. get_or c.args.ends.now x 0) c.loop-class.class c.loop-class.stacks.items
                c.in_ok-stack.stack (so_far.stacks_are tells) (next.1 tells));
          };
      any_moment = λ first taken below.
          let so_far = c.loop-class.invariant.done first taken below in
          joins _ _ _ _ _ _ _ (c.loop-class.invariant.any_moment first taken below)
          (weaker _ _ _ _ _ _ (c.free_next.ensures.any_moment first
          (λ x. get_or c.args.ends.now x 0) refl so_far.freed)
          (λ image. may-later (g.I.Index.entries c.args.index.now) first
          (λ x. get_or c.args.ends.now x 0) c.args.floor (c.loop-class.class + 1) 0 8 0 image
          (λ k s before. inl (omega (arith, before)))));
    }

pub returns-clause-done : goal.returns-clause-done
returns-clause-done g c = λ first taken below.
    let last : c.loop-class.class ≡ 8 = omega arith in
    subst (λ n. FreesBelow g.D.Disk (g.I.Index.entries c.args.index.now) first
    (λ x. get_or c.args.ends.now x 0) c.args.floor n c.loop-class.disk c.loop-class.stacks.items)
    last (c.loop-class.invariant.done first taken below)
