-- The class is freed to its end.
use Rattle.std.proofs.Common.{length, length-append, ◌+◌, [], ◌∷◌, Result, Ok, Err, OnOk, IsOk, sym, ap, subst, arith}
use Rattle.kv_base.proofs.CrashLemmas.{weaker}
use Rattle.kv_recover.specs.FreeLarge.{FreesAnyBelow}
use Rattle.kv_recover.proofs.FreeLargeSteps.{any-start, any-end, any-class}
use Rattle.kv_recover.proofs.free_large.free_large_next.Goals as goal

-- of an Ok call
of_ok : {T E : Type 0} (result : Result T E) (P : Type 0) → IsOk result → OnOk result P → P
of_ok (Ok x) P is p = p
of_ok (Err e) P is p = absurd (cc)

pub returns-in_err-free_large_class-clause-any_moment :
    goal.returns-in_err-free_large_class-clause-any_moment
returns-in_err-free_large_class-clause-any_moment g c = λ first ends end_is below.
    weaker _ _ _ _ _ _ (c.free_large_class.ensures.any_moment first ends end_is
    (any-start g.D.Disk _ first ends c.args.floor c.args.class c.args.disk.now _ _
    c.new-stack.ensures below))
    (any-class g.D.Disk (g.I.Index.entries c.args.index.now) first ends c.args.floor c.args.class
    c.args.end end_is)

pub returns-clause-any_moment : goal.returns-clause-any_moment
returns-clause-any_moment g c = λ first ends end_is below.
    weaker _ _ _ _ _ _ (c.free_large_class.ensures.any_moment first ends end_is
    (any-start g.D.Disk _ first ends c.args.floor c.args.class c.args.disk.now _ _
    c.new-stack.ensures below))
    (any-class g.D.Disk (g.I.Index.entries c.args.index.now) first ends c.args.floor c.args.class
    c.args.end end_is)

pub returns-clause-done : goal.returns-clause-done
returns-clause-done g c = λ first ends end_is taken below.
    let ok = c.append.ensures.room c.requires.room in
    let items = of_ok c.append.result _ ok c.append.ensures.ok in
    let has = c.in_ok-free_large_class.ensures.done first ends end_is taken
    (any-start g.D.Disk _ first ends c.args.floor c.args.class c.args.disk.now _ _
    c.new-stack.ensures below) in
    subst (FreesAnyBelow g.D.Disk (g.I.Index.entries c.args.index.now) first ends c.args.floor
    (c.args.class + 1) c.free_large_class.new.disk) (sym items)
    (any-end g.D.Disk (g.I.Index.entries c.args.index.now) first ends c.args.floor c.args.class
    c.args.end end_is c.free_large_class.new.disk c.args.stacks.now.items
    c.free_large_class.new.stack below.stacks_are has)

pub returns-clause-count : goal.returns-clause-count
returns-clause-count g c =
    let ok = c.append.ensures.room c.requires.room in
    let items = of_ok c.append.result _ ok c.append.ensures.ok in
    omega (
      arith,
      ap length items,
      length-append c.args.stacks.now.items
          (c.free_large_class.new.stack ∷ []),
    )
