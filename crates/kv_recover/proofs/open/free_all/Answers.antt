-- The small classes are freed, then the large ones, and then all is synced.
use Rattle.std.proofs.Common.{[], ◌∷◌, ◌++◌, Some, slice_get, Result, Ok, Err, OnOk, IsOk, IsTrue, arith, ◌≡◌, get_or, sym, ap, ◌∙◌, subst}
use Rattle.kv_free.specs.FreeList.{StandsFor}
use Rattle.kv_base.proofs.CrashLemmas.{started, stays, joins, weaker}
use Rattle.kv_recover.proofs.OpenSteps.{large-start, small-all, none-all, freed-synced}
use Rattle.kv_recover.specs.Free.{AreFullTaken}
use Rattle.kv_recover.proofs.TakenLemmas.{full-taken}
use Rattle.kv_recover.proofs.open.free_all.Goals as goal

-- of an Ok call
of_ok : {T E : Type 0} (result : Result T E) (P : Type 0) → IsOk result → OnOk result P → P
of_ok (Ok x) P is p = p
of_ok (Err e) P is p = absurd (cc)

pub free_small-requires-clause-empty : goal.free_small-requires-clause-empty
free_small-requires-clause-empty g c = λ stack is.
    let room = c.in_ok-stacks.ensures.room in
    let ok = c.append.ensures.room (omega arith) in
    let items = of_ok c.append.result _ ok c.append.ensures.ok in
    let all : c.append.new.self.items ≡ c.new.result ∷ [] =
    items ∙ ap (λ xs. xs ++ c.new.result ∷ []) c.in_ok-stacks.ensures.empty in
    let at : Some c.new.result ≡ Some stack = sym (ap (λ xs. slice_get xs 0) all) ∙ is in
    let same : c.new.result ≡ stack = cc in
    subst (λ t. StandsFor t []) same c.new.ensures

pub returns-in_err-stacks-clause-any_moment : goal.returns-in_err-stacks-clause-any_moment
returns-in_err-stacks-clause-any_moment g c = λ first below stand.
    started _ _ _ (λ image left. none-all (g.I.Index.entries c.args.items.now.index) first
    (λ x. get_or c.args.ends.now x 0) c.args.floor image (below.crash image left))

pub returns-in_err-free_small-clause-any_moment : goal.returns-in_err-free_small-clause-any_moment
returns-in_err-free_small-clause-any_moment g c = λ first below stand.
    let taken : IsTrue g.D.Disk.tells → AreFullTaken (g.I.Index.entries c.args.items.now.index)
    first (λ x. get_or c.args.ends.now x 0) c.args.items.now.counts = λ tells. full-taken (g.I.Index.entries c.args.items.now.index)
    c.args.items.now.counts c.args.floor (λ x. get_or c.args.ends.now x 0) first
    c.requires.counted c.requires.placed (stand tells) in
    weaker _ _ _ _ _ _ (c.free_small.ensures.any_moment first taken below)
    (small-all (g.I.Index.entries c.args.items.now.index) first (λ x. get_or c.args.ends.now x 0)
    c.args.floor)

pub returns-in_err-free_large-clause-any_moment : goal.returns-in_err-free_large-clause-any_moment
returns-in_err-free_large-clause-any_moment g c = λ first below stand.
    let taken : IsTrue g.D.Disk.tells → AreFullTaken (g.I.Index.entries c.args.items.now.index)
    first (λ x. get_or c.args.ends.now x 0) c.args.items.now.counts = λ tells. full-taken (g.I.Index.entries c.args.items.now.index)
    c.args.items.now.counts c.args.floor (λ x. get_or c.args.ends.now x 0) first
    c.requires.counted c.requires.placed (stand tells) in
    joins _ _ _ _ _ _ _ (weaker _ _ _ _ _ _ (c.free_small.ensures.any_moment first taken below)
    (small-all (g.I.Index.entries c.args.items.now.index) first (λ x. get_or c.args.ends.now x 0)
    c.args.floor))
    (c.free_large.ensures.any_moment first taken (large-start g.D.Disk
    (g.I.Index.entries c.args.items.now.index) first (λ x. get_or c.args.ends.now x 0) c.args.floor
    c.free_small.new.disk c.free_small.new.stacks.items stand
    (c.in_ok-free_small.ensures.done first taken below)))

pub returns-in_err-sync-clause-any_moment : goal.returns-in_err-sync-clause-any_moment
returns-in_err-sync-clause-any_moment g c = λ first below stand.
    let taken : IsTrue g.D.Disk.tells → AreFullTaken (g.I.Index.entries c.args.items.now.index)
    first (λ x. get_or c.args.ends.now x 0) c.args.items.now.counts = λ tells. full-taken (g.I.Index.entries c.args.items.now.index)
    c.args.items.now.counts c.args.floor (λ x. get_or c.args.ends.now x 0) first
    c.requires.counted c.requires.placed (stand tells) in
    stays _ _ _ _ _ _ _
    (joins _ _ _ _ _ _ _ (weaker _ _ _ _ _ _ (c.free_small.ensures.any_moment first taken below)
    (small-all (g.I.Index.entries c.args.items.now.index) first (λ x. get_or c.args.ends.now x 0)
    c.args.floor))
    (c.free_large.ensures.any_moment first taken (large-start g.D.Disk
    (g.I.Index.entries c.args.items.now.index) first (λ x. get_or c.args.ends.now x 0) c.args.floor
    c.free_small.new.disk c.free_small.new.stacks.items stand
    (c.in_ok-free_small.ensures.done first taken below)))) c.sync.ensures.past c.sync.ensures.crash

pub returns-clause-any_moment : goal.returns-clause-any_moment
returns-clause-any_moment g c = λ first below stand.
    let taken : IsTrue g.D.Disk.tells → AreFullTaken (g.I.Index.entries c.args.items.now.index)
    first (λ x. get_or c.args.ends.now x 0) c.args.items.now.counts = λ tells. full-taken (g.I.Index.entries c.args.items.now.index)
    c.args.items.now.counts c.args.floor (λ x. get_or c.args.ends.now x 0) first
    c.requires.counted c.requires.placed (stand tells) in
    stays _ _ _ _ _ _ _
    (joins _ _ _ _ _ _ _ (weaker _ _ _ _ _ _ (c.free_small.ensures.any_moment first taken below)
    (small-all (g.I.Index.entries c.args.items.now.index) first (λ x. get_or c.args.ends.now x 0)
    c.args.floor))
    (c.free_large.ensures.any_moment first taken (large-start g.D.Disk
    (g.I.Index.entries c.args.items.now.index) first (λ x. get_or c.args.ends.now x 0) c.args.floor
    c.free_small.new.disk c.free_small.new.stacks.items stand
    (c.in_ok-free_small.ensures.done first taken below)))) c.sync.ensures.past c.sync.ensures.crash

pub returns-clause-done : goal.returns-clause-done
returns-clause-done g c = λ first below stand.
    let taken : IsTrue g.D.Disk.tells → AreFullTaken (g.I.Index.entries c.args.items.now.index)
    first (λ x. get_or c.args.ends.now x 0) c.args.items.now.counts = λ tells. full-taken (g.I.Index.entries c.args.items.now.index)
    c.args.items.now.counts c.args.floor (λ x. get_or c.args.ends.now x 0) first
    c.requires.counted c.requires.placed (stand tells) in
    freed-synced g.D.Disk (g.I.Index.entries c.args.items.now.index) first
    (λ x. get_or c.args.ends.now x 0) c.args.floor c.free_large.new.disk c.sync.new.self
    c.free_large.new.stacks.items c.sync.ensures.seen c.sync.ensures.crash
    (c.in_ok-free_large.ensures.done first taken (large-start g.D.Disk
    (g.I.Index.entries c.args.items.now.index) first (λ x. get_or c.args.ends.now x 0) c.args.floor
    c.free_small.new.disk c.free_small.new.stacks.items stand
    (c.in_ok-free_small.ensures.done first taken below)))
