-- The store is as before, but for its plan.
use Rattle.std.specs.FinMap as finite
use Rattle.std.proofs.Common.{◌∙◌, ◌*◌, length, List, ℕ, sym, subst, ap}
use Rattle.kv_free.specs.FreeList.{Tail}
use Rattle.kv_index.specs.Entries.{Entries}
use Rattle.kv_slab.specs.Memory.{AreFilled, rooms_of}
use Rattle.std.proofs.Common.{Ok}
use Rattle.kv_slab.specs.Plans.{CanChange, IsPlanned}
use Rattle.kv_slab.specs.View.{IsOpen}
use Rattle.kv_slab.proofs.PlanLemmas.{planned_of}
use Rattle.kv_slab.proofs.StoreLemmas.{open_stays, of_worker_open}
use Rattle.kv_slab.proofs.slabs.Slabs.plan.Goals as goal

pub make_plan-requires-clause-filled : goal.make_plan-requires-clause-filled
make_plan-requires-clause-filled g c =
    let s = c.self.inside in
    subst (λ (ts : List Tail). AreFilled (g.I.Index.entries s.index)
    (rooms_of ts c.as_slice-2.result.now)) (sym c.as_slice.ensures)
    (subst (λ (es : List ℕ). AreFilled (g.I.Index.entries s.index) (rooms_of s.stacks.items es))
    (sym c.as_slice-2.ensures) c.self.invariant.filled)

pub make_plan-requires-clause-can : goal.make_plan-requires-clause-can
make_plan-requires-clause-can g c =
    let s = c.self.inside in
    let d = g.D.Disk in (
      s.limits.slots,
      s.worker,
      s.workers,
      c.self.invariant.limits.slots,
      subst (λ v. CanChange d.tells (d.seen v.disk.disk) (g.I.Index.entries v.index)
          v.limits.slots v.worker v.workers c.args.changes.now) (sym c.self.view_is)
          c.requires.can,
    )

pub invariant_of-self-2 : goal.invariant_of-self-2
invariant_of-self-2 g c =
    let s = c.self.inside in
    let d = g.D.Disk in
    let kept = rooms_of s.stacks.items s.ends.items in
    let new = c.make_plan.new in
    let old = c.self.invariant.opened (ap (λ v. v.closed) c.self.view_is ∙ c.requires.opened) in
    let opened : IsOpen d.tells (d.seen new.disk.disk) (d.leaves new.disk.disk
    (d.calls new.disk.disk))
    (finite.get (g.I.Index.entries new.index)) kept s.worker s.workers =
    subst (λ (en : Entries). IsOpen d.tells (d.seen new.disk.disk)
    (d.leaves new.disk.disk (d.calls new.disk.disk)) (finite.get en) kept s.worker s.workers)
    (sym c.make_plan.ensures.entries)
    (open_stays d (3 * length c.args.changes.now) s.disk.disk new.disk.disk
    (finite.get (g.I.Index.entries s.index)) kept s.worker s.workers g.met.D.Disk.told
    c.make_plan.ensures.reads old) in
    record {
      limits = c.self.invariant.limits;
      sizes = c.self.invariant.sizes;
      filled = subst (λ (en : Entries). AreFilled en kept) (sym c.make_plan.ensures.entries)
          c.self.invariant.filled;
      opened = λ _. opened;
      of_worker = of_worker_open d new.disk.disk (finite.get (g.I.Index.entries new.index)) kept
          s.worker s.workers g.met.D.Disk.told opened;
    }

pub returns-clause-planned : goal.returns-clause-planned
returns-clause-planned g c =
    let s = c.self.inside in
    let d = g.D.Disk in
    let new = c.make_plan.new in
    let made = c.in_ok-plan.ensures in
    let plan = c.in_ok-plan.plan in
    let changes = c.args.changes.now in
    let can = subst (λ (en : Entries). CanChange d.tells (d.seen s.disk.disk) en s.limits.slots
    s.worker s.workers changes) (sym c.make_plan.ensures.entries)
    (subst (λ v. CanChange d.tells (d.seen v.disk.disk) (g.I.Index.entries v.index)
    v.limits.slots v.worker v.workers changes) (sym c.self.view_is) c.requires.can) in
    subst (λ (ts : List Tail). IsPlanned d.tells (d.seen new.disk.disk)
    (g.I.Index.entries new.index) (g.I.Index.spare new.index) (rooms_of ts s.ends.items)
    s.limits.slots s.worker s.workers plan changes) c.as_slice.ensures
    (subst (λ (es : List ℕ). IsPlanned d.tells (d.seen new.disk.disk) (g.I.Index.entries new.index)
    (g.I.Index.spare new.index) (rooms_of c.as_slice.result.now es) s.limits.slots s.worker
    s.workers plan changes) c.as_slice-2.ensures
    (planned_of {E = ℕ} (Ok plan) d.tells (d.seen s.disk.disk) (d.seen new.disk.disk)
    (g.I.Index.entries new.index) (g.I.Index.spare new.index)
    (rooms_of c.as_slice.result.now c.as_slice-2.result.now) s.limits.slots s.worker s.workers
    changes c.make_plan.ensures.reads.reads.seen can
    made.moves made.spare made.few made.first made.second made.orders made.counts made.sizes
    made.ends made.lengths made.told))
