-- The store is seen as what it has inside.
use Rattle.std.proofs.Common.{◌∙◌, ap, IsTrue, IfOk, subst}
use Rattle.kv_slab.specs.Counts.{NextReads}
use Rattle.kv_slab.specs.View.{IsNextItem}
use Rattle.std.proofs.Common.{List}
use Rattle.kv_slab.specs.declared.change.Change.{Change}
use Rattle.kv_slab.specs.Memory.{rooms_of}
use Rattle.kv_slab.specs.Plans.{HasPlan, IsKeptPlan}
use Rattle.kv_slab.proofs.PlanLemmas.{plan_stays, next_seen}
use Rattle.kv_slab.proofs.slabs.Slabs.next.Goals as goal

pub returns-clause-next : goal.returns-clause-next
returns-clause-next g c =
    subst (λ v. IsTrue g.D.Disk.tells → IfOk c.next_item.result
    (λ item. IsNextItem (g.I.Index.entries v.index) (g.D.Disk.seen v.disk.disk) c.args.key.now
    item))
    c.self.view_is (λ told. c.next_item.ensures.next told
    (((c.self.invariant.opened (ap (λ v. v.closed) c.self.view_is ∙ c.requires)).stands
    told).2.items))

pub returns-clause-plan : goal.returns-clause-plan
returns-clause-plan g c =
    let s = c.self.inside in
    subst (λ v. (changes : List Change) → HasPlan g.D.Disk g.I.Index v changes
    → IsKeptPlan g.D.Disk.tells (g.D.Disk.seen c.next_item.new.disk.disk)
    (g.I.Index.entries s.index) (g.I.Index.spare s.index)
    (rooms_of s.stacks.items s.ends.items) s.limits.slots s.worker s.workers s.plan changes)
    c.self.view_is
    (λ changes planned. plan_stays g.D.Disk.tells (g.D.Disk.seen s.disk.disk)
    (g.D.Disk.seen c.next_item.new.disk.disk) (g.I.Index.entries s.index)
    (g.I.Index.spare s.index)
    (rooms_of s.stacks.items s.ends.items) s.limits.slots s.worker s.workers s.plan changes
    (next_seen g.D.Disk (g.I.Index.entries c.self.inside.index) c.args.key.now
    c.self.inside.disk.disk c.next_item.new.disk.disk c.next_item.ensures.reads) planned)

pub returns-clause-reads : goal.returns-clause-reads
returns-clause-reads g c =
    subst (λ v. NextReads g.D.Disk (g.I.Index.entries v.index) c.args.key.now v.disk.disk
    c.next_item.new.disk.disk) c.self.view_is c.next_item.ensures.reads
