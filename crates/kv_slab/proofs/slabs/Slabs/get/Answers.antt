-- The store is seen as what it has inside.
use Rattle.std.proofs.Common.{List, subst}
use Rattle.kv_slab.specs.declared.change.Change.{Change}
use Rattle.kv_slab.specs.Memory.{rooms_of}
use Rattle.kv_slab.specs.Plans.{HasPlan, IsKeptPlan}
use Rattle.kv_slab.proofs.PlanLemmas.{plan_stays}
use Rattle.kv_slab.proofs.slabs.Slabs.get.Goals as goal

pub returns-clause-plan : goal.returns-clause-plan
returns-clause-plan g c =
    let s = c.self.inside in
    subst (λ v. (changes : List Change) → HasPlan g.D.Disk g.I.Index v changes
    → IsKeptPlan g.D.Disk.tells (g.D.Disk.seen c.find_item.new.disk.disk)
    (g.I.Index.entries s.index) (g.I.Index.spare s.index)
    (rooms_of s.stacks.items s.ends.items) s.limits.slots s.worker s.workers s.plan changes)
    c.self.view_is
    (λ changes planned. plan_stays g.D.Disk.tells (g.D.Disk.seen s.disk.disk)
    (g.D.Disk.seen c.find_item.new.disk.disk) (g.I.Index.entries s.index) (g.I.Index.spare s.index)
    (rooms_of s.stacks.items s.ends.items) s.limits.slots s.worker s.workers s.plan changes
    c.find_item.ensures.reads.reads.seen planned)
