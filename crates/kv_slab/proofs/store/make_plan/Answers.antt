use Rattle.std.specs.List.{slice_get}
use Rattle.std.proofs.Common.{◌≡◌, ◌+◌, ◌*◌, ◌^◌, ◌<◌, ◌∙◌, ℕ, Some, IfSome, List, ap, sym, subst, length}
use Rattle.std.proofs.Common.{arith}
use Rattle.std.specs.FinMap as finite
use Rattle.kv_index.specs.Entries.{Entries}
use Rattle.kv_slab.specs.declared.change.Change.{Change}
use Rattle.kv_slab.specs.declared.moves.Move.{Move}
use Rattle.kv_slab.specs.declared.page.Page.{Page}
use Rattle.kv_slab.specs.declared.room.Room.{Room}
use Rattle.kv_slab.specs.Moves.{ArePlaces, IsSlabPlace, IsPair, CanHoldAt}
use Rattle.kv_slab.specs.Rooms.{AreRooms}
use Rattle.kv_disk.proofs.StepsLemmas.{at_most-then}
use Rattle.kv_disk.specs.Steps.{ReadsAtMost}
use Rattle.kv_slab.proofs.PlanLemmas.{left_small, hold_all, planned_for, stamps_of}
use Rattle.kv_slab.specs.Plans.{PlannedFor}
use Rattle.std.proofs.Common.{refl}
use Rattle.kv_slab.specs.Assigned.{AreEnds, slots_left}
use Rattle.kv_slab.specs.Memory.{AreFilled, HaveLengths, HaveSpace, rooms_of}
use Rattle.kv_slab.specs.Rooms.{needed, left_slots}
use Rattle.kv_slab.proofs.LengthLemmas.{lengths-same, lengths-given, left_lengths}
use Rattle.kv_slab.proofs.SpaceLemmas.{have-few, have-gaps, have-space}
use Rattle.kv_slab.proofs.store.make_plan.Given.{Over}
use Rattle.kv_slab.proofs.store.make_plan.Goals as goal
use Rattle.kv_slab.proofs.store.make_plan.Goals.{After-plan_second, Start}

-- keys and changes together are few
few : (g : Over) (c : Start g) → finite.len (g.I.Index.entries c.args.index.now)
    + length c.args.changes.now < 2 ^ 32
few g c = have-few g.D.Disk.tells (g.D.Disk.seen c.args.disk.now.disk)
    (g.I.Index.entries c.args.index.now) c.requires.can.0 c.requires.can.1 c.requires.can.2
    c.args.changes.now (rooms_of c.args.stacks.now c.args.ends.now) c.requires.can.3
    c.requires.can.4 c.requires.filled c.requires.ends c.requires.places

pub overflow_cast-changes : goal.overflow_cast-changes
overflow_cast-changes g c =
    let small = few g (goal.at.overflow_cast-changes g c).Start in omega arith

pub assign-requires-clause-space : goal.assign-requires-clause-space
assign-requires-clause-space g c =
    let kept = rooms_of c.args.stacks.now c.args.ends.now in
    let changes = c.args.changes.now in
    subst (λ (ks : List Room). HaveSpace (needed (finite.get
    (g.I.Index.entries c.reserve.new.self)) changes) ks) (sym c.in_ok-now.ensures.ok)
    (subst (λ (en : Entries). HaveSpace (needed (finite.get en) changes) kept)
    (sym c.reserve.ensures.kept) (have-space g.D.Disk.tells (g.D.Disk.seen c.args.disk.now.disk)
    (g.I.Index.entries c.args.index.now) c.requires.can.0 c.requires.can.1 c.requires.can.2 changes
    kept c.requires.can.3 c.requires.can.4 c.requires.filled c.requires.ends))

pub leave-requires-clause-gaps : goal.leave-requires-clause-gaps
leave-requires-clause-gaps g c =
    let entries = g.I.Index.entries c.reserve.new.self in
    let changes = c.args.changes.now in
    let kept = c.in_ok-now.ensures.ok in
    have-gaps entries changes c.deref.result.now c.in_ok-now.now.items c.assign.new.rooms.items
    (ap length kept ∙ c.requires.ends.count ∙ sym c.in_ok-moves.ensures.ends.count)
    (subst (λ (ks : List Room). AreFilled entries ks) (sym kept)
    (subst (λ (en : Entries). AreFilled en (rooms_of c.args.stacks.now c.args.ends.now))
    (sym c.reserve.ensures.kept) c.requires.filled))
    (subst (λ (ks : List Room). AreEnds ks) (sym kept) c.requires.ends) c.requires.can.4.distinct
    c.in_ok-moves.ensures.counted
    (λ k. ap (λ (ms : List Move). 0 + length (slots_left ms k)) c.deref.ensures.value
    ∙ left_lengths (finite.get entries) changes c.in_ok-moves.moves.items
    c.in_ok-moves.ensures.each.count c.in_ok-moves.ensures.lefts k)

pub returns-clause-few : goal.returns-clause-few
returns-clause-few g c =
    let small = few g (goal.at.returns-clause-few g c).Start in
    let keys = ap (λ (en : Entries). finite.len en) c.reserve.ensures.kept in
    let count = c.in_ok-moves.ensures.each.count in
    omega arith

pub leave-requires-clause-places : goal.leave-requires-clause-places
leave-requires-clause-places g c =
    subst (λ (ms : List Move). (i : ℕ) (m : Move) → slice_get ms i ≡ Some m
    → IfSome m.left (λ place. IsSlabPlace place)) (sym c.deref.ensures.value)
    (left_small _ c.args.changes.now c.in_ok-moves.moves.items c.in_ok-moves.ensures.each
    (subst (λ (en : Entries). ArePlaces (finite.get en)) (sym c.reserve.ensures.kept)
    c.requires.places))

pub plan_first-requires-clause-hold : goal.plan_first-requires-clause-hold
plan_first-requires-clause-hold g c =
    subst (λ (ms : List Move). (i : ℕ) (ch : Change) (m : Move)
    → IsPair c.args.changes.now ms i ch m → CanHoldAt ch m.to) (sym c.deref-2.ensures.value)
    (hold_all _ c.args.changes.now c.in_ok-moves.moves.items c.in_ok-moves.ensures.each)

pub returns-in_err-first-clause-reads : goal.returns-in_err-first-clause-reads
returns-in_err-first-clause-reads g c =
    let n = length c.args.changes.now in
    at_most-then g.D.Disk n n (3 * n) c.args.disk.now.disk c.assign.new.disk.disk
    c.plan_first.new.disk.disk (omega arith) c.assign.ensures.reads c.plan_first.ensures.reads

pub plan_second-requires-clause-places : goal.plan_second-requires-clause-places
plan_second-requires-clause-places g c =
    subst (λ (ms : List Move). (i : ℕ) (m : Move) → slice_get ms i ≡ Some m
    → IfSome m.left (λ place. IsSlabPlace place)) (sym c.deref-3.ensures.value)
    (left_small _ c.args.changes.now c.in_ok-moves.moves.items c.in_ok-moves.ensures.each
    (subst (λ (en : Entries). ArePlaces (finite.get en)) (sym c.reserve.ensures.kept)
    c.requires.places))

-- the reads of all three steps
reads : (g : Over) (c : After-plan_second g) → ReadsAtMost g.D.Disk
    (3 * length c.args.changes.now) c.args.disk.now.disk c.plan_second.new.disk.disk
reads g c =
    let n = length c.args.changes.now in
    let moves : length c.deref-3.result.now ≡ n = ap length c.deref-3.ensures.value
    ∙ c.in_ok-moves.ensures.each.count in
    at_most-then g.D.Disk (2 * n) (length c.deref-3.result.now) (3 * n) c.args.disk.now.disk
    c.plan_first.new.disk.disk c.plan_second.new.disk.disk (omega arith)
    (at_most-then g.D.Disk n n (2 * n) c.args.disk.now.disk c.assign.new.disk.disk
    c.plan_first.new.disk.disk (omega arith) c.assign.ensures.reads c.plan_first.ensures.reads)
    c.plan_second.ensures.reads

pub returns-in_err-second-clause-reads : goal.returns-in_err-second-clause-reads
returns-in_err-second-clause-reads g c = reads g (goal.at.returns-in_err-second-clause-reads g c).After-plan_second

pub returns-clause-reads : goal.returns-clause-reads
returns-clause-reads g c = reads g (goal.at.returns-clause-reads g c).After-plan_second

pub returns-in_err-stacks-clause-reads : goal.returns-in_err-stacks-clause-reads
returns-in_err-stacks-clause-reads g c = reads g (goal.at.returns-in_err-stacks-clause-reads g c).After-plan_second

pub returns-in_err-first_order-clause-reads : goal.returns-in_err-first_order-clause-reads
returns-in_err-first_order-clause-reads g c = reads g (goal.at.returns-in_err-first_order-clause-reads g c).After-plan_second

pub returns-in_err-second_order-clause-reads : goal.returns-in_err-second_order-clause-reads
returns-in_err-second_order-clause-reads g c = reads g (goal.at.returns-in_err-second_order-clause-reads g c).After-plan_second

pub returns-clause-told : goal.returns-clause-told
returns-clause-told g c = λ told start rooms placed linked.
    let so_far = c.in_ok-moves.ensures.assigned told start (subst
    (λ (kept : List Room). AreRooms kept start) (sym c.in_ok-now.ensures.ok) rooms) placed
    linked in
    let seen = g.D.Disk.seen c.args.disk.now.disk in
    let index = finite.get (g.I.Index.entries c.reserve.new.self) in
    let changes = c.args.changes.now in
    let moves = c.in_ok-moves.moves.items in
    subst (λ (ps : List Page). PlannedFor seen index start changes moves ps
    c.into_pages-second.result.items (rooms_of c.in_ok-stacks.stacks.items
    c.in_ok-stacks.ends.items)) (sym c.into_pages-first.ensures)
    (subst (λ (ps : List Page). PlannedFor seen index start changes moves c.in_ok-first.first ps
    (rooms_of c.in_ok-stacks.stacks.items c.in_ok-stacks.ends.items))
    (sym c.into_pages-second.ensures)
    (subst (λ (k : List Room). PlannedFor seen index start changes moves c.in_ok-first.first
    c.in_ok-second.second k) (sym (c.in_ok-stacks.ensures.ok ∙ c.deref-7.ensures.value))
    (planned_for (g.D.Disk.seen c.args.disk.now.disk) (g.D.Disk.seen c.assign.new.disk.disk)
    (g.D.Disk.seen c.plan_first.new.disk.disk) _ start so_far.0 c.args.changes.now
    c.in_ok-moves.moves.items c.deref.result.now c.deref-2.result.now c.deref-3.result.now
    c.in_ok-first.first c.in_ok-first.first c.in_ok-second.second
    c.in_ok-links.links.items c.deref-4.result.now c.leave.new.rooms.items
    c.deref.ensures.value c.deref-2.ensures.value c.deref-3.ensures.value refl
    c.deref-4.ensures.value
    (c.assign.ensures.reads.reads.seen told) (c.plan_first.ensures.reads.reads.seen told
    ∙ c.assign.ensures.reads.reads.seen told)
    c.requires.can.4.distinct c.in_ok-moves.ensures.each.count so_far.2 so_far.3
    (c.in_ok-links.ensures.left so_far.0 so_far.1) c.in_ok-links.ensures.count
    (c.in_ok-first.ensures.first told) (c.in_ok-first.ensures.still told)
    (c.in_ok-second.ensures.second told) (c.in_ok-second.ensures.still told)
    (c.in_ok-first.ensures.whole told) (c.in_ok-second.ensures.later told)
    (c.in_ok-first.ensures.floor told) (c.in_ok-second.ensures.floor told)
    (stamps_of _ c.args.changes.now c.in_ok-moves.moves.items c.in_ok-moves.ensures.each))))

pub returns-clause-lengths : goal.returns-clause-lengths
returns-clause-lengths g c =
    let index = finite.get (g.I.Index.entries c.reserve.new.self) in
    let changes = c.args.changes.now in
    let t = needed index changes in
    let moves : c.deref.result.now ≡ c.in_ok-moves.moves.items = c.deref.ensures.value in
    let kept : c.in_ok-now.now.items ≡ rooms_of c.args.stacks.now c.args.ends.now =
    c.in_ok-now.ensures.ok in
    let given = subst (λ (ms : List Move). HaveLengths (λ _. 0) (λ k. length (slots_left ms k))
    c.assign.new.rooms.items c.leave.new.rooms.items) moves c.in_ok-links.ensures.counted in
    let all = lengths-given t (λ _. 0) (λ k. length (slots_left c.in_ok-moves.moves.items k))
    c.in_ok-now.now.items c.assign.new.rooms.items c.leave.new.rooms.items
    (ap length kept ∙ c.requires.ends.count ∙ sym c.in_ok-moves.ensures.ends.count)
    c.in_ok-moves.ensures.counted given in
    let same = lengths-same t t (λ k. 0 + length (slots_left c.in_ok-moves.moves.items k))
    (λ k. length (left_slots index changes k)) c.in_ok-now.now.items c.leave.new.rooms.items
    (λ _. refl) (left_lengths index changes c.in_ok-moves.moves.items
    c.in_ok-moves.ensures.each.count c.in_ok-moves.ensures.lefts) all in
    subst (λ (ks : List Room). HaveLengths t (λ k. length (left_slots index changes k))
    (rooms_of c.args.stacks.now c.args.ends.now) ks) (sym
    (c.in_ok-stacks.ensures.ok ∙ c.deref-7.ensures.value))
    (subst (λ (ks : List Room). HaveLengths t (λ k. length (left_slots index changes k)) ks
    c.leave.new.rooms.items) kept same)
