use Rattle.std.proofs.Common.{◌≡◌, ◌∙◌, ℕ, List, sym, subst, ap, IsTrue}
use Rattle.std.specs.FinMap as finite
use Rattle.kv_base.specs.Image.{Image}
use Rattle.kv_base.specs.Crash.{LeavesOnly}
use Rattle.kv_slab.specs.declared.change.Change.{Change}
use Rattle.kv_slab.specs.declared.page.Page.{Page}
use Rattle.kv_slab.specs.Pages.{over, InRounds}
use Rattle.kv_slab.specs.Rounds.{Index, moved}
use Rattle.kv_slab.specs.Moves.{steps_of}
use Rattle.kv_slab.specs.Rooms.{Rooms, AreRooms, rooms_after}
use Rattle.kv_slab.specs.Memory.{rooms_of}
use Rattle.kv_slab.specs.Plans.{IsPlanned}
use Rattle.kv_slab.specs.View.{IsOpen, IsOfWorker, Stands, OldOrNewMap, map_of}
use Rattle.kv_slab.proofs.RunLemmas.{weaker_left}
use Rattle.kv_slab.proofs.StoreLemmas.{may_of, inside, of_worker_inside, stands_after, rooms_path}
use Rattle.kv_slab.proofs.StoreLemmas.{index_after, answers_now, places_after}
use Rattle.std.proofs.Common.{Option}
use Rattle.kv_index.specs.declared.entry.Entry.{Entry}
use Rattle.kv_slab.specs.Floor.{HasFloorUpTo}
use Rattle.kv_slab.specs.Settled.{HasEntryAfter}
use Rattle.kv_slab.proofs.ListLemmas.{rooms_count}
use Rattle.kv_slab.proofs.LengthLemmas.{filled-after}
use Rattle.kv_slab.proofs.SettleLemmas.{entry_after}
use Rattle.kv_slab.proofs.store.carry.Given.{Over}
use Rattle.kv_slab.proofs.store.carry.Goals as goal
use Rattle.kv_slab.proofs.store.carry.Goals.{After-carry_out}

-- the images of the rounds, whatever a crash may leave at a moment
rounds : (g : Over) (c : After-carry_out g) (t : ℕ) (image : Image)
    → g.D.Disk.leaves c.carry_out.new.disk.disk t 0 0 (image 0 0)
    → InRounds (g.D.Disk.seen c.args.disk.now.disk) c.deref.result.now c.deref-3.result.now image
    → IsTrue g.D.Disk.tells × InRounds (g.D.Disk.seen c.args.disk.now.disk) c.args.plan.first.items
    c.args.plan.second.items image
rounds g c t image may h = (
  (g.met.D.Disk.told c.carry_out.new.disk.disk t 0 0 (image 0 0) may).0,
  subst (λ (ps : List Page). InRounds (g.D.Disk.seen c.args.disk.now.disk) ps
      c.args.plan.second.items image) c.deref.ensures.value
      (subst (λ (ps : List Page). InRounds (g.D.Disk.seen c.args.disk.now.disk) c.deref.result.now
      ps image) c.deref-3.ensures.value h),
)

moments : (g : Over) (c : After-carry_out g) (limit worker workers : ℕ) (changes : List Change)
    → IsOpen g.D.Disk.tells (g.D.Disk.seen c.args.disk.now.disk)
    (g.D.Disk.leaves c.args.disk.now.disk (g.D.Disk.calls c.args.disk.now.disk))
    (finite.get (g.I.Index.entries c.args.index.now)) (rooms_of c.args.stacks.now.items
    c.args.ends.now.items) worker workers
    → IsPlanned g.D.Disk.tells (g.D.Disk.seen c.args.disk.now.disk)
    (g.I.Index.entries c.args.index.now) (g.I.Index.spare c.args.index.now)
    (rooms_of c.args.stacks.now.items c.args.ends.now.items) limit worker workers c.args.plan
    changes
    → LeavesOnly (g.D.Disk.calls c.args.disk.now.disk) (g.D.Disk.calls c.carry_out.new.disk.disk)
    (g.D.Disk.leaves c.args.disk.now.disk) (g.D.Disk.leaves c.carry_out.new.disk.disk)
    (OldOrNewMap (map_of (g.D.Disk.seen c.args.disk.now.disk)
    (finite.get (g.I.Index.entries c.args.index.now))) changes worker workers)
moments g c limit worker workers changes opened planned =
    weaker_left _ _ _ _ _ _ c.carry_out.ensures.any_moment (λ t image may h.
    let r = rounds g c t image (may 0 0) h in
    let s = opened.stands r.0 in
    inside (g.D.Disk.seen c.args.disk.now.disk) (finite.get (g.I.Index.entries c.args.index.now))
    s.0 worker workers changes c.args.plan.moves.items c.args.plan.first.items
    c.args.plan.second.items (rooms_of c.args.plan.stacks.items c.args.plan.ends.items)
    s.2 (may_of _ _ _ _ _ _ _ r.0 planned.can) planned.moves planned.first planned.second
    (planned.told r.0 s.0 s.1 s.2.placed s.2.linked) image r.1)

of_worker_moments : (g : Over) (c : After-carry_out g) (limit worker workers : ℕ)
    (changes : List Change)
    → IsOpen g.D.Disk.tells (g.D.Disk.seen c.args.disk.now.disk)
    (g.D.Disk.leaves c.args.disk.now.disk (g.D.Disk.calls c.args.disk.now.disk))
    (finite.get (g.I.Index.entries c.args.index.now)) (rooms_of c.args.stacks.now.items
    c.args.ends.now.items) worker workers
    → IsPlanned g.D.Disk.tells (g.D.Disk.seen c.args.disk.now.disk)
    (g.I.Index.entries c.args.index.now) (g.I.Index.spare c.args.index.now)
    (rooms_of c.args.stacks.now.items c.args.ends.now.items) limit worker workers c.args.plan
    changes
    → LeavesOnly (g.D.Disk.calls c.args.disk.now.disk) (g.D.Disk.calls c.carry_out.new.disk.disk)
    (g.D.Disk.leaves c.args.disk.now.disk) (g.D.Disk.leaves c.carry_out.new.disk.disk)
    (IsOfWorker worker workers)
of_worker_moments g c limit worker workers changes opened planned =
    weaker_left _ _ _ _ _ _ c.carry_out.ensures.any_moment (λ t image may h.
    let r = rounds g c t image (may 0 0) h in
    let s = opened.stands r.0 in
    of_worker_inside (g.D.Disk.seen c.args.disk.now.disk) (finite.get
    (g.I.Index.entries c.args.index.now)) s.0 worker workers changes c.args.plan.moves.items
    c.args.plan.first.items c.args.plan.second.items (rooms_of c.args.plan.stacks.items
    c.args.plan.ends.items)
    s.2 (may_of _ _ _ _ _ _ _ r.0 planned.can) planned.moves planned.first planned.second
    (planned.told r.0 s.0 s.1 s.2.placed s.2.linked) image r.1)

pub returns-in-Ok-clause-any_moment : goal.returns-in-Ok-clause-any_moment
returns-in-Ok-clause-any_moment g c = moments g (goal.at.returns-in-Ok-clause-any_moment g
    c).After-carry_out

pub returns-in-Err-clause-any_moment : goal.returns-in-Err-clause-any_moment
returns-in-Err-clause-any_moment g c = moments g (goal.at.returns-in-Err-clause-any_moment g
    c).After-carry_out

pub returns-in-Ok-clause-of_worker : goal.returns-in-Ok-clause-of_worker
returns-in-Ok-clause-of_worker g c = of_worker_moments g (goal.at.returns-in-Ok-clause-of_worker g
    c).After-carry_out

pub returns-in-Err-clause-of_worker : goal.returns-in-Err-clause-of_worker
returns-in-Err-clause-of_worker g c = of_worker_moments g (goal.at.returns-in-Err-clause-of_worker g
    c).After-carry_out

seen_now : (g : Over) (c : goal.After-drop-first g) → IsTrue g.D.Disk.tells
    → g.D.Disk.seen c.carry_out.new.disk.disk ≡ over (over (g.D.Disk.seen c.args.disk.now.disk)
    c.args.plan.first.items) c.args.plan.second.items
seen_now g c told =
    c.in-Ok.ensures.written told
    ∙ ap (λ (ps : List Page). over (over (g.D.Disk.seen c.args.disk.now.disk) ps)
    c.deref-3.result.now) c.deref.ensures.value
    ∙ ap (λ (ps : List Page). over (over (g.D.Disk.seen c.args.disk.now.disk)
    c.args.plan.first.items) ps) c.deref-3.ensures.value

pub returns-in-Ok-clause-done : goal.returns-in-Ok-clause-done
returns-in-Ok-clause-done g c = λ limit worker workers changes opened planned told k.
    let s = opened.stands told in
    answers_now (g.D.Disk.seen c.args.disk.now.disk) (finite.get
    (g.I.Index.entries c.args.index.now)) s.0 worker workers changes c.args.plan.moves.items
    c.args.plan.first.items c.args.plan.second.items (rooms_of c.args.plan.stacks.items
    c.args.plan.ends.items)
    s.2 (may_of _ _ _ _ _ _ _ told planned.can) planned.moves planned.first planned.second
    (planned.told told s.0 s.1 s.2.placed s.2.linked)
    (finite.get (g.I.Index.entries c.settle.new.index)) c.settle.ensures
    (g.D.Disk.seen c.carry_out.new.disk.disk) (seen_now g c told) k

pub returns-in-Ok-clause-lists : goal.returns-in-Ok-clause-lists
returns-in-Ok-clause-lists g c = λ limit worker workers changes start planned told kept stands.
    let seen = g.D.Disk.seen c.args.disk.now.disk in
    let index = finite.get (g.I.Index.entries c.args.index.now) in
    let now = finite.get (g.I.Index.entries c.settle.new.index) in
    let moves = c.args.plan.moves.items in
    let first = c.args.plan.first.items in
    let second = c.args.plan.second.items in
    let rooms = (rooms_of c.args.plan.stacks.items c.args.plan.ends.items) in
    let parts = planned.told told start kept stands.placed stands.linked in (
      subst (λ (r : Rooms). AreRooms rooms r) (rooms_path seen index start worker workers changes
          moves first second rooms stands (may_of _ _ _ _ _ _ _ told planned.can) planned.moves
          planned.first planned.second parts) parts.rooms,
      subst (λ (ix : Index). Stands (g.D.Disk.seen c.carry_out.new.disk.disk) ix
          (rooms_after index changes start) worker workers)
          (sym (index_after seen index start worker workers changes moves first second rooms stands
          (may_of _ _ _ _ _ _ _ told planned.can) planned.moves planned.first planned.second
          parts now c.settle.ensures))
          (subst (λ (im : Image). Stands im (λ k. moved (steps_of changes moves k) (index k))
          (rooms_after index changes start) worker workers) (sym (seen_now g c told))
          (stands_after seen index start worker workers changes moves first second rooms stands
          (may_of _ _ _ _ _ _ _ told planned.can) planned.moves planned.first planned.second
          parts)),
    )

pub returns-in-Ok-clause-opened : goal.returns-in-Ok-clause-opened
returns-in-Ok-clause-opened g c = λ limit worker workers changes opened planned.
    let index = finite.get (g.I.Index.entries c.args.index.now) in
    let now = finite.get (g.I.Index.entries c.settle.new.index) in
    record {
      settled = c.in-Ok.ensures.durable;
      ends = planned.ends;
      places = places_after index now changes c.args.plan.moves.items planned.moves opened.places
          c.settle.ensures;
      stands = λ told.
          let s = opened.stands told in
          let l = returns-in-Ok-clause-lists g c limit worker workers changes s.0 planned told s.1
          s.2 in
          (rooms_after index changes s.0, l.0, l.1);
    }

pub returns-in-Ok-clause-entries : goal.returns-in-Ok-clause-entries
returns-in-Ok-clause-entries g c = λ limit worker workers changes planned key.
    let index = finite.get (g.I.Index.entries c.args.index.now) in
    subst (λ (o : Option Entry). HasEntryAfter changes key (index key) o)
    (sym (c.settle.ensures key)) (entry_after index changes c.args.plan.moves.items key
    (index key) planned.moves)

pub returns-in-Ok-clause-lengths : goal.returns-in-Ok-clause-lengths
returns-in-Ok-clause-lengths g c = λ limit worker workers changes planned. planned.lengths

pub returns-in-Ok-clause-filled : goal.returns-in-Ok-clause-filled
returns-in-Ok-clause-filled g c = λ limit worker workers changes planned sizes filled.
    let old = rooms_of c.args.stacks.now.items c.args.ends.now.items in
    let new = rooms_of c.args.plan.stacks.items c.args.plan.ends.items in
    filled-after (g.I.Index.entries c.args.index.now) (g.I.Index.entries c.settle.new.index) old new
    changes c.args.plan.moves.items
    (rooms_count c.args.stacks.now.items c.args.ends.now.items (sizes.0 ∙ sym sizes.1) ∙ sizes.0
    ∙ sym planned.ends.count)
    planned.can.distinct planned.moves c.settle.ensures planned.lengths filled

pub returns-in-Ok-clause-floor : goal.returns-in-Ok-clause-floor
returns-in-Ok-clause-floor g c =
    λ limit worker workers changes opened planned told bound up bounded.
    let s = opened.stands told in
    subst (λ (im : Image). HasFloorUpTo bound im) (sym (seen_now g c told))
    ((planned.told told s.0 s.1 s.2.placed s.2.linked).floor bound up bounded)
