-- What is asked of changes, and what a plan for them is.
use Rattle.std.specs.Prelude.{◌≡◌, ℕ, ◌+◌, ◌-◌, ◌*◌, ◌<◌, ◌≤◌, ◌^◌, Bool, List, Option, None, Some}
use Rattle.std.specs.Prelude.{IsTrue, IsSome, length}
use Rattle.std.specs.List.{slice_get}
use Rattle.std.specs.FinMap as finite
use Rattle.kv_base.specs.Image.{Image}
use Rattle.kv_base.specs.Partition.{owner_of}
use Rattle.kv_disk.specs.declared.disk.Disk as disks
use Rattle.kv_index.specs.declared.index.Index as indexes
use Rattle.kv_index.specs.declared.entry.Entry.{Entry}
use Rattle.kv_index.specs.Entries.{Entries}
use Rattle.kv_model.specs.Layout.{all_classes}
use Rattle.kv_model.specs.Reading.{slot_at}
use Rattle.kv_slab.specs.Rounds.{Index}
use Rattle.kv_slab.specs.Pages.{over, ArePages, IsOrder}
use Rattle.kv_slab.specs.Moves.{AreDistinct, AllFit, AreAllMoves, FirstSoFar}
use Rattle.kv_slab.specs.Moves.{SecondSoFar, StillFirst, StillSecond, AreWhole, AreUpTo}
use Rattle.kv_slab.specs.Rooms.{Rooms, AreRooms, ArePlaced, AreLinked, needed, left_slots}
use Rattle.kv_slab.specs.Assigned.{Assigned, AreEnds, AreLinks, rooms_left}
use Rattle.kv_slab.specs.Memory.{HaveLengths, items_in, rooms_of}
use Rattle.kv_slab.specs.Floor.{HasFloorBelow, HasFloorUpTo}
use Rattle.kv_slab.specs.Images.{StillLater}
use Rattle.kv_slab.specs.View.{View}
use Rattle.kv_slab.specs.declared.change.Change.{Change}
use Rattle.kv_slab.specs.declared.moves.Move.{Move}
use Rattle.kv_slab.specs.declared.page.Page.{Page}
use Rattle.kv_slab.specs.declared.plan.Plan.{Plan}
use Rattle.kv_slab.specs.declared.room.Room.{Room}

-- what is asked of changes: distinct keys of this worker, sizes within the limits, stamps that rise
-- and are above those of all entries and above the floor of the image as read, deletions of keys
-- that have a value, and in each class no more new slots than there is room
pub record CanChange (tells : Bool) (seen : Image) (entries : Entries) (limit worker workers : ℕ)
    (changes : List Change) : Type 0 where
  pub distinct : AreDistinct changes
  pub owned : (i : ℕ) (c : Change) → slice_get changes i ≡ Some c → owner_of c.key workers ≡ worker
  pub fit : AllFit changes
  pub rising : (i j : ℕ) (c d : Change) → slice_get changes i ≡ Some c
      → slice_get changes j ≡ Some d → i < j → c.stamp < d.stamp
  pub above : (i : ℕ) (c : Change) → slice_get changes i ≡ Some c → (key : List ℕ) (e : Entry)
      → finite.get entries key ≡ Some e → e.stamp < c.stamp
  pub floor : IsTrue tells → (i : ℕ) (c : Change) → slice_get changes i ≡ Some c
      → HasFloorBelow c.stamp seen
  pub present : (i : ℕ) (c : Change) → slice_get changes i ≡ Some c → c.value ≡ None
      → IsSome (finite.get entries c.key)
  pub room : (class : ℕ) → 1 ≤ class → class ≤ 11
      → needed (finite.get entries) changes class ≤ limit - items_in entries class

-- a plan for these lists and ends: its moves, the links of the places that are left, and what its
-- pages write
pub record PlannedFor (seen : Image) (index : Index) (start : Rooms) (changes : List Change)
    (moves : List Move) (first second : List Page) (kept : List Room) : Type 0 where
  pub mid : Rooms
  pub links : List (Option ℕ)
  pub assigned : Assigned index start mid changes moves
  pub linked : AreLinked (slot_at all_classes seen) mid
  pub many : length links ≡ length moves
  pub links_are : AreLinks mid moves links
  pub rooms : AreRooms kept (rooms_left mid moves)
  pub writes : FirstSoFar changes moves (length changes) (slot_at all_classes seen)
      (slot_at all_classes (over seen first))
  pub first_still : StillFirst moves seen (over seen first)
  pub vacates : SecondSoFar moves links (length moves) (slot_at all_classes (over seen first))
      (slot_at all_classes (over (over seen first) second))
  pub second_still : StillSecond moves (over seen first) (over (over seen first) second)
  pub whole : AreWhole changes moves (length changes) (over seen first)
  pub later : StillLater (over seen first) (over (over seen first) second)
  pub floor : (bound : ℕ) → AreUpTo bound changes → HasFloorUpTo bound seen
      → HasFloorUpTo bound (over (over seen first) second)

-- the plan is one for these changes
pub record IsPlanned (tells : Bool) (seen : Image) (entries : Entries) (spare : ℕ)
    (kept : List Room) (limit worker workers : ℕ) (plan : Plan) (changes : List Change) :
    Type 0 where
  pub can : CanChange tells seen entries limit worker workers changes
  pub moves : AreAllMoves (finite.get entries) changes plan.moves.items
  pub spare_for : length plan.moves.items ≤ spare
  pub few : finite.len entries + length plan.moves.items < 2 ^ 32
  pub first : ArePages plan.first.items
  pub second : ArePages plan.second.items
  pub orders : IsOrder plan.first.items plan.first_order.items
      × IsOrder plan.second.items plan.second_order.items
  pub counts : (length plan.first.items ≤ 16 * length changes)
      × (length plan.second.items ≤ length changes)
  pub sizes : (length plan.stacks.items ≡ 12) × (length plan.ends.items ≡ 12)
  pub ends : AreEnds (rooms_of plan.stacks.items plan.ends.items)
  pub lengths : HaveLengths (needed (finite.get entries) changes)
      (λ c. length (left_slots (finite.get entries) changes c)) kept
      (rooms_of plan.stacks.items plan.ends.items)
  pub told : IsTrue tells → (start : Rooms) → AreRooms kept start
      → ArePlaced (finite.get entries) start → AreLinked (slot_at all_classes seen) start
      → PlannedFor seen (finite.get entries) start changes plan.moves.items plan.first.items
      plan.second.items (rooms_of plan.stacks.items plan.ends.items)

-- a plan is kept, and is one for these changes
abbrev pub IsKeptPlan : Bool → Image → Entries → ℕ → List Room → ℕ → ℕ → ℕ → Option Plan
    → List Change → Type 0
IsKeptPlan tells seen entries spare kept limit worker workers None changes = ⊥
IsKeptPlan tells seen entries spare kept limit worker workers (Some plan) changes =
    IsPlanned tells seen entries spare kept limit worker workers plan changes

-- the store keeps a plan for these changes
abbrev pub HasPlan : {D I : Type 0} → disks.Ghosts D → indexes.Ghosts I → View D I → List Change
    → Type 0
HasPlan d i store changes = IsKeptPlan d.tells (d.seen store.disk.disk) (i.entries store.index)
    (i.spare store.index) store.rooms store.limits.slots store.worker store.workers store.plan
    changes

-- these changes may be planned
abbrev pub MayPlan : {D I : Type 0} → disks.Ghosts D → indexes.Ghosts I → View D I → List Change
    → Type 0
MayPlan d i store changes = CanChange d.tells (d.seen store.disk.disk) (i.entries store.index)
    store.limits.slots store.worker store.workers changes
