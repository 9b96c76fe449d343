-- A store that was opened, and a disk that was refused, to who called.
use Rattle.std.specs.Prelude.{◌≡◌, ◌⊎◌, ℕ, ◌-◌, ◌^◌, ◌<◌, ◌≤◌, List, length, None, Some, slice_get}
use Rattle.std.specs.Prelude.{false, IsTrue}
use Rattle.std.specs.FinMap as finite
use Rattle.kv_base.specs.Crash.{Only, LeavesOnly}
use Rattle.kv_base.specs.declared.limits.Limits.{Limits}
use Rattle.kv_disk.specs.declared.disk.Disk as disks
use Rattle.kv_free.specs.FreeList.{Tail}
use Rattle.kv_index.specs.declared.index.Index as indexes
use Rattle.kv_index.specs.declared.entry.Entry.{Entry}
use Rattle.kv_index.specs.Entries.{Entries}
use Rattle.kv_model.specs.Layout.{all_classes}
use Rattle.kv_model.specs.Reading.{slot_at, heads_at, IsFloor}
use Rattle.kv_model.specs.Recovery.{OpensAs}
use Rattle.kv_slab.specs.View.{View}
use Rattle.kv_slab.specs.declared.room.Room.{Room}
use Rattle.kv_recover.specs.declared.fault.OpenFault.{OpenFault}
use Rattle.kv_recover.specs.Causes.{HasOpenCause, IsSpared, IsUntouched, IsUsable}
use Rattle.kv_recover.specs.Faults.{faults_after}
use Rattle.kv_recover.specs.Found.{HoldsKept}
use Rattle.kv_recover.specs.Opened.{KeepsStore, LeftOrKept, IsOpenedStore, HasClassList}
use Rattle.kv_recover.specs.Placed.{HasRooms}
use Rattle.kv_recover.specs.Writes.{HasWrites}

-- these are the parts of an opened store
pub record AreParts {D : Type 0} (d : disks.Ghosts D) (disk : D) (entries : Entries)
    (worker workers floor : ℕ) (ends : List ℕ) (stacks : List Tail) : Type 0 where
  pub size : length ends ≡ 12
  pub rooms : HasRooms entries floor ends stacks
  pub settled : Only (d.seen disk) (d.leaves disk (d.calls disk))
  pub opened : IsTrue d.tells
      → IsOpenedStore (d.seen disk) worker workers entries floor ends stacks

-- the store is open, and has what is kept on the disk that was handed in: on a disk that tells what
-- it reads the index has the items that the image keeps, each class's list and end are those of its
-- free slots, and the floor is that of the image, which keeps what the first one kept
pub record HasOpened {D I : Type 0} (d : disks.Ghosts D) (i : indexes.Ghosts I) (old : D)
    (worker workers : ℕ) (limits : Limits) (store : View D I) (floor : ℕ) : Type 0 where
  pub open_ : store.closed ≡ false
  pub plan : store.plan ≡ None
  pub worker_is : store.worker ≡ worker
  pub workers_is : store.workers ≡ workers
  pub limits_are : store.limits ≡ limits
  pub spare : floor < 2 ^ 62 - 1
  pub stamps : (key : List ℕ) (entry : Entry)
      → finite.get (i.entries store.index) key ≡ Some entry → entry.stamp ≤ floor
  pub opens : IsTrue d.tells → OpensAs all_classes (d.seen old) worker workers
  pub floor_was : IsTrue d.tells → IsFloor (heads_at all_classes (d.seen old)) floor
  pub holds : IsTrue d.tells → HoldsKept (i.entries store.index)
      (slot_at all_classes (d.seen store.disk.disk)) worker workers
  pub floor_is : IsTrue d.tells → IsFloor (heads_at all_classes (d.seen store.disk.disk)) floor
  pub lists : IsTrue d.tells → (class : ℕ) (room : Room) → 1 ≤ class
      → slice_get store.rooms class ≡ Some room
      → HasClassList (d.seen store.disk.disk) worker workers (i.entries store.index) floor class
      room.end room.stack
  pub kept : HasWrites d i old worker workers store floor
  pub keeps : IsTrue d.tells → KeepsStore (d.seen old) worker workers (d.seen store.disk.disk)
  pub durable : Only (d.seen store.disk.disk)
      (d.leaves store.disk.disk (d.calls store.disk.disk))
  pub any_moment : LeavesOnly (d.calls old) (d.calls store.disk.disk) (d.leaves old)
      (d.leaves store.disk.disk) (LeftOrKept d old worker workers)
  pub calm : d.faults store.disk.disk ≡ d.faults old

-- the disk was refused for this cause: at each moment a crash leaves an image that it could leave at
-- the beginning, or one that keeps the store; and a refusal before the writes left all as it was
pub record HasRefused {D : Type 0} (d : disks.Ghosts D) (old : D) (worker workers : ℕ) (new : D)
    (fault : OpenFault) : Type 0 where
  pub cause : HasOpenCause (IsTrue d.tells) (d.seen old) worker workers fault
  pub counted : d.faults new ≡ faults_after (d.faults old) fault
  pub spared : IsSpared fault → IsUntouched d old new
  pub written : IsUntouched d old new
      ⊎ (IsTrue d.tells → IsUsable (d.seen old) worker workers)
  pub any_moment : LeavesOnly (d.calls old) (d.calls new) (d.leaves old) (d.leaves new)
      (LeftOrKept d old worker workers)
