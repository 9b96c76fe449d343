-- Disks that were opened as those of workers, and what stood on them.
use Rattle.std.specs.Prelude.{◌≡◌, ℕ, ◌-◌, ◌^◌, ◌<◌, ◌≤◌, List, length, slice_get, Some, IsTrue}
use Rattle.std.specs.List.{AllByRecursion}
use Rattle.kv_base.specs.Crash.{LeavesOnly, Only}
use Rattle.kv_base.specs.Partition.{owner_of}
use Rattle.kv_base.specs.declared.limits.Limits.{Limits}
use Rattle.kv_disk.specs.declared.disk.Disk as disks
use Rattle.kv_groups.specs.Gathering.{greatest}
use Rattle.kv_index.specs.declared.index.Index as indexes
use Rattle.kv_model.specs.History.{Write}
use Rattle.kv_model.specs.Layout.{all_classes}
use Rattle.kv_model.specs.Reading.{heads_at, IsFloor}
use Rattle.kv_model.specs.Recovery.{OpensAs, AreKept}
use Rattle.kv_recover.specs.Opened.{KeepsStore, LeftOrKept}
use Rattle.kv_recover.specs.Store.{HasOpened, HasRefused}
use Rattle.kv_recover.specs.declared.fault.OpenFault.{OpenFault}
use Rattle.kv_recover.specs.declared.opening.Opened.{Opened}

-- the disk was opened as that of the worker of so many, and nothing was served: at each moment a crash
-- leaves an image that it could leave at the beginning, or one that keeps the store; what the disk
-- reads as now keeps it, and is all that a crash leaves; and no fault was counted
pub record Opens {D : Type 0} (d : disks.Ghosts D) (workers worker : ℕ) (disk disk' : D) :
    Type 0 where
  pub opens : IsTrue d.tells → OpensAs all_classes (d.seen disk) worker workers
  pub keeps : IsTrue d.tells → KeepsStore (d.seen disk) worker workers (d.seen disk')
  pub any_moment : LeavesOnly (d.calls disk) (d.calls disk') (d.leaves disk) (d.leaves disk')
      (LeftOrKept d disk worker workers)
  pub durable : Only (d.seen disk') (d.leaves disk' (d.calls disk'))
  pub calm : d.faults disk' ≡ d.faults disk

-- the disk was refused for this cause, if it is the last one; those before it were opened
pub record OpensBefore {D : Type 0} (d : disks.Ghosts D) (workers last : ℕ) (fault : OpenFault)
    (worker : ℕ) (disk disk' : D) : Type 0 where
  pub opened : worker < last → Opens d workers worker disk disk'
  pub refused : worker ≡ last → HasRefused d disk worker workers disk' fault

-- what stood on the disk that was taken: the writes are the items that it keeps, each of a key that
-- its worker owns, their stamps are at most the floor, and stamps are left above that
pub record HadItems {D : Type 0} (d : disks.Ghosts D) (workers worker : ℕ) (disk : D)
    (before : List Write) (floor : ℕ) : Type 0 where
  pub opens : IsTrue d.tells → OpensAs all_classes (d.seen disk) worker workers
  pub kept : IsTrue d.tells → AreKept all_classes (d.seen disk) worker workers before
  pub floor_is : IsTrue d.tells → IsFloor (heads_at all_classes (d.seen disk)) floor
  pub owned : AllByRecursion (λ write. owner_of write.key workers ≡ worker) before
  pub below : AllByRecursion (λ write. write.stamp ≤ floor) before
  pub spare : floor < 2 ^ 62 - 1

-- what stood on all disks, and the greatest of their floors
pub record HadAllItems {D : Type 0} (d : disks.Ghosts D) (disks : List D)
    (before : ℕ → List Write) (floor : ℕ) : Type 0 where
  pub floors : List ℕ
  pub many : length floors ≡ length disks
  pub each : (worker : ℕ) (disk : D) (own : ℕ) → slice_get disks worker ≡ Some disk
      → slice_get floors worker ≡ Some own
      → HadItems d (length disks) worker disk (before worker) own
  pub floor_is : floor ≡ greatest floors

-- each store was opened from the disk at its place, as that of this worker of so many
pub record AreOpenedFrom {D I : Type 0} (d : disks.Ghosts D) (i : indexes.Ghosts I) (workers : ℕ)
    (limits : Limits) (disks : List D) (stores : List (Opened D I)) : Type 0 where
  pub many : length stores ≡ length disks
  pub each : (worker : ℕ) (disk : D) (opened : Opened D I) → slice_get disks worker ≡ Some disk
      → slice_get stores worker ≡ Some opened
      → HasOpened d i disk worker workers limits opened.slabs opened.floor
