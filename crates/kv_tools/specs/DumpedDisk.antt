-- The part of listing items, and of writing their lines, that is one disk's.
use Rattle.std.specs.Prelude.{◌≡◌, ◌<◌, ℕ, List, map, slice_get, Some, IsTrue, ⊤}
use Rattle.kv_disk.specs.declared.disk.Disk.{Ghosts}
use Rattle.kv_model.specs.Layout.{all_classes}
use Rattle.kv_model.specs.Recovery.{OpensAs}
use Rattle.kv_recover.specs.declared.entries.Kept.{Kept}
use Rattle.kv_recover.specs.Listed.{AreKept, IsSlabPlace}
use Rattle.kv_tools.specs.declared.fault.ToolFault.{ToolFault}
use Rattle.kv_tools.specs.declared.fault.ToolFault.TheVariants.{Store, DiskFault, SinkFault, NoMemory}
use Rattle.kv_tools.specs.declared.merge.Listed.{Listed}
use Rattle.kv_tools.specs.Disks.{AreStores}
use Rattle.kv_tools.specs.Faults.{IsRefusal}
use Rattle.kv_tools.specs.Merged.{IsMerged, listed_of}

-- the items that the disk of a worker keeps came to those of other workers
pub record ListsDisk {D : Type 0} (d : Ghosts D) (disk : D) (worker workers : ℕ)
    (before now : List Listed) : Type 0 where
  pub list : List Kept
  pub merged : IsMerged before (map (listed_of worker) list) now
  pub opens : IsTrue d.tells → OpensAs all_classes (d.seen disk) worker workers
  pub kept : IsTrue d.tells → AreKept (d.seen disk) worker workers list
  pub places : (i : ℕ) (kept : Kept) → slice_get list i ≡ Some kept → IsSlabPlace kept.place

-- why they didn't: the disk was refused, or want of memory
abbrev pub HasListCause : {D : Type 0} → Ghosts D → D → ℕ → ℕ → ToolFault → Type 0
HasListCause d disk worker workers (Store other fault) = (other ≡ worker)
    × IsRefusal d disk worker workers fault
HasListCause d disk worker workers (DiskFault other) = ⊥
HasListCause d disk worker workers SinkFault = ⊥
HasListCause d disk worker workers NoMemory = ⊤

-- why the items of all disks weren't listed: the disk of a worker was refused, behind stores of the
-- workers before it, or want of memory
abbrev pub IsListFault : {D : Type 0} → Ghosts D → List D → ToolFault → Type 0
IsListFault d disks (Store worker fault) = IsTrue d.tells → AreStores d disks worker
IsListFault d disks (DiskFault worker) = ⊥
IsListFault d disks SinkFault = ⊥
IsListFault d disks NoMemory = ⊤

-- why a line wasn't written: a read or the sink failed, or want of memory
abbrev pub IsLineFault : ℕ → ToolFault → Type 0
IsLineFault worker (Store other fault) = ⊥
IsLineFault worker (DiskFault other) = other ≡ worker
IsLineFault worker SinkFault = ⊤
IsLineFault worker NoMemory = ⊤

-- why lines weren't written, of the items of so many workers
abbrev pub IsLinesFault : ℕ → ToolFault → Type 0
IsLinesFault workers (Store worker fault) = ⊥
IsLinesFault workers (DiskFault worker) = worker < workers
IsLinesFault workers SinkFault = ⊤
IsLinesFault workers NoMemory = ⊤
