-- Disks by their workers' numbers, before and after a report.
use Rattle.std.specs.Prelude.{◌≡◌, ◌<◌, ℕ, List, length, slice_get, Some, Result}
use Rattle.kv_disk.specs.declared.disk.Disk.{Ghosts}
use Rattle.kv_disk.specs.Steps.{OnlyReads}
use Rattle.kv_model.specs.Layout.{all_classes}
use Rattle.kv_model.specs.Recovery.{OpensAs}
use Rattle.kv_tools.specs.declared.fault.ToolFault.{ToolFault}
use Rattle.kv_tools.specs.Faults.{disk_faults}

-- each disk was only read
pub record ReadsAll {D : Type 0} (d : Ghosts D) (olds news : List D) : Type 0 where
  pub count : length news ≡ length olds
  pub each : (worker : ℕ) (old new : D) → slice_get olds worker ≡ Some old
      → slice_get news worker ≡ Some new → OnlyReads d old new

-- each of the first disks, so many, opens as its worker's store
pub record AreStores {D : Type 0} (d : Ghosts D) (disks : List D) (count : ℕ) : Type 0 where
  pub each : (worker : ℕ) (disk : D) → worker < count → slice_get disks worker ≡ Some disk
      → OpensAs all_classes (d.seen disk) worker (length disks)

-- of each disk just a call that failed was counted as a fault
pub record CountsAll {D T : Type 0} (d : Ghosts D) (olds news : List D)
    (result : Result T ToolFault) : Type 0 where
  pub each : (worker : ℕ) (old new : D) → slice_get olds worker ≡ Some old
      → slice_get news worker ≡ Some new → d.faults new ≡ disk_faults result worker (d.faults old)
