-- Faults of a part of a report are those of the whole.
use Rattle.std.proofs.Common.{◌≡◌, ℕ, List, Err, refl, ◌∙◌}
use Rattle.kv_disk.specs.declared.disk.Disk.{Ghosts}
use Rattle.kv_tools.specs.declared.fault.ToolFault.{ToolFault}
use Rattle.kv_tools.specs.declared.fault.ToolFault.TheVariants.{Store, DiskFault, SinkFault, NoMemory}
use Rattle.kv_tools.specs.Disks.{CountsAll}
use Rattle.kv_tools.specs.DumpedDisk.{IsListFault}
use Rattle.kv_tools.specs.Faults.{disk_faults, sink_faults}

-- the count of a disk's faults doesn't ask what else the call would have answered
same_faults : (T U : Type 0) (fault : ToolFault) (worker before : ℕ)
    → disk_faults {T = T} (Err fault) worker before ≡ disk_faults {T = U} (Err fault) worker before
same_faults T U (Store other fault) worker before = refl
same_faults T U (DiskFault other) worker before = refl
same_faults T U SinkFault worker before = refl
same_faults T U NoMemory worker before = refl

pub counts_as : {D : Type 0} (T U : Type 0) (d : Ghosts D) (olds news : List D) (fault : ToolFault)
    → CountsAll {T = T} d olds news (Err fault) → CountsAll {T = U} d olds news (Err fault)
counts_as T U d olds news fault counts = record {
  each = λ worker old new at_old at_new. counts.each worker old new at_old at_new
      ∙ same_faults T U fault worker (d.faults old);
}

-- the sink has no fault where the items weren't listed
pub list-sink : {D : Type 0} (T : Type 0) (d : Ghosts D) (disks : List D) (fault : ToolFault)
    (count : ℕ) → IsListFault d disks fault → count ≡ sink_faults {T = T} (Err fault) count
list-sink T d disks (Store worker fault) count is = refl
list-sink T d disks (DiskFault worker) count is = absurd is
list-sink T d disks SinkFault count is = absurd is
list-sink T d disks NoMemory count is = refl
