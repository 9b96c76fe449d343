-- Why a report isn't whole, and how that is counted.
use Rattle.std.specs.Prelude.{◌≢◌, ℕ, List, length, slice_get, Some, IsTrue, Result, Ok, Err, ⊤}
use Rattle.std.specs.Prelude.{◌≡◌, ◌<◌, ◌==◌, if◌then◌else◌}
use Rattle.kv_base.specs.Calls.{next_count}
use Rattle.kv_disk.specs.declared.disk.Disk.{Ghosts}
use Rattle.kv_recover.specs.declared.fault.OpenFault.{OpenFault}
use Rattle.kv_recover.specs.declared.fault.OpenFault.TheVariants as open_faults
use Rattle.kv_recover.specs.Causes.{HasMakeCause}
use Rattle.kv_recover.specs.Faults.{faults_after}
use Rattle.kv_slab.specs.declared.fault.StepFault.{StepFault}
use Rattle.kv_slab.specs.declared.fault.StepFault.TheVariants as step_faults
use Rattle.kv_tools.specs.declared.fault.ToolFault.{ToolFault}
use Rattle.kv_tools.specs.declared.fault.ToolFault.TheVariants.{Store, DiskFault, SinkFault, NoMemory}

-- what it means to a report that the disk of this worker is refused
abbrev pub refusal_of : ℕ → OpenFault → ToolFault
refusal_of worker open_faults.NotAStore = Store worker open_faults.NotAStore
refusal_of worker (open_faults.OtherStore a b c d) = Store worker (open_faults.OtherStore a b c d)
refusal_of worker (open_faults.StampsSpent stamp) = Store worker (open_faults.StampsSpent stamp)
refusal_of worker open_faults.DiskFault = Store worker open_faults.DiskFault
refusal_of worker open_faults.NoMemory = NoMemory

-- what it means to a report that a value couldn't be read from the disk of this worker
abbrev pub value_fault_of : ℕ → StepFault → ToolFault
value_fault_of worker step_faults.DiskFault = DiskFault worker
value_fault_of worker step_faults.NoMemory = NoMemory

-- the refusal of the disk of a worker of so many has its cause, and isn't want of memory
pub record IsRefusal {D : Type 0} (d : Ghosts D) (disk : D) (worker workers : ℕ)
    (fault : OpenFault) : Type 0 where
  pub cause : HasMakeCause (IsTrue d.tells) (d.seen disk) worker workers fault
  pub other : fault ≢ open_faults.NoMemory

-- the report has a cause not to be whole: the disk of a worker was refused, a disk or the sink
-- failed, or want of memory
abbrev pub HasReportCause : {D : Type 0} → Ghosts D → List D → ToolFault → Type 0
HasReportCause {D} d disks (Store worker fault) = (disk : D) × (slice_get disks worker ≡ Some disk)
    × IsRefusal d disk worker (length disks) fault
HasReportCause d disks (DiskFault worker) = worker < length disks
HasReportCause d disks SinkFault = ⊤
HasReportCause d disks NoMemory = ⊤

-- the count of faults of a worker's disk behind a report: one more where a call of that disk failed
abbrev pub disk_faults : {T : Type 0} → Result T ToolFault → ℕ → ℕ → ℕ
disk_faults (Ok done) worker before = before
disk_faults (Err (Store other fault)) worker before =
    if other == worker then faults_after before fault else before
disk_faults (Err (DiskFault other)) worker before =
    if other == worker then next_count before else before
disk_faults (Err SinkFault) worker before = before
disk_faults (Err NoMemory) worker before = before

-- the count of faults of the sink behind a report: one more where a call of it failed
abbrev pub sink_faults : {T : Type 0} → Result T ToolFault → ℕ → ℕ
sink_faults (Ok done) before = before
sink_faults (Err (Store worker fault)) before = before
sink_faults (Err (DiskFault worker)) before = before
sink_faults (Err SinkFault) before = next_count before
sink_faults (Err NoMemory) before = before
