-- Why a call that reads is refused, and the count of faults.
use Rattle.std.specs.Prelude.{◌≡◌, ℕ, ⊤, Bool, true, false, Result, Ok, Err, if◌then◌else◌}
use Rattle.kv_base.specs.Calls.{next_count}
use Rattle.kv_base.specs.Fault.{Rose}
use Rattle.kv_slab.specs.declared.fault.StepFault.{StepFault}
use Rattle.kv_slab.specs.declared.fault.StepFault.TheVariants.{DiskFault, NoMemory}

-- the refusal has its cause: the count of faults rose, or want of memory
abbrev pub HasStepCause : ℕ → ℕ → StepFault → Type 0
HasStepCause before now DiskFault = Rose before now
HasStepCause before now NoMemory = ⊤

-- whether a read that failed refused the call
abbrev pub is_disk_fault : {T : Type 0} → Result T StepFault → Bool
is_disk_fault (Ok value) = false
is_disk_fault (Err DiskFault) = true
is_disk_fault (Err NoMemory) = false

-- just one fault is counted where a read failed; where the call was Ok, or memory ran out, the
-- count is as before
abbrev pub StepCounted : {T : Type 0} → ℕ → ℕ → Result T StepFault → Type 0
StepCounted before now result =
    now ≡ (if is_disk_fault result then next_count before else before)
