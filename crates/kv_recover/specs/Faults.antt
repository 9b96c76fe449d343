-- How a call of the disk that failed is counted.
use Rattle.std.specs.Prelude.{◌≡◌, ℕ, Result, Ok, Err}
use Rattle.kv_base.specs.Calls.{next_count}
use Rattle.kv_recover.specs.declared.fault.OpenFault.{OpenFault}
use Rattle.kv_recover.specs.declared.fault.OpenFault.TheVariants.{NotAStore, OtherStore, StampsSpent}
use Rattle.kv_recover.specs.declared.fault.OpenFault.TheVariants.{DiskFault, NoMemory}

-- the count of faults after the refusal: one more where a call of the disk failed
abbrev pub faults_after : ℕ → OpenFault → ℕ
faults_after before NotAStore = before
faults_after before (OtherStore a b c d) = before
faults_after before (StampsSpent stamp) = before
faults_after before DiskFault = next_count before
faults_after before NoMemory = before

-- just a refusal by a failed call of the disk is counted as a fault
abbrev pub AreFaultsCounted : {T : Type 0} → ℕ → ℕ → Result T OpenFault → Type 0
AreFaultsCounted before now (Ok value) = now ≡ before
AreFaultsCounted before now (Err fault) = now ≡ faults_after before fault
