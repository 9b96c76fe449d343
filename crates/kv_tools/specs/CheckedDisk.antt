-- The part of a report that is one disk's.
use Rattle.std.specs.Prelude.{◌≡◌, ℕ, List, [], Option}
use Rattle.kv_base.specs.Stream.{Takes}
use Rattle.kv_disk.specs.declared.disk.Disk.{Ghosts}
use Rattle.kv_recover.specs.declared.kind.Survey.{Survey}
use Rattle.kv_tools.specs.declared.fault.ToolFault.{ToolFault}
use Rattle.kv_tools.specs.declared.fault.ToolFault.TheVariants.{Store, DiskFault, SinkFault, NoMemory}
use Rattle.kv_tools.specs.Checked.{IsSurveyOf}
use Rattle.kv_tools.specs.Faults.{IsRefusal}
use Rattle.kv_tools.specs.Lines.{disk_lines}
use Rattle.kv_tools.specs.Sent.{TakesFront}

-- the lines of a disk were appended to what a sink holds
pub record ChecksDisk {D : Type 0} (d : Ghosts D) (disk : D) (worker workers : ℕ)
    (before now : Option (List ℕ)) : Type 0 where
  pub survey : Survey
  pub survey_is : IsSurveyOf d disk worker workers survey
  pub took : Takes before now (disk_lines worker survey)

-- a front of the lines of a disk and not all of it was appended
pub record ChecksDiskFront {D : Type 0} (d : Ghosts D) (disk : D) (worker workers : ℕ)
    (before now : Option (List ℕ)) : Type 0 where
  pub survey : Survey
  pub survey_is : IsSurveyOf d disk worker workers survey
  pub took : TakesFront before now (disk_lines worker survey)

-- how far its lines came, and why no further
abbrev pub ChecksDiskUntil : {D : Type 0} → Ghosts D → D → ℕ → ℕ → Option (List ℕ)
    → Option (List ℕ) → ToolFault → Type 0
ChecksDiskUntil d disk worker workers before now (Store other fault) =
    (other ≡ worker) × IsRefusal d disk worker workers fault × Takes before now []
ChecksDiskUntil d disk worker workers before now (DiskFault other) = ⊥
ChecksDiskUntil d disk worker workers before now SinkFault =
    ChecksDiskFront d disk worker workers before now
ChecksDiskUntil d disk worker workers before now NoMemory = Takes before now []
