-- The report of what stands in the slots of disks.
use Rattle.std.specs.Prelude.{◌≡◌, ℕ, ◌≤◌, List, length, slice_get, Some, IsTrue, Option}
use Rattle.std.specs.List.{sum_by}
use Rattle.kv_base.specs.Stream.{Takes}
use Rattle.kv_disk.specs.declared.disk.Disk.{Ghosts}
use Rattle.kv_model.specs.Layout.{all_classes}
use Rattle.kv_model.specs.Recovery.{OpensAs}
use Rattle.kv_recover.specs.declared.kind.ClassCount.{ClassCount}
use Rattle.kv_recover.specs.declared.kind.Survey.{Survey}
use Rattle.kv_recover.specs.Kinds.{IsSurvey, sum_of}
use Rattle.kv_tools.specs.declared.fault.ToolFault.{ToolFault}
use Rattle.kv_tools.specs.declared.fault.ToolFault.TheVariants.{Store, DiskFault, SinkFault, NoMemory}
use Rattle.kv_tools.specs.Lines.{report}
use Rattle.kv_tools.specs.Sent.{TakesFront}

-- what stands on the disk of a worker of so many, which opens as that worker's
pub record IsSurveyOf {D : Type 0} (d : Ghosts D) (disk : D) (worker workers : ℕ)
    (survey : Survey) : Type 0 where
  pub opens : IsTrue d.tells → OpensAs all_classes (d.seen disk) worker workers
  pub says : IsTrue d.tells → IsSurvey (d.seen disk) worker workers survey.fresh survey.floor
      survey.classes.items
  pub classes : length survey.classes.items ≡ 11
  pub sums : (class : ℕ) (count : ClassCount) → slice_get survey.classes.items class ≡ Some count
      → sum_of count ≡ count.end
  pub keys : survey.keys ≡ sum_by (λ count. count.kept) survey.classes.items

-- the surveys are those of the first disks
pub record AreSurveys {D : Type 0} (d : Ghosts D) (disks : List D) (surveys : List Survey) :
    Type 0 where
  pub within : length surveys ≤ length disks
  pub each : (worker : ℕ) (disk : D) (survey : Survey) → slice_get disks worker ≡ Some disk
      → slice_get surveys worker ≡ Some survey
      → IsSurveyOf d disk worker (length disks) survey

-- the lines of so many disks, the first ones, were appended to what a sink holds
pub record Checks {D : Type 0} (d : Ghosts D) (disks : List D) (count : ℕ)
    (before now : Option (List ℕ)) : Type 0 where
  pub surveys : List Survey
  pub surveys_are : AreSurveys d disks surveys
  pub count_is : length surveys ≡ count
  pub took : Takes before now (report 0 surveys)

-- a front of the lines of some disks, the first ones, and not all of it was appended
pub record ChecksFront {D : Type 0} (d : Ghosts D) (disks : List D)
    (before now : Option (List ℕ)) : Type 0 where
  pub surveys : List Survey
  pub surveys_are : AreSurveys d disks surveys
  pub took : TakesFront before now (report 0 surveys)

-- how far the report came: to the disk that was refused, to where the sink failed, or to some disk
abbrev pub ChecksUntil : {D : Type 0} → Ghosts D → List D → Option (List ℕ) → Option (List ℕ)
    → ToolFault → Type 0
ChecksUntil d disks before now (Store worker fault) = Checks d disks worker before now
ChecksUntil d disks before now (DiskFault worker) = ⊥
ChecksUntil d disks before now SinkFault = ChecksFront d disks before now
ChecksUntil d disks before now NoMemory = (count : ℕ) × Checks d disks count before now
