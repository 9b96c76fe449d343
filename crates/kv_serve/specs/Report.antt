-- What the commands `check` and `dump` do, from the site as it was to the site as it is.
use Rattle.std.specs.Prelude.{◌≡◌, ◌<◌, ℕ, ◌⊎◌, List, [], length, slice_get, Option, None, Some}
use Rattle.std.specs.Prelude.{Result, Ok, Err, IfErr, IsTrue}
use Rattle.kv_base.specs.Calls.{next_count}
use Rattle.kv_disk.specs.declared.disk.Disk.{Ghosts}
use Rattle.kv_recover.specs.declared.fault.OpenFault.TheVariants as faults
use Rattle.kv_site.specs.Held.{Held}
use Rattle.kv_tools.specs.Checked.{Checks, ChecksUntil}
use Rattle.kv_tools.specs.Disks.{ReadsAll, CountsAll}
use Rattle.kv_tools.specs.Dumped.{Dumps, DumpsUntil}
use Rattle.kv_tools.specs.Faults.{HasReportCause, sink_faults}
use Rattle.kv_tools.specs.declared.fault.ToolFault.{ToolFault}
use Rattle.kv_tools.specs.declared.fault.ToolFault.TheVariants as tools
use Rattle.kv_serve.specs.Outside.{Outside}
use Rattle.kv_serve.specs.Taken.{SessionsKept, DisksKept}
use Rattle.kv_serve.specs.declared.ended.Ended.{Ended}
use Rattle.kv_serve.specs.declared.ended.Refused.{Refused}
use Rattle.kv_serve.specs.declared.ended.Refused.TheVariants.{Disk, TakeDisk, TakeSession}
use Rattle.kv_serve.specs.declared.ended.Refused.TheVariants.{TakeReport}
use Rattle.kv_serve.specs.declared.report.ReportKind.{ReportKind}
use Rattle.kv_serve.specs.declared.report.ReportKind.TheVariants.{Check, Dump}

-- what came of a report: it is whole, or why it isn't
abbrev pub Outcome : Type 0
Outcome = Result (Unit {0}) ToolFault

-- what was appended of the report over the disks to what a sink holds
abbrev pub Appends : {D : Type 0} → Ghosts D → ReportKind → List D → Option (List ℕ)
    → Option (List ℕ) → Outcome → Type 0
Appends d Check disks before now (Ok done) = Checks d disks (length disks) before now
Appends d Check disks before now (Err fault) = ChecksUntil d disks before now fault
Appends d Dump disks before now (Ok done) = IsTrue d.tells → Dumps d disks before now
Appends d Dump disks before now (Err fault) = DumpsUntil d disks before now fault

-- the report over the disks was made, which were only read: what a sink took of it, why no more, and
-- what was counted of failed calls
pub record Makes {D O : Type 0} (d : Ghosts D) (held : O → Option (List ℕ)) (failed : O → ℕ)
    (kind : ReportKind) (olds news : List D) (old new : O) (outcome : Outcome) : Type 0 where
  pub report : Appends d kind olds (held old) (held new) outcome
  pub cause : IfErr outcome (HasReportCause d olds)
  pub reads : ReadsAll d olds news
  pub faults : CountsAll d olds news outcome
  pub counted : failed new ≡ sink_faults outcome (failed old)

-- sessions, disks and the report's sink are held as before
pub record AllKept {In Out Pages : Type 0} (before after : Held In Out Pages) : Type 0 where
  pub sessions : SessionsKept before after
  pub disks : DisksKept before after
  pub report : after.report ≡ before.report

-- the disks of the first workers in the folder and the report's sink were taken and given back, and
-- all else is held as before
pub record ReturnsAll {In Out Pages : Type 0} (before after : Held In Out Pages) (folder : List ℕ)
    (olds news : List Pages) (old new : Out) : Type 0 where
  pub was : (worker : ℕ) (disk : Pages) → slice_get olds worker ≡ Some disk
      → before.disks folder worker ≡ Some disk
  pub back : (worker : ℕ) (disk : Pages) → slice_get news worker ≡ Some disk
      → after.disks folder worker ≡ Some disk
  pub others : (other : List ℕ) (worker : ℕ) → (other ≡ folder → worker < length olds → ⊥)
      → after.disks other worker ≡ before.disks other worker
  pub report_was : before.report ≡ Some old
  pub report_back : after.report ≡ Some new
  pub sessions : SessionsKept before after

-- how a command ends whose report came to this
abbrev pub IsReportEnd : Outcome → ℕ → Option Refused → Type 0
IsReportEnd (Ok done) status refused = (status ≡ 0) × (refused ≡ None)
IsReportEnd (Err (tools.Store worker fault)) status refused = (status ≡ 3)
    × (refused ≡ Some (Disk worker fault))
IsReportEnd (Err (tools.DiskFault worker)) status refused = (status ≡ 3)
    × (refused ≡ Some (Disk worker faults.DiskFault))
IsReportEnd (Err tools.SinkFault) status refused = (status ≡ 1) × (refused ≡ None)
IsReportEnd (Err tools.NoMemory) status refused = (status ≡ 4) × (refused ≡ None)

-- why no report was made: the status, and what shows the cause
abbrev pub RefusesReport : {In Out Pages : Type 0} → Outside In Out Pages → ℕ → ℕ → Option Refused
    → Type 0
RefusesReport o workers status None = (status ≡ 4) × (o.faults' ≡ o.faults)
RefusesReport o workers status (Some (Disk worker fault)) = ⊥
RefusesReport o workers status (Some (TakeDisk worker)) = (status ≡ 3) × (worker < workers)
    × (o.faults' ≡ next_count o.faults)
RefusesReport o workers status (Some (TakeSession session)) = ⊥
RefusesReport o workers status (Some TakeReport) = (status ≡ 3) × (o.faults' ≡ next_count o.faults)

-- the report was made over the disks of so many workers, and the status is by what came of it
pub record HasReport {In Out Pages : Type 0} (d : Ghosts Pages) (o : Outside In Out Pages)
    (kind : ReportKind) (folder : List ℕ) (workers status : ℕ) (refused : Option Refused) :
    Type 0 where
  pub olds : List Pages
  pub news : List Pages
  pub old : Out
  pub new : Out
  pub outcome : Outcome
  pub count : length olds ≡ workers
  pub returns : IsTrue o.tells → ReturnsAll o.before o.after folder olds news old new
  pub makes : Makes d o.streams.held o.streams.sink_faults kind olds news old new outcome
  pub ends : IsReportEnd outcome status refused
  pub calm : o.faults' ≡ o.faults

-- what the command `check` or `dump` did: no session was served; either no report was made, and all
-- is held as before, or one was
pub record IsReported {In Out Pages : Type 0} (d : Ghosts Pages) (o : Outside In Out Pages)
    (kind : ReportKind) (folder : List ℕ) (workers : ℕ) (ended : Ended) : Type 0 where
  pub endings : ended.endings.items ≡ []
  pub did : ((IsTrue o.tells → AllKept o.before o.after)
      × RefusesReport o workers ended.status ended.refused)
      ⊎ HasReport d o kind folder workers ended.status ended.refused
