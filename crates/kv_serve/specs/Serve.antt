-- What the command `serve` does, from the site as it was to the site as it is.
use Rattle.std.specs.Prelude.{◌≡◌, ◌≢◌, ℕ, ◌+◌, ◌<◌, ◌≤◌, ◌⊎◌, List, [], length, slice_get}
use Rattle.std.specs.Prelude.{Option, None, Some, Bool, true, false, IsTrue, if◌then◌else◌}
use Rattle.std.specs.List.{list_all}
use Rattle.kv_base.specs.declared.cause.Cause.{Cause}
use Rattle.kv_base.specs.declared.cause.Cause.TheVariants.{End, Malformed, Limit, SourceFault}
use Rattle.kv_base.specs.declared.cause.Cause.TheVariants.{SinkFault}
use Rattle.kv_base.specs.Calls.{next_count}
use Rattle.kv_base.specs.Crash.{Only}
use Rattle.kv_base.specs.declared.limits.Limits.{Limits}
use Rattle.kv_disk.specs.declared.disk.Disk.{Ghosts}
use Rattle.kv_mesh.specs.Served.{pairs_of_all}
use Rattle.kv_model.specs.History.{Write}
use Rattle.kv_model.specs.Pairs.{Pair}
use Rattle.kv_parties.specs.Begun.{all_before}
use Rattle.kv_parties.specs.Causes.{any_unsure}
use Rattle.kv_recover.specs.declared.fault.OpenFault.TheVariants as faults
use Rattle.kv_session.specs.Passage.{HasSession}
use Rattle.kv_session.specs.declared.ending.Ending.{Ending}
use Rattle.kv_serve.specs.Answers.{HasAnswers, LeavesAcknowledged, LeavesSome, setting_with}
use Rattle.kv_serve.specs.Opening.{HadAllItems, Opens, OpensBefore}
use Rattle.kv_serve.specs.Outside.{Outside}
use Rattle.kv_serve.specs.Taken.{ReturnsDisks, ReturnsSessions, SessionsKept}
use Rattle.kv_serve.specs.declared.ended.Refused.{Refused}
use Rattle.kv_serve.specs.declared.ended.Refused.TheVariants.{Disk, TakeDisk, TakeSession}
use Rattle.kv_serve.specs.declared.ended.Refused.TheVariants.{TakeReport}
use Rattle.kv_serve.specs.declared.ended.Ended.{Ended}

-- the cause is End
abbrev pub is_end : Cause → Bool
is_end End = true
is_end (Malformed offset) = false
is_end Limit = false
is_end SourceFault = false
is_end SinkFault = false

-- whether all sessions ended with End
abbrev pub all_end : List Ending → Bool
all_end endings = list_all (λ ending. is_end ending.cause) endings

-- the status where sessions were served: 1 where a cause isn't End or a write is unsure, else 0
abbrev pub served_status : List Ending → Bool → ℕ
served_status endings unsure = if all_end endings then (if unsure then 1 else 0) else 1

-- the disks of so many first workers in the folder were taken and given back, and what was done with
-- each
pub record TookEach {In Out Pages : Type 0} (o : Outside In Out Pages) (folder : List ℕ)
    (count : ℕ) (Did : ℕ → Pages → Pages → Type 0) : Type 0 where
  pub olds : List Pages
  pub news : List Pages
  pub took : length olds ≡ count
  pub gave : length news ≡ count
  pub returns : IsTrue o.tells → ReturnsDisks o.before o.after folder olds news
  pub did : (worker : ℕ) (old new : Pages) → slice_get olds worker ≡ Some old
      → slice_get news worker ≡ Some new → Did worker old new

-- memory ran out: where some of the disks were opened, or while the last of them was opened
abbrev pub RunsOut : {In Out Pages : Type 0} → Ghosts Pages → Outside In Out Pages → List ℕ → ℕ
    → Type 0
RunsOut d o folder workers =
    ((count : ℕ) × (count ≤ workers) × TookEach o folder count (Opens d workers))
    ⊎ ((last : ℕ) × (last < workers)
    × TookEach o folder (last + 1) (OpensBefore d workers last faults.NoMemory))

-- why nothing was served: the status, and what shows the cause
abbrev pub Refuses : {In Out Pages : Type 0} → Ghosts Pages → Outside In Out Pages → List ℕ → ℕ
    → ℕ → ℕ → Option Refused → Type 0
Refuses d o folder workers sessions status None = (status ≡ 4) × (o.faults' ≡ o.faults)
    × RunsOut d o folder workers
Refuses d o folder workers sessions status (Some (Disk worker fault)) = (status ≡ 3)
    × (worker < workers) × (fault ≢ faults.NoMemory) × (o.faults' ≡ o.faults)
    × TookEach o folder (worker + 1) (OpensBefore d workers worker fault)
Refuses d o folder workers sessions status (Some (TakeDisk worker)) = (status ≡ 3)
    × (worker < workers) × (o.faults' ≡ next_count o.faults)
    × TookEach o folder worker (Opens d workers)
Refuses d o folder workers sessions status (Some (TakeSession session)) = (status ≡ 3)
    × (session < sessions) × (o.faults' ≡ next_count o.faults)
    × TookEach o folder workers (Opens d workers)
Refuses d o folder workers sessions status (Some TakeReport) = ⊥

-- sessions were served from what stood on the disks of all workers: disks and ends were taken and
-- given back; each session ran to its end; the replies are those of one plain map; of each disk on
-- which nothing was pending each moment leaves a prefix of its writes that holds all earlier ones; the
-- exit leaves one that holds all acknowledged ones too; and the status is that of the endings
pub record IsServed {In Out Pages : Type 0} (d : Ghosts Pages) (o : Outside In Out Pages)
    (folder : List ℕ) (workers : ℕ) (limits : Limits) (status : ℕ) (endings : List Ending) :
    Type 0 where
  pub olds : List Pages
  pub news : List Pages
  pub ends : List (In × Out)
  pub ends' : List (In × Out)
  pub took : (length olds ≡ workers) × (length ends ≡ length endings)
  pub gave : (length news ≡ workers) × (length ends' ≡ length endings)
  pub disks : IsTrue o.tells → ReturnsDisks o.before o.after folder olds news
  pub sessions : IsTrue o.tells → ReturnsSessions o.before o.after ends ends'
  pub before : ℕ → List Write
  pub floor : ℕ
  pub had : HadAllItems d olds before floor
  pub groups : ℕ → List (List Pair)
  pub transcripts : (session : ℕ) (first last : In × Out) (ending : Ending)
      → slice_get ends session ≡ Some first → slice_get ends' session ≡ Some last
      → slice_get endings session ≡ Some ending
      → HasSession o.streams first.0 last.0 first.1 last.1 ending (groups session)
  pub answers : HasAnswers d (setting_with d limits floor (length endings) workers) before olds news
      groups
  pub settled : (worker : ℕ) (old new : Pages) → slice_get olds worker ≡ Some old
      → slice_get news worker ≡ Some new → Only (d.seen old) (d.leaves old (d.calls old))
      → LeavesSome d (setting_with d limits floor (length endings) workers) worker old new
      (all_before (setting_with d limits floor (length endings) workers) before)
      (pairs_of_all (length endings) groups)
  pub exit : (worker : ℕ) (new : Pages) → slice_get news worker ≡ Some new
      → LeavesAcknowledged d (setting_with d limits floor (length endings) workers) worker new
      (all_before (setting_with d limits floor (length endings) workers) before)
      (pairs_of_all (length endings) groups)
  pub status_is : status ≡ served_status endings
      (any_unsure (pairs_of_all (length endings) groups))
  pub calm : o.faults' ≡ o.faults

-- what the command did, by its endings: none where nothing was served, and then all sessions are held
-- as before; else one for each session
abbrev pub EndsWith : {In Out Pages : Type 0} → Ghosts Pages → Outside In Out Pages → List ℕ → ℕ
    → Limits → ℕ → ℕ → Option Refused → List Ending → Type 0
EndsWith d o folder workers limits sessions status refused endings =
    ((endings ≡ []) × (IsTrue o.tells → SessionsKept o.before o.after)
    × Refuses d o folder workers sessions status refused)
    ⊎ ((length endings ≡ sessions) × (refused ≡ None)
    × ∥ IsServed d o folder workers limits status endings ∥₁)

-- what the command `serve` did; the report's sink is held as before
pub record IsDone {In Out Pages : Type 0} (d : Ghosts Pages) (o : Outside In Out Pages)
    (folder : List ℕ) (workers : ℕ) (limits : Limits) (sessions : ℕ) (ended : Ended) :
    Type 0 where
  pub ends : EndsWith d o folder workers limits sessions ended.status ended.refused
      ended.endings.items
  pub report : IsTrue o.tells → o.after.report ≡ o.before.report
