-- What a store did, from its first turn to the end of all sessions.
use Rattle.std.specs.Prelude.{◌≡◌, ◌<◌, ◌≤◌, ℕ, List, length, Some, Bool}
use Rattle.std.specs.List.{AllByRecursion}
use Rattle.kv_base.specs.Crash.{Same}
use Rattle.kv_disk.specs.declared.disk.Disk as disks
use Rattle.kv_model.specs.Agreement.{AgreesWithMap}
use Rattle.kv_model.specs.History.{Write}
use Rattle.kv_model.specs.Order.{RespectsOrder, TellsCounter}
use Rattle.kv_model.specs.Pairs.{Pair, noted_stamps, pairs_in}
use Rattle.kv_parties.specs.Begun.{all_before}
use Rattle.kv_parties.specs.Causes.{any_unsure}
use Rattle.kv_parties.specs.Recovered.{LeavesPrefixes}
use Rattle.kv_parties.specs.Rows.{row}
use Rattle.kv_parties.specs.Sessions.{greatest}
use Rattle.kv_parties.specs.Setting.{Setting}
use Rattle.kv_session.specs.Passage.{Streams, HasSession}
use Rattle.kv_session.specs.Session.{SessionState}
use Rattle.kv_session.specs.declared.ending.Ending.{Ending}
use Rattle.kv_session.specs.declared.ending.SessionParts.{SessionParts}
use Rattle.kv_worker.specs.Worker.{WorkerView}
use Rattle.kv_mesh.specs.Places.{IsAt}
use Rattle.kv_mesh.specs.Refusals.{IsSpentBy, RefusesForCause, count_keyed}

-- all pairs of so many sessions
abbrev pub pairs_of_all : ℕ → (ℕ → List (List Pair)) → List Pair
pairs_of_all sessions groups = row sessions (λ session. pairs_in (groups session))

-- the session ran to its end: what it took and gave since it began is that of these groups
pub record RanToEnd {So Si : Type 0} (streams : Streams So Si) (first : SessionState So Si)
    (last : SessionParts So Si) (groups : List (List Pair)) : Type 0 where
  pub ending : Ending
  pub ending_is : last.ending ≡ Some ending
  pub session : HasSession streams first.source last.source first.sink last.sink ending groups

-- all sessions ran to their ends, each with its groups, whose pairs together are those of one plain map
-- that began with the earlier writes; each session's stamps are in its order, each number of the counter
-- that it was told is above the floor and all that it had seen, and each refusal has its cause; each
-- disk recovers a prefix of the writes, at the end one with all that are acknowledged, and
-- what a crash could leave before stays; and a write is unsure exactly where that is told
pub record Serves {So Si D I : Type 0} (d : disks.Ghosts D) (streams : Streams So Si)
    (setting : Setting) (before : ℕ → List Write) (workers : List (WorkerView D I))
    (sessions : List (SessionState So Si)) (ended : List (WorkerView D I))
    (parts : List (SessionParts So Si)) (unsure : Bool) : Type 0 where
  pub groups : ℕ → List (List Pair)
  pub many_workers : length ended ≡ length workers
  pub many_sessions : length parts ≡ length sessions
  pub transcripts : (session : ℕ) (first : SessionState So Si) (last : SessionParts So Si)
      → IsAt sessions session first → IsAt parts session last
      → RanToEnd streams first last (groups session)
  pub right : AgreesWithMap setting.told setting.layout (all_before setting before) setting.floor
      (pairs_of_all setting.sessions groups)
  pub ordered : (session : ℕ) → session < setting.sessions → RespectsOrder (groups session)
  pub counter : (session : ℕ) → session < setting.sessions
      → TellsCounter setting.floor (groups session)
  pub causes : (worker : ℕ) (first last : WorkerView D I) → IsAt workers worker first
      → IsAt ended worker last → RefusesForCause setting worker (all_before setting before)
      (d.faults first.store.disk.disk) (d.faults last.store.disk.disk) last.store.closed
      (pairs_of_all setting.sessions groups)
  pub leaves : (worker : ℕ) (first last : WorkerView D I) → IsAt workers worker first
      → IsAt ended worker last → LeavesPrefixes d setting worker first.store.disk.disk
      last.store.disk.disk (all_before setting before) (pairs_of_all setting.sessions groups)
  pub past : (worker : ℕ) (first last : WorkerView D I) → IsAt workers worker first
      → IsAt ended worker last → (moment : ℕ) → moment ≤ d.calls first.store.disk.disk
      → Same (d.leaves first.store.disk.disk moment) (d.leaves last.store.disk.disk moment)
  pub unsure_is : unsure ≡ any_unsure (pairs_of_all setting.sessions groups)

-- it serves so, and stamps were spent only by the requests about keys, from the greatest of the floor and
-- the stamps that were noted on
pub record ServesInAll {So Si D I : Type 0} (d : disks.Ghosts D) (streams : Streams So Si)
    (setting : Setting) (before : ℕ → List Write) (workers : List (WorkerView D I))
    (sessions : List (SessionState So Si)) (ended : List (WorkerView D I))
    (parts : List (SessionParts So Si)) (unsure : Bool) : Type 0 where
  pub serves : Serves d streams setting before workers sessions ended parts unsure
  pub spent : AllByRecursion (IsSpentBy
      (greatest setting.floor (noted_stamps (pairs_of_all setting.sessions serves.groups)))
      (count_keyed (pairs_of_all setting.sessions serves.groups)))
      (pairs_of_all setting.sessions serves.groups)
