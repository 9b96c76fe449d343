-- What each party promises of its own data alone: a worker of its ring ends, its seat of the
-- counter, its store and its disk, a session of its ring ends, its seat and the groups that it
-- answered.
use Rattle.std.specs.Prelude.{◌≡◌, ◌≤◌, ◌<◌, ◌+◌, ℕ, List, ◌++◌, length, Bool, false, true}
use Rattle.std.specs.List.{AllByRecursion}
use Rattle.kv_base.specs.declared.request.Request.{Request}
use Rattle.kv_disk.specs.declared.disk.Disk as disks
use Rattle.kv_model.specs.Batch.{Start}
use Rattle.kv_model.specs.History.{Write}
use Rattle.kv_model.specs.Items.{FollowsHistory}
use Rattle.kv_model.specs.Pairs.{Pair, pairs_in, writes}
use Rattle.kv_ring.specs.declared.message.Ask.{Ask}
use Rattle.kv_ring.specs.declared.message.Answer.{Answer}
use Rattle.kv_stamps.specs.declared.view.View.{View}
use Rattle.kv_parties.specs.Causes.{KeepsCauses}
use Rattle.kv_parties.specs.Groups.{replies_of}
use Rattle.kv_parties.specs.Messages.{groups_in, all_asking, answered_in, IsPartOf, IsWhole, Hears}
use Rattle.kv_parties.specs.Messages.{takes_message}
use Rattle.kv_parties.specs.Recovered.{LeavesPrefixes}
use Rattle.kv_parties.specs.Sessions.{AsksGroups}
use Rattle.kv_parties.specs.Setting.{Setting}
use Rattle.kv_parties.specs.Stamps.{KeepsStamps, KeepsLooks}
use Rattle.kv_parties.specs.Workers.{AnswersGroups, done_pairs}

-- what a worker has beside its ring ends: what its seat knows of the counter, its disk as it was
-- and as it is, whether it is closed, and what a batch would find at its store
pub record WorkerData (D : Type 0) : Type 0 where
  pub view : View
  pub first : D
  pub now : D
  pub closed : Bool
  pub store : Start

-- an open store has of each key what the writes leave of it behind all stamps so far
abbrev pub KeepsMap : Setting → List Write → View → Bool → Start → Type 0
KeepsMap setting history view closed store = closed ≡ false → (stamp : ℕ) → view.seen ≤ stamp + 1
    → FollowsHistory setting.told history stamp store

-- a worker's promise, by what it received from each session and sent to it, where an answer that
-- waits to be sent counts as sent: it took all messages but those that it passed over, and answered
-- each that it took; the answers are those of one plain map that began with its earlier writes, and
-- have their causes; the store has that map; and a crash leaves a prefix of its writes
pub record WorkerPromise {D F : Type 0} (d : disks.Ghosts D) (setting : Setting) (worker : ℕ)
    (before : List Write) (received : ℕ → List (Ask F)) (sent : ℕ → List (Answer F))
    (own : WorkerData D) : Type 0 where
  pub taken : ℕ → List (Ask F)
  pub part : (session : ℕ) → session < setting.sessions
      → IsPartOf (taken session) (all_asking (received session))
  pub each : (session : ℕ) → session < setting.sessions
      → length (sent session) ≡ length (taken session)
  pub whole : (session : ℕ) → session < setting.sessions → AllByRecursion IsWhole (sent session)
  pub groups : AnswersGroups setting worker before (λ session. groups_in (taken session))
      (λ session. answered_in (sent session)) own.view.drawn
  pub batches : List (List Pair)
  pub same : pairs_in batches ≡ done_pairs groups.history
  pub stamps : KeepsStamps setting (λ session. groups_in (taken session)) own.view
      (pairs_in batches)
  pub causes : KeepsCauses setting before own.view.spent (d.faults own.first) (d.faults own.now)
      own.closed batches
  pub map : KeepsMap setting (before ++ writes (pairs_in batches)) own.view own.closed own.store
  pub leaves : LeavesPrefixes d setting worker own.first own.now before (pairs_in batches)

-- a session's promise, by what it sent to each worker, where a message that waits to be sent counts
-- as sent, and received from it: each message is one that the worker takes; it heard each answer to
-- a message, is owed one at most, and none unless it waits; it asked and answered these groups, but
-- not yet the one of these requests; and its seat passed over numbers for an After alone
pub record SessionPromise {F : Type 0} (setting : Setting) (sent : ℕ → List (Ask F))
    (received : ℕ → List (Answer F)) (groups : List (List Pair)) (requests : List Request)
    (waiting : Bool) (view : View) : Type 0 where
  pub taken : (worker : ℕ) → worker < setting.workers → AllByRecursion (λ message.
      takes_message setting.layout worker setting.workers message ≡ true)
      (all_asking (sent worker))
  pub heard : ℕ → List (Answer F)
  pub hears : (worker : ℕ) → worker < setting.workers
      → Hears (all_asking (sent worker)) (received worker) (heard worker)
  pub owed : (worker : ℕ) → worker < setting.workers
      → length (all_asking (sent worker)) ≤ length (heard worker) + 1
  pub quiet : waiting ≡ false → (worker : ℕ) → worker < setting.workers
      → length (all_asking (sent worker)) ≤ length (heard worker)
  pub asks : AsksGroups setting (λ worker. groups_in (sent worker))
      (λ worker. replies_of (answered_in (heard worker))) groups requests waiting
  pub looks : KeepsLooks view groups asks.exchanges
