-- What the promises of all parties say together.
use Rattle.std.specs.Prelude.{◌≡◌, ◌≤◌, ◌<◌, ◌+◌, ◌^◌, ℕ, List, ◌++◌, length, ◌⊎◌}
use Rattle.std.specs.Prelude.{Contains}
use Rattle.std.specs.Prelude.{Bool, false}
use Rattle.std.specs.List.{AllByRecursion}
use mathlib.Core.List.{IsPrefix}
use Rattle.kv_base.specs.Partition.{owner_of}
use Rattle.kv_base.specs.declared.request.Request.{Request}
use Rattle.kv_disk.specs.declared.disk.Disk as disks
use Rattle.kv_model.specs.Agreement.{AgreesWithMap}
use Rattle.kv_model.specs.History.{Write, value_at}
use Rattle.kv_model.specs.Items.{SameValue}
use Rattle.kv_model.specs.Order.{RespectsOrder, TellsCounter}
use Rattle.kv_model.specs.Pairs.{Pair, pairs_in, noted_stamps, writes}
use Rattle.kv_ring.specs.declared.message.Ask.{Ask}
use Rattle.kv_ring.specs.declared.message.Answer.{Answer}
use Rattle.kv_stamps.specs.Ranges.{among}
use Rattle.kv_stamps.specs.declared.view.View.{View}
use Rattle.kv_parties.specs.Begun.{all_before}
use Rattle.kv_parties.specs.Causes.{HasCauses, IsOwn, IsLooked}
use Rattle.kv_parties.specs.Messages.{all_asking, answered_in}
use Rattle.kv_parties.specs.Promises.{WorkerData, WorkerPromise, SessionPromise}
use Rattle.kv_parties.specs.Recovered.{LeavesPrefixes}
use Rattle.kv_parties.specs.Rows.{sum_below, row}
use Rattle.kv_parties.specs.Setting.{Setting}

-- what all parties have: the messages and answers that each sent to each and received, by session
-- and worker or by worker and session; each worker's earlier writes, and what it has beside its
-- ring ends; each session's answered groups, the requests of the one under way, whether it waits,
-- and what its seat knows of the counter
pub record Parties (F D : Type 0) : Type 0 where
  pub asks_sent : ℕ → ℕ → List (Ask F)
  pub asks_received : ℕ → ℕ → List (Ask F)
  pub answers_sent : ℕ → ℕ → List (Answer F)
  pub answers_received : ℕ → ℕ → List (Answer F)
  pub before : ℕ → List Write
  pub workers : ℕ → WorkerData D
  pub groups : ℕ → List (List Pair)
  pub requests : ℕ → List Request
  pub waiting : ℕ → Bool
  pub views : ℕ → View

-- the pair is one of these, or one that its session answered itself, by a refusal or by the counter
abbrev pub IsAccounted : Setting → List Pair → Pair → Type 0
IsAccounted setting pairs pair =
    ∥ Contains pairs pair ⊎ (IsOwn setting.layout pair ⊎ IsLooked pair) ∥₁

module _ {F D : Type 0} where
  -- all pairs that workers answered: by worker, then by session
  abbrev pub all_answered : Setting → Parties F D → List Pair
  all_answered setting parties = row setting.workers (λ worker. row setting.sessions (λ session.
      pairs_in (answered_in (parties.answers_sent worker session))))

  -- all pairs that sessions answered
  abbrev pub all_pairs : Setting → Parties F D → List Pair
  all_pairs setting parties =
      row setting.sessions (λ session. pairs_in (parties.groups session))

  -- all stamps that sessions noted
  abbrev pub all_noted : Setting → Parties F D → List ℕ
  all_noted setting parties =
      row setting.sessions (λ session. noted_stamps (pairs_in (parties.groups session)))

  -- all parties keep their promises, what was received begins what was sent, no number is in two
  -- ranges, and the counter began above the floor
  pub record AllKeep (d : disks.Ghosts D) (setting : Setting) (parties : Parties F D) : Type 0 where
    pub workers : (worker : ℕ) → worker < setting.workers → WorkerPromise d setting worker
        (parties.before worker) (parties.asks_received worker) (parties.answers_sent worker)
        (parties.workers worker)
    pub sessions : (session : ℕ) → session < setting.sessions → SessionPromise setting
        (parties.asks_sent session) (parties.answers_received session) (parties.groups session)
        (parties.requests session) (parties.waiting session) (parties.views session)
    pub asks : (session worker : ℕ) → session < setting.sessions → worker < setting.workers
        → IsPrefix (parties.asks_received worker session) (parties.asks_sent session worker)
    pub answers : (session worker : ℕ) → session < setting.sessions → worker < setting.workers
        → IsPrefix (parties.answers_received session worker) (parties.answers_sent worker session)
    pub apart : (number : ℕ)
        → sum_below setting.workers (λ worker. among number (parties.workers worker).view.drawn) ≤ 1
    pub started : (session : ℕ) → session < setting.sessions
        → (parties.views session).start ≡ setting.floor + 1
    pub limit : setting.floor < 2 ^ 62

  -- each message that a worker received and that has an answer is answered
  abbrev pub NonePassed : Setting → Parties F D → Type 0
  NonePassed setting parties = (session worker : ℕ) → session < setting.sessions
      → worker < setting.workers → length (parties.answers_sent worker session)
      ≡ length (all_asking (parties.asks_received worker session))

  -- no session waits
  abbrev pub NoneWaits : Setting → Parties F D → Type 0
  NoneWaits setting parties = (session : ℕ) → session < setting.sessions
      → parties.waiting session ≡ false

  -- the pairs are those of one plain map that began with what all disks kept; each session's stamps
  -- are in its order, each number that its After was ahead of is above the floor and what it had
  -- seen, and what it answered is one of the pairs, its own refusal or the counter's; each refusal
  -- has its cause, each open worker's store has its part of the map, and each disk recovers a
  -- prefix of the writes
  pub record Stands (d : disks.Ghosts D) (setting : Setting) (parties : Parties F D)
      (pairs : List Pair) : Type 0 where
    pub right : AgreesWithMap setting.told setting.layout (all_before setting parties.before)
        setting.floor pairs
    pub ordered : (session : ℕ) → session < setting.sessions
        → RespectsOrder (parties.groups session)
    pub counter : (session : ℕ) → session < setting.sessions
        → TellsCounter setting.floor (parties.groups session)
    pub accounted : (session : ℕ) → session < setting.sessions
        → AllByRecursion (IsAccounted setting pairs) (pairs_in (parties.groups session))
    pub causes : (worker : ℕ) → worker < setting.workers → HasCauses setting worker
        (all_before setting parties.before) (parties.workers worker).view.spent
        (d.faults (parties.workers worker).first) (d.faults (parties.workers worker).now)
        (parties.workers worker).closed pairs
    pub map : (worker : ℕ) → worker < setting.workers → (parties.workers worker).closed ≡ false
        → (stamp : ℕ) → (parties.workers worker).view.seen ≤ stamp + 1 → (key : List ℕ)
        → owner_of key setting.workers ≡ worker
        → SameValue setting.told ((parties.workers worker).store.value key)
        (value_at (all_before setting parties.before ++ writes pairs) stamp key)
    pub leaves : (worker : ℕ) → worker < setting.workers → LeavesPrefixes d setting worker
        (parties.workers worker).first (parties.workers worker).now
        (all_before setting parties.before) pairs
