-- The promises of all parties on groups and their answers alone.
use Rattle.std.specs.Prelude.{◌≡◌, ◌≤◌, ◌<◌, ℕ, List, Bool, false}
use mathlib.Core.List.{IsPrefix}
use Rattle.kv_base.specs.declared.request.Request.{Request}
use Rattle.kv_model.specs.History.{Write}
use Rattle.kv_model.specs.Pairs.{Pair, pairs_in}
use Rattle.kv_stamps.specs.Ranges.{among}
use Rattle.kv_stamps.specs.declared.view.Range.{Range}
use Rattle.kv_parties.specs.Groups.{Asked, replies_of}
use Rattle.kv_parties.specs.Rows.{sum_below, row}
use Rattle.kv_parties.specs.Sessions.{AsksGroups}
use Rattle.kv_parties.specs.Setting.{Setting}
use Rattle.kv_parties.specs.Workers.{AnswersGroups}

-- what each session asked of each worker, what that worker took of it and answered, and what of
-- this the session heard
pub record Rings : Type 0 where
  pub asked : ℕ → ℕ → List Asked
  pub taken : ℕ → ℕ → List Asked
  pub answered : ℕ → ℕ → List (List Pair)
  pub heard : ℕ → ℕ → List (List Pair)

-- the groups that a session answered, the requests of the one under way, and whether it waits
pub record Course : Type 0 where
  pub groups : List (List Pair)
  pub requests : List Request
  pub waiting : Bool

-- all parties keep their promises, what was taken and heard begins what was asked and answered, and
-- no number is in two ranges
pub record RingsKeep (setting : Setting) (before : ℕ → List Write) (rings : Rings)
    (ranges : ℕ → List Range) (courses : ℕ → Course) : Type 0 where
  pub workers : (worker : ℕ) → worker < setting.workers → AnswersGroups setting worker
      (before worker) (rings.taken worker) (rings.answered worker) (ranges worker)
  pub sessions : (session : ℕ) → session < setting.sessions → AsksGroups setting
      (rings.asked session) (λ worker. replies_of (rings.heard session worker))
      (courses session).groups (courses session).requests (courses session).waiting
  pub asks : (session worker : ℕ) → session < setting.sessions → worker < setting.workers
      → IsPrefix (rings.taken worker session) (rings.asked session worker)
  pub answers : (session worker : ℕ) → session < setting.sessions → worker < setting.workers
      → IsPrefix (rings.heard session worker) (rings.answered worker session)
  pub apart : (number : ℕ)
      → sum_below setting.workers (λ worker. among number (ranges worker)) ≤ 1

-- all pairs that workers answered: by worker, then by session
abbrev pub rings_answered : Setting → (ℕ → ℕ → List (List Pair)) → List Pair
rings_answered setting answered = row setting.workers (λ worker.
    row setting.sessions (λ session. pairs_in (answered worker session)))

-- all pairs that sessions answered
abbrev pub courses_pairs : Setting → (ℕ → Course) → List Pair
courses_pairs setting courses =
    row setting.sessions (λ session. pairs_in (courses session).groups)

-- no session waits, and all that was answered was heard
pub record IsQuiet (setting : Setting) (rings : Rings) (courses : ℕ → Course) : Type 0 where
  pub waits : (session : ℕ) → session < setting.sessions → (courses session).waiting ≡ false
  pub heard : (session worker : ℕ) → session < setting.sessions → worker < setting.workers
      → rings.heard session worker ≡ rings.answered worker session
