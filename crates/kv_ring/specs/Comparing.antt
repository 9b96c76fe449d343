-- What a look at the two rings between a session and a worker tells, with both ends in one thread.
use Rattle.std.specs.Prelude.{◌≡◌, ℕ, ◌+◌, ◌≤◌, length}
use Rattle.kv_ring.specs.Ends.{known_from, Looked, HasAll, KnowsPlaces}
use Rattle.kv_ring.specs.declared.ends.Ends.{Ends}

-- from the session's ends and the worker's before the look to those behind it: nothing was sent or
-- received; on each ring what was sent is what was received and then what is left, at most two
-- messages, which the receiver knows of, and the sender of each free place; so many are left in both
pub record Compares {S R : Type 0} {most limit : ℕ} (near new : Ends S R most) (session : ℕ)
    (far now : Ends R S limit) (worker left : ℕ) : Type 0 where
  pub session_ends : Looked worker near new
  pub worker_ends : Looked session far now
  pub asks : HasAll new worker now session
  pub answers : HasAll now session new worker
  pub asks_places : KnowsPlaces new worker now session
  pub answers_places : KnowsPlaces now session new worker
  pub few : (length (known_from now session) ≤ 2) × (length (known_from new worker) ≤ 2)
  pub value : left ≡ length (known_from now session) + length (known_from new worker)
