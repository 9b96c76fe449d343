-- A session's party, and what a turn of it does.
use Rattle.std.specs.Prelude.{◌≡◌, ℕ, ◌+◌, ◌^◌, ◌<◌, ◌≤◌, List, [], length, Option, None, Some}
use Rattle.std.specs.Prelude.{Bool}
use Rattle.std.specs.Prelude.{true, false, ◌||◌, ◌&&◌, not, is_some, IsSome, ◌∷◌}
use Rattle.std.specs.Prelude.{max, unwrap_or}
use Rattle.kv_base.specs.declared.reply.Reply.{Reply}
use Rattle.kv_model.specs.Pairs.{stamp_of}
use Rattle.kv_ring.specs.Turn.{turn_of}
use Rattle.kv_ring.specs.declared.turn.Turn.{Turn}
use Rattle.kv_ring.specs.declared.message.Answer.{Answer}
use Rattle.kv_ring.specs.declared.task.Task.{Task}
use Rattle.kv_session_party.specs.Exchanges.{is_owed, Comes}
use Rattle.kv_session_party.specs.Links.{Pushes, any_waits, any_went, waiting_for, coming_from}
use Rattle.kv_session_party.specs.Links.{heard_from}
use Rattle.kv_session_party.specs.Parts.{part_of, is_away, all_here}
use Rattle.kv_session_party.specs.Routes.{RoutesState}
use Rattle.kv_session.specs.Session.{SessionState}
use Rattle.kv_session.specs.declared.ending.Ending.{Ending}
use Rattle.kv_session_party.specs.declared.links.Links.{Links}
use Rattle.kv_session_party.specs.declared.part.Part.{Part}
use Rattle.kv_session.specs.declared.gathered.Gathered.{Gathered}
use Rattle.kv_session.specs.declared.gathered.Gathered.TheVariants.{More, After, Ending as EndingOf}

-- the session has ended, and no message waits
abbrev pub is_over : {F : Type 0} → Option Ending → Links F → Bool
is_over ending links = is_some ending && not (any_waits links.unsent.items)

-- the group ended with the reading
abbrev pub ends_reading : Gathered → Bool
ends_reading More = false
ends_reading (After stamp) = false
ends_reading (EndingOf cause) = true

-- where a message waits for a worker, its tasks are away
abbrev pub WaitsAway : {F : Type 0} → Links F → RoutesState → Type 0
WaitsAway links routes = (worker : ℕ) → is_away (part_of routes.parts worker) ≡ false
    → is_some (waiting_for links worker) ≡ false

-- the stamp that the reply carries, 0 where there is none
abbrev pub stamp_in : Option Reply → ℕ
stamp_in None = 0
stamp_in (Some reply) = unwrap_or (stamp_of reply) 0

-- the greatest of the number and the stamps of the tasks' replies
abbrev pub greatest_in : ℕ → List Task → ℕ
greatest_in number [] = number
greatest_in number (task ∷ tasks) = greatest_in (max number (stamp_in task.reply)) tasks

-- where a group is on its way the next answer of each worker that owes one is taken, if one is known
-- of, and the session goes on waiting exactly where some worker's tasks are away then
pub record WaitsFor {F : Type 0} (links new : Links F) (routes : RoutesState) (waiting moved : Bool) :
    Type 0 where
  pub parts : List Part
  pub came : ℕ → Option (Answer F)
  pub each : (worker : ℕ) → Comes
      (is_owed (part_of routes.parts worker) (waiting_for links worker))
      (part_of routes.parts worker) (part_of parts worker) (came worker)
      (heard_from links worker) (heard_from new worker) (coming_from new worker)
  pub goes_on : waiting ≡ not (all_here parts)
  pub still : moved ≡ false → (worker : ℕ) → came worker ≡ None
  pub some : moved ≡ true → (worker : ℕ) × IsSome (came worker)

-- a turn where a group is on its way: messages that waited are sent as far as there are places, and
-- then it waits for the answers that are owed
pub record TurnsWaiting {F : Type 0} (links new : Links F) (routes : RoutesState) (waiting : Bool)
    (over : Bool) (result : Turn) : Type 0 where
  pub between : Links F
  pub came : Bool
  pub pushes : Pushes links between
  pub waits : WaitsFor between new routes waiting came
  pub result_is : result ≡ turn_of over
      (any_went links.unsent.items between.unsent.items || came)

-- what the session took stays, and so does why its reading ended
pub record KeepsBytes {So Si : Type 0} (old new : SessionState So Si) : Type 0 where
  pub source : new.source ≡ old.source
  pub waiting : new.waiting ≡ old.waiting
  pub taken : new.taken ≡ old.taken
  pub ended : new.ended ≡ old.ended
  pub closing : new.closing ≡ old.closing

-- a turn that reads uses up bytes while reading goes on, and isn't idle
pub record TurnsReading {So Si : Type 0} (old new : SessionState So Si) : Type 0 where
  pub limit : new.taken ≤ 2 ^ 40
  pub progress : new.closing ≡ None
      → length new.waiting + old.taken < length old.waiting + new.taken
