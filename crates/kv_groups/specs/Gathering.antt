-- What a turn takes from the sessions.
use Rattle.std.specs.Prelude.{◌≡◌, ℕ, ◌<◌, max, List, [], ◌∷◌, ◌++◌, map, length, Option, None, Some, Bool}
use Rattle.std.specs.Prelude.{true, false, not, is_some, ◌||◌, ◌&&◌, if◌then◌else◌, option_to_list}
use Rattle.std.specs.Prelude.{slice_index_or}
use Rattle.kv_base.specs.Reserved.{Reserved}
use Rattle.kv_ring.specs.Ends.{peers, SameRings}
use Rattle.kv_ring.specs.declared.ends.Ends.{Ends}
use Rattle.kv_ring.specs.declared.message.Answer.{Answer}
use Rattle.kv_ring.specs.declared.message.Ask.{Ask}
use Rattle.kv_ring.specs.declared.task.Task.{Task}
use Rattle.kv_groups.specs.declared.connection.Connection.{Connection}
use Rattle.kv_groups.specs.Batched.{IsEmptied}
use Rattle.kv_groups.specs.Taking.{connection_of, is_bye, group_taken}
use Rattle.kv_groups.specs.Traffic.{Traffic, traffic_with, WaitsForPlace}

-- what a turn takes from a session: whether an answer to it still waits, the message that came, if
-- one did, and the tasks of the group that it takes
pub record Intake (F : Type 0) : Type 0 where
  pub waits : Bool
  pub came : Option (Ask F)
  pub tasks : List Task

module _ {F : Type 0} where
  -- the group is in hand, and its tasks are these; or none is
  abbrev pub IsInHand : Option (ℕ × Reserved Task) → Connection F → List Task → Type 0
  IsInHand None now tasks = (now.group ≡ None) × (tasks ≡ [])
  IsInHand (Some group) now tasks = (now.seen ≡ group.0) × (tasks ≡ group.1.items)
      × IsEmptied (Some group.1) now.group

  -- the group that is taken, with what its session had seen
  abbrev pub taken_by : ℕ → ℕ → Intake F → Option (ℕ × Reserved Task)
  taken_by worker workers intake = group_taken worker workers intake.waits intake.came

  -- the answer that waited was sent, or waits on for want of a place; then the next message was taken
  -- or passed over
  pub record Gathers (worker workers : ℕ) (traffic new : Traffic F) (old now : Connection F)
      (intake : Intake F) : Type 0 where
    pub received : new.received ≡ traffic.received ++ option_to_list intake.came
    pub none : intake.came ≡ None → new.known ≡ []
    pub sent : new.sent ++ option_to_list now.waiting
        ≡ traffic.sent ++ option_to_list old.waiting
    pub waits : intake.waits ≡ is_some now.waiting
    pub waited : old.waiting ≡ None → now.waiting ≡ None
    pub full : WaitsForPlace now.waiting new
    pub gone : now.gone ≡ (old.gone || is_bye intake.came)
    pub taken : IsInHand (taken_by worker workers intake) now intake.tasks

  -- an answer waited, or a message came
  abbrev pub has_moved : Connection F → Intake F → Bool
  has_moved connection intake = is_some connection.waiting || is_some intake.came

  -- so it was with one of the sessions
  abbrev pub any_moved : List (Connection F) → List (Intake F) → Bool
  any_moved [] intakes = false
  any_moved (connection ∷ connections) [] = false
  any_moved (connection ∷ connections) (intake ∷ intakes) = has_moved connection intake
      || any_moved connections intakes

  -- nothing was taken
  abbrev pub nothing : Intake F
  nothing = record { waits = false; came = None; tasks = [] }

  -- the tasks that were taken from each session
  abbrev pub all_tasks : List (Intake F) → List (List Task)
  all_tasks intakes = map (λ intake. intake.tasks) intakes

  -- what was taken from the session of this number
  abbrev pub intake_of : List (Intake F) → ℕ → Intake F
  intake_of intakes session = slice_index_or intakes session nothing

  -- so it was with all sessions
  pub record GathersAll (worker workers : ℕ) (ends new : Ends (Answer F) (Ask F) 8)
      (old now : List (Connection F)) (intakes : List (Intake F)) (moved : Bool) : Type 0 where
    pub many : length intakes ≡ peers ends
    pub size : length now ≡ length old
    pub each : (session : ℕ) → session < peers ends → Gathers worker workers
        (traffic_with ends session) (traffic_with new session) (connection_of old session)
        (connection_of now session) (intake_of intakes session)
    pub moved_is : moved ≡ any_moved old intakes
    pub rings : SameRings ends new

  -- whether no group is in hand
  abbrev pub all_idle : List (Connection F) → Bool
  all_idle [] = true
  all_idle (connection ∷ connections) = not (is_some connection.group) && all_idle connections

  -- no group is in hand
  abbrev pub AreIdle : List (Connection F) → Type 0
  AreIdle connections = (session : ℕ) → (connection_of connections session).group ≡ None

  -- what the session had seen when it sent the group in hand, 0 where none is
  abbrev pub seen_in : Connection F → ℕ
  seen_in connection = if is_some connection.group then connection.seen else 0

-- the greatest of the numbers
abbrev pub greatest : List ℕ → ℕ
greatest [] = 0
greatest (number ∷ numbers) = max number (greatest numbers)
