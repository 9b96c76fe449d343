-- How a turn's answers go back to the sessions.
use Rattle.std.specs.Prelude.{◌≡◌, ◌⊎◌, ℕ, ◌<◌, List, [], ◌∷◌, ◌++◌, length, Option, None, Some, Bool}
use Rattle.std.specs.Prelude.{true, not, is_some, ◌&&◌, option_to_list, slice_index_or}
use Rattle.kv_base.specs.Reserved.{Reserved}
use Rattle.kv_ring.specs.Ends.{peers, SameRings}
use Rattle.kv_ring.specs.declared.ends.Ends.{Ends}
use Rattle.kv_ring.specs.declared.message.Answer.{Answer}
use Rattle.kv_ring.specs.declared.message.Answer.TheVariants.{Group}
use Rattle.kv_ring.specs.declared.message.Ask.{Ask}
use Rattle.kv_ring.specs.declared.task.Task.{Task}
use Rattle.kv_groups.specs.declared.connection.Connection.{Connection}
use Rattle.kv_groups.specs.Batched.{in_hand, tasks_in}
use Rattle.kv_groups.specs.Taking.{connection_of}
use Rattle.kv_groups.specs.Traffic.{Traffic, traffic_with, WaitsForPlace}

-- the tasks of the session of this number
abbrev pub tasks_of : List (List Task) → ℕ → List Task
tasks_of groups session = slice_index_or groups session []

module _ {F : Type 0} where
  -- the answer to the group in hand, if one is, with these tasks
  abbrev pub answer_of : Option (Reserved Task) → List Task → List (Answer F)
  answer_of None tasks = []
  answer_of (Some group) tasks = Group (record { items = tasks; spare = group.spare }) ∷ []

  -- the answer with these tasks was sent, or waits for want of a place; nothing is in hand any more
  pub record Delivers (traffic new : Traffic F) (old now : Connection F) (tasks : List Task) :
      Type 0 where
    pub received : new.received ≡ traffic.received
    pub known : new.known ≡ traffic.known
    pub sent : new.sent ++ option_to_list now.waiting
        ≡ (traffic.sent ++ option_to_list old.waiting) ++ answer_of old.group tasks
    pub full : WaitsForPlace old.waiting traffic → WaitsForPlace now.waiting new
    pub gone : now.gone ≡ old.gone
    pub group : now.group ≡ None

  -- where a group is in hand, no answer waits
  abbrev pub AreFree : List (Connection F) → Type 0
  AreFree connections = (session : ℕ) → ((connection_of connections session).group ≡ None)
      ⊎ ((connection_of connections session).waiting ≡ None)

  -- the tasks of all groups in hand
  pub record AreBack (connections : List (Connection F)) (groups : List (List Task))
      (items : List (ℕ × Task)) : Type 0 where
    pub many : length groups ≡ length connections
    pub items_are : items ≡ in_hand 0 groups
    pub sizes : (session : ℕ) → length (tasks_of groups session)
        ≡ length (tasks_in (connection_of connections session).group)

  -- so it was with all sessions
  pub record DeliversAll (ends new : Ends (Answer F) (Ask F) 8) (old now : List (Connection F))
      (groups : List (List Task)) : Type 0 where
    pub each : (session : ℕ) → session < peers ends → Delivers (traffic_with ends session)
        (traffic_with new session) (connection_of old session) (connection_of now session)
        (tasks_of groups session)
    pub rings : SameRings ends new

  -- the session has ended, and no answer waits for it
  abbrev pub has_ended : Connection F → Bool
  has_ended connection = connection.gone && not (is_some connection.waiting)

  -- all sessions have
  abbrev pub all_ended : List (Connection F) → Bool
  all_ended [] = true
  all_ended (connection ∷ connections) = has_ended connection && all_ended connections
