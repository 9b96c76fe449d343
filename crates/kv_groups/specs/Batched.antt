-- The tasks of several sessions in one batch.
use Rattle.std.specs.Prelude.{◌≡◌, ℕ, ◌+◌, List, [], ◌∷◌, ◌++◌, map, length, Option, None, Some, ⊤}
use Rattle.kv_base.specs.Reserved.{Reserved}
use Rattle.kv_base.specs.declared.reply.Reply.{Reply}
use Rattle.kv_ring.specs.Tasks.{requests_of, replies_of}
use Rattle.kv_ring.specs.declared.task.Task.{Task}

-- the tasks of the session of this number
abbrev pub of_session : ℕ → List Task → List (ℕ × Task)
of_session session tasks = map (λ task. (session, task)) tasks

-- the tasks of each session, by rising number from this one on
abbrev pub in_hand : ℕ → List (List Task) → List (ℕ × Task)
in_hand session [] = []
in_hand session (tasks ∷ groups) = of_session session tasks ++ in_hand (session + 1) groups

-- the tasks are the same ones, each with a reply
pub record AreReplied (tasks replied : List Task) : Type 0 where
  pub requests : requests_of replied ≡ requests_of tasks
  pub replies : List Reply
  pub replies_are : replies_of replied ≡ map (λ reply. Some reply) replies

-- the tasks of the group, if there is one
abbrev pub tasks_in : Option (Reserved Task) → List Task
tasks_in None = []
tasks_in (Some tasks) = tasks.items

-- the group is there still, with as many tasks and as much room
abbrev pub IsEmptied : Option (Reserved Task) → Option (Reserved Task) → Type 0
IsEmptied None None = ⊤
IsEmptied None (Some now) = ⊥
IsEmptied (Some was) None = ⊥
IsEmptied (Some was) (Some now) = (length now.items ≡ length was.items) × (now.spare ≡ was.spare)
