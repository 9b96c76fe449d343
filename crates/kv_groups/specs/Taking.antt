-- Which messages a worker takes, and what it then has in hand of their session.
use Rattle.std.specs.Prelude.{ℕ, ◌^◌, nat_eq, nat_le, nat_lt, List, [], ◌∷◌, length, Option, None, Some}
use Rattle.std.specs.Prelude.{Bool, true, false, not, is_some, ◌&&◌, ◌||◌, if◌then◌else◌, slice_index_or}
use Rattle.kv_base.specs.Partition.{owner_of}
use Rattle.kv_base.specs.Reserved.{Reserved}
use Rattle.kv_model.specs.Agreement.{refusal_of}
use Rattle.kv_model.specs.Layout.{all_classes}
use Rattle.kv_model.specs.Pairs.{key_of}
use Rattle.kv_ring.specs.declared.message.Ask.{Ask}
use Rattle.kv_ring.specs.declared.message.Ask.TheVariants.{Group, Prepare, Start, Drop, Bye}
use Rattle.kv_ring.specs.declared.task.Task.{Task}
use Rattle.kv_groups.specs.declared.connection.Connection.{Connection}

-- the worker, of so many, owns the key, if there is one
abbrev pub owns_key : ℕ → ℕ → Option (List ℕ) → Bool
owns_key workers worker None = false
owns_key workers worker (Some key) = nat_eq (owner_of key workers) worker

-- a worker, of so many, takes the task: one without a reply, of good sizes, about a key of its own
abbrev pub takes_task : ℕ → ℕ → Task → Bool
takes_task worker workers task = not (is_some task.reply)
    && not (is_some (refusal_of all_classes task.request))
    && owns_key workers worker (key_of task.request)

-- it takes each of the tasks
abbrev pub takes_each : ℕ → ℕ → List Task → Bool
takes_each worker workers [] = true
takes_each worker workers (task ∷ tasks) = takes_task worker workers task
    && takes_each worker workers tasks

-- it takes the tasks of a group, at most 64
abbrev pub takes_all : ℕ → ℕ → List Task → Bool
takes_all worker workers tasks = nat_le (length tasks) 64 && takes_each worker workers tasks

-- it takes a group of a session that had seen this stamp, unless an answer to the session waits
abbrev pub takes_group : ℕ → ℕ → Bool → ℕ → List Task → Bool
takes_group worker workers waits seen tasks = not waits && nat_lt seen (2 ^ 62)
    && takes_all worker workers tasks

module _ {F : Type 0} where
  -- nothing is in hand of a new session
  abbrev pub new_connection : Connection F
  new_connection = record { seen = 0; group = None; waiting = None; gone = false }

  -- what is in hand of the session of this number
  abbrev pub connection_of : List (Connection F) → ℕ → Connection F
  connection_of connections session = slice_index_or connections session new_connection

  -- what is in hand behind the message
  abbrev pub after_message : ℕ → ℕ → Connection F → Ask F → Connection F
  after_message worker workers connection (Group seen tasks) =
      if takes_group worker workers (is_some connection.waiting) seen tasks.items
      then record connection { seen = seen; group = Some tasks } else connection
  after_message worker workers connection (Prepare fold low high) = connection
  after_message worker workers connection (Start stamp) = connection
  after_message worker workers connection Drop = connection
  after_message worker workers connection Bye = record connection { gone = true }

  -- the same, if a message came
  abbrev pub after_came : ℕ → ℕ → Connection F → Option (Ask F) → Connection F
  after_came worker workers connection None = connection
  after_came worker workers connection (Some message) =
      after_message worker workers connection message

  -- the session says that it has ended
  abbrev pub is_bye : Option (Ask F) → Bool
  is_bye None = false
  is_bye (Some (Group seen tasks)) = false
  is_bye (Some (Prepare fold low high)) = false
  is_bye (Some (Start stamp)) = false
  is_bye (Some Drop) = false
  is_bye (Some Bye) = true

  -- the session has said that it has ended
  abbrev pub has_bye : List (Ask F) → Bool
  has_bye [] = false
  has_bye (message ∷ messages) = is_bye (Some message) || has_bye messages

  -- the group that is taken, with what its session had seen
  abbrev pub group_taken : ℕ → ℕ → Bool → Option (Ask F) → Option (ℕ × Reserved Task)
  group_taken worker workers waits None = None
  group_taken worker workers waits (Some (Group seen tasks)) =
      if takes_group worker workers waits seen tasks.items then Some (seen, tasks) else None
  group_taken worker workers waits (Some (Prepare fold low high)) = None
  group_taken worker workers waits (Some (Start stamp)) = None
  group_taken worker workers waits (Some Drop) = None
  group_taken worker workers waits (Some Bye) = None
