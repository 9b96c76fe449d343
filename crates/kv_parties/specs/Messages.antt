-- The messages and answers of rings, as groups and pairs, and which of them are taken.
use Rattle.std.specs.Prelude.{◌≡◌, ◌⊎◌, ◌<◌, ◌^◌, ℕ, nat_le, nat_lt, List, [], ◌∷◌, length, ⊤}
use Rattle.std.specs.Prelude.{Option, Bool, true, false, not, is_some, ◌&&◌, IfSome, Some}
use Rattle.std.specs.List.{AllByRecursion, filter_map, flat_map}
use Rattle.std.specs.Option.{option_map}
use Rattle.kv_base.specs.declared.reply.Reply.{Reply}
use Rattle.kv_model.specs.Agreement.{refusal_of}
use Rattle.kv_model.specs.Frames.{HasReplyFrame}
use Rattle.kv_model.specs.Layout.{Layout}
use Rattle.kv_model.specs.Pairs.{Pair, key_of, stamp_of}
use Rattle.kv_ring.specs.Tasks.{requests_of}
use Rattle.kv_ring.specs.declared.task.Task.{Task}
use Rattle.kv_ring.specs.declared.message.Ask.{Ask}
use Rattle.kv_ring.specs.declared.message.Ask.TheVariants as ask
use Rattle.kv_ring.specs.declared.message.Answer.{Answer}
use Rattle.kv_ring.specs.declared.message.Answer.TheVariants as answer
use Rattle.kv_parties.specs.Groups.{Asked}
use Rattle.kv_parties.specs.Setting.{owns}

-- the task's request with its reply, where it has one
abbrev pub pair_of : Task → Option Pair
pair_of task = option_map (λ reply. record { request = task.request; reply = reply }) task.reply

-- the pairs of the tasks that have a reply
abbrev pub task_pairs : List Task → List Pair
task_pairs tasks = filter_map pair_of tasks

-- the first list is what is left of the second where some elements are passed over
abbrev pub IsPartOf : {X : Type 0} → List X → List X → Type 0
IsPartOf [] ys = ⊤
IsPartOf (x ∷ xs) [] = ⊥
IsPartOf (x ∷ xs) (y ∷ ys) = ((x ≡ y) × IsPartOf xs ys) ⊎ IsPartOf (x ∷ xs) ys

-- the task has a reply that goes into a frame, and its stamp, if it carries one, is below 2 ^ 62
pub record IsReplied (task : Task) : Type 0 where
  pub reply : Reply
  pub is : task.reply ≡ Some reply
  pub framed : HasReplyFrame reply
  pub stamp : IfSome (stamp_of reply) (λ stamp. stamp < 2 ^ 62)

-- a worker, of so many, takes the task: one without a reply, of good sizes, about a key of its own
abbrev pub takes_task : Layout → ℕ → ℕ → Task → Bool
takes_task layout worker workers task = not (is_some task.reply)
    && not (is_some (refusal_of layout task.request)) && owns workers worker (key_of task.request)

-- it takes each of the tasks
abbrev pub takes_each : Layout → ℕ → ℕ → List Task → Bool
takes_each layout worker workers [] = true
takes_each layout worker workers (task ∷ tasks) = takes_task layout worker workers task
    && takes_each layout worker workers tasks

-- it takes the tasks of a group, at most 64
abbrev pub takes_all : Layout → ℕ → ℕ → List Task → Bool
takes_all layout worker workers tasks = nat_le (length tasks) 64
    && takes_each layout worker workers tasks

module _ {F : Type 0} where
  -- the group of a message, where it is one
  abbrev pub group_of : Ask F → List Asked
  group_of (ask.Group seen tasks) = record { seen = seen; requests = requests_of tasks.items } ∷ []
  group_of (ask.Prepare fold low high) = []
  group_of (ask.Start stamp) = []
  group_of ask.Drop = []
  group_of ask.Bye = []

  -- the groups among messages
  abbrev pub groups_in : List (Ask F) → List Asked
  groups_in messages = flat_map group_of messages

  -- the message, where it has an answer
  abbrev pub asking : Ask F → List (Ask F)
  asking (ask.Group seen tasks) = ask.Group seen tasks ∷ []
  asking (ask.Prepare fold low high) = ask.Prepare fold low high ∷ []
  asking (ask.Start stamp) = ask.Start stamp ∷ []
  asking ask.Drop = ask.Drop ∷ []
  asking ask.Bye = []

  -- the messages that have an answer
  abbrev pub all_asking : List (Ask F) → List (Ask F)
  all_asking messages = flat_map asking messages

  -- the pairs of an answer, where it is one to a group
  abbrev pub answered_of : Answer F → List (List Pair)
  answered_of (answer.Group tasks) = task_pairs tasks.items ∷ []
  answered_of (answer.Ready highest) = []
  answered_of (answer.Share fold) = []
  answered_of (answer.Refused why) = []
  answered_of answer.Dropped = []

  -- the pairs of each answer to a group
  abbrev pub answered_in : List (Answer F) → List (List Pair)
  answered_in answers = flat_map answered_of answers

  -- a worker, of so many, takes the message, unless an answer to its session waits to be sent: it
  -- is a group of tasks that the worker takes, and what its session had seen is below 2 ^ 62
  abbrev pub takes_message : Layout → ℕ → ℕ → Ask F → Bool
  takes_message layout worker workers (ask.Group seen tasks) = nat_lt seen (2 ^ 62)
      && takes_all layout worker workers tasks.items
  takes_message layout worker workers (ask.Prepare fold low high) = false
  takes_message layout worker workers (ask.Start stamp) = false
  takes_message layout worker workers ask.Drop = false
  takes_message layout worker workers ask.Bye = false

  -- each task of the answer, which is one to a group, has its reply
  abbrev pub IsWhole : Answer F → Type 0
  IsWhole (answer.Group tasks) = AllByRecursion IsReplied tasks.items
  IsWhole (answer.Ready highest) = ⊥
  IsWhole (answer.Share fold) = ⊥
  IsWhole (answer.Refused why) = ⊥
  IsWhole answer.Dropped = ⊥

  -- the answer is one to the message: to a group one of as many tasks, each with its reply
  abbrev pub IsAnswerTo : Ask F → Answer F → Type 0
  IsAnswerTo (ask.Group seen tasks) (answer.Group replied) =
      (length replied.items ≡ length tasks.items) × AllByRecursion IsReplied replied.items
  IsAnswerTo message reply = ⊥

  -- a session heard these of the answers that came to its messages, and passed over none that is
  -- one to the message to which an answer was owed
  abbrev pub Hears : List (Ask F) → List (Answer F) → List (Answer F) → Type 0
  Hears messages [] heard = heard ≡ []
  Hears [] (next ∷ came) heard = ⊥
  Hears (message ∷ messages) (next ∷ came) heard =
      ((rest : List (Answer F)) × (heard ≡ next ∷ rest) × Hears messages came rest)
      ⊎ ((IsAnswerTo message next → ⊥) × Hears (message ∷ messages) came heard)
