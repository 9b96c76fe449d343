-- A worker's tasks of a group: here, or away at the worker.
use Rattle.std.specs.Prelude.{◌≡◌, ℕ, List, [], ◌∷◌, ◌++◌, length, map, nat_eq}
use Rattle.std.specs.Prelude.{◌^◌, nat_le, nat_lt}
use Rattle.std.specs.Prelude.{Option, None, Some, Bool, true, false, not, ◌&&◌}
use Rattle.std.specs.Prelude.{if◌then◌else◌, slice_index_or, IsSome}
use Rattle.kv_base.specs.Reserved.{Reserved}
use Rattle.kv_base.specs.declared.reply.Reply.{Reply}
use Rattle.kv_base.specs.declared.reply.Reply.TheVariants as reply
use Rattle.kv_parties.specs.Messages.{task_pairs}
use Rattle.kv_ring.specs.declared.message.Answer.{Answer}
use Rattle.kv_ring.specs.declared.message.Answer.TheVariants as answer
use Rattle.kv_ring.specs.declared.task.Task.{Task}
use Rattle.kv_session_party.specs.declared.part.Part.{Part}
use Rattle.kv_session_party.specs.declared.part.Part.TheVariants.{Here, Away}

-- a part that is here and has no task
abbrev pub no_part : Part
no_part = Here (record { items = []; spare = 0 })

-- the part of the worker of this number
abbrev pub part_of : List Part → ℕ → Part
part_of parts worker = slice_index_or parts worker no_part

-- the tasks of a part that is here
abbrev pub tasks_here : Part → List Task
tasks_here (Here tasks) = tasks.items
tasks_here (Away count) = []

-- the part is away
abbrev pub is_away : Part → Bool
is_away (Here tasks) = false
is_away (Away count) = true

-- no part is away
abbrev pub all_here : List Part → Bool
all_here [] = true
all_here (part ∷ parts) = not (is_away part) && all_here parts

-- the part is here, with these tasks
abbrev pub HasTasks : Part → List Task → Type 0
HasTasks (Here tasks) items = tasks.items ≡ items
HasTasks (Away count) items = ⊥

-- the part is here and has no task
abbrev pub is_bare : Part → Bool
is_bare (Here tasks) = nat_eq (length tasks.items) 0
is_bare (Away count) = false

-- the part is here; the answer is whether it has this task more
abbrev pub AddsTask : Bool → Part → Part → Task → Type 0
AddsTask true (Here tasks) new task = HasTasks new (tasks.items ++ task ∷ [])
AddsTask true (Away count) new task = ⊥
AddsTask false part new task = new ≡ part

-- the tasks, if there are any
abbrev pub some_tasks : List Task → Reserved Task → Option (Reserved Task)
some_tasks [] tasks = None
some_tasks (task ∷ items) tasks = Some tasks

-- the tasks of the part that go out: those that are here, if there are any
abbrev pub tasks_out : Part → Option (Reserved Task)
tasks_out (Here tasks) = some_tasks tasks.items tasks
tasks_out (Away count) = None

-- a part of these tasks behind them: away, or here where there are none
abbrev pub part_behind : List Task → Part → Part
part_behind [] part = part
part_behind (task ∷ items) part = Away (length (task ∷ items))

-- the part behind those that went out
abbrev pub part_out : Part → Part
part_out (Here tasks) = part_behind tasks.items (Here tasks)
part_out (Away count) = Away count

-- the stamp is below 2 ^ 62
abbrev pub is_stamp : ℕ → Bool
is_stamp stamp = nat_lt stamp (2 ^ 62)

-- the reply goes into a frame, and its stamp, if it carries one, is below 2 ^ 62
abbrev pub is_good : Reply → Bool
is_good (reply.Stored stamp) = is_stamp stamp
is_good (reply.Found stamp value) = is_stamp stamp && nat_le (length value) 65991
is_good (reply.Missing stamp) = is_stamp stamp
is_good (reply.Removed stamp) = is_stamp stamp
is_good (reply.Absent stamp) = is_stamp stamp
is_good reply.BadKey = true
is_good reply.TooLarge = true
is_good (reply.Full class) = true
is_good reply.NoMemory = true
is_good reply.DiskFault = true
is_good (reply.Unsure stamp) = is_stamp stamp
is_good reply.Closed = true
is_good (reply.StampsSpent number) = true
is_good (reply.Malformed offset) = true
is_good reply.Noted = true
is_good (reply.Ahead number) = true

-- the reply is there, and is such a one
abbrev pub has_reply : Option Reply → Bool
has_reply None = false
has_reply (Some reply) = is_good reply

-- the task has such a reply
abbrev pub HasReply : Task → Type 0
HasReply task = has_reply task.reply ≡ true

-- each task has such a reply
abbrev pub have_replies : List Task → Bool
have_replies [] = true
have_replies (task ∷ tasks) = has_reply task.reply && have_replies tasks

-- these are as many tasks, each with its reply
abbrev pub answers_all : ℕ → List Task → Bool
answers_all count tasks = nat_eq (length tasks) count && have_replies tasks

-- the part behind the answer with these tasks: it is taken where the part is away and these answer
-- all of it
abbrev pub part_with : Reserved Task → Part → Part
part_with tasks (Here items) = Here items
part_with tasks (Away count) =
    if answers_all count tasks.items then Here tasks else Away count

-- the tasks are taken as the answer to the part
abbrev pub takes_tasks : Part → List Task → Bool
takes_tasks (Here items) tasks = false
takes_tasks (Away count) tasks = answers_all count tasks

module _ {F : Type 0} where
  -- the answer is taken as that to the part
  abbrev pub is_taken : Part → Answer F → Bool
  is_taken part (answer.Group tasks) = takes_tasks part tasks.items
  is_taken part (answer.Ready highest) = false
  is_taken part (answer.Share fold) = false
  is_taken part (answer.Refused why) = false
  is_taken part answer.Dropped = false

  -- the part behind the answer, which is passed over unless it is one to the part
  abbrev pub part_after : Part → Answer F → Part
  part_after part (answer.Group tasks) = part_with tasks part
  part_after part (answer.Ready highest) = part
  part_after part (answer.Share fold) = part
  part_after part (answer.Refused why) = part
  part_after part answer.Dropped = part

-- the replies of the tasks that have one
abbrev pub replies_in : List Task → List Reply
replies_in tasks = map (λ pair. pair.reply) (task_pairs tasks)

-- the last task has a reply
abbrev pub EndsReplied : List Task → Type 0
EndsReplied tasks = (rest : List Task) × (last : Task) × (tasks ≡ rest ++ last ∷ [])
    × IsSome last.reply

-- the last task had this reply, and the others are left
abbrev pub TakesReply : Part → Part → Reply → Type 0
TakesReply old new reply = (rest : List Task) × (last : Task)
    × (tasks_here old ≡ rest ++ last ∷ []) × (last.reply ≡ Some reply) × HasTasks new rest
