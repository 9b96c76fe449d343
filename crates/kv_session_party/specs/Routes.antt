-- A group of requests on its way: who answers each of them.
use Rattle.std.specs.Prelude.{◌≡◌, ℕ, ◌<◌, List, [], ◌∷◌, length, filter, nat_eq}
use Rattle.std.specs.Prelude.{None, Some, Bool, true, false, not, is_some, ◌&&◌, ◌⊎◌, ⊤}
use Rattle.std.specs.Prelude.{MatchOption, slice_set, IsSome}
use Rattle.kv_base.specs.declared.reply.Reply.TheVariants as reply
use Rattle.kv_base.specs.declared.request.Request.{Request}
use Rattle.kv_base.specs.declared.request.Request.TheVariants.{Flush}
use Rattle.kv_model.specs.Pairs.{key_of}
use Rattle.kv_parties.specs.Setting.{IsOwned, owns}
use Rattle.kv_ring.specs.declared.task.Task.{Task}
use Rattle.kv_session_party.specs.declared.part.Part.{Part}
use Rattle.kv_session_party.specs.declared.routes.Place.{Place}
use Rattle.kv_session_party.specs.declared.routes.Place.TheVariants.{Own, Worker}
use Rattle.kv_session_party.specs.Parts.{AddsTask, HasTasks, is_bare, part_of}

-- who answers each request of the group, and each worker's tasks
pub record RoutesState : Type 0 where
  pub places : List Place
  pub parts : List Part

-- the task goes to this worker, of so many
abbrev pub goes_to : ℕ → ℕ → Task → Bool
goes_to workers worker task = not (is_some task.reply) && owns workers worker (key_of task.request)

-- the tasks that go to this worker, of so many
abbrev pub part_for : ℕ → ℕ → List Task → List Task
part_for workers worker tasks = filter (goes_to workers worker) tasks

-- the place is that of this worker
abbrev pub is_at : ℕ → Place → Bool
is_at worker (Own reply) = false
is_at worker (Worker number) = nat_eq number worker

-- the session has the task's reply, or the worker, of so many, owns its key
abbrev pub IsPlace : ℕ → Task → Place → Type 0
IsPlace workers task (Own reply) = task.reply ≡ Some reply
IsPlace workers task (Worker number) = (task.reply ≡ None) × (number < workers)
    × (owns workers number (key_of task.request) ≡ true)

-- each task has its place
abbrev pub ArePlaces : ℕ → List Task → List Place → Type 0
ArePlaces workers [] [] = ⊤
ArePlaces workers [] (place ∷ places) = ⊥
ArePlaces workers (task ∷ tasks) [] = ⊥
ArePlaces workers (task ∷ tasks) (place ∷ places) = IsPlace workers task place
    × ArePlaces workers tasks places

-- each task has its place, and is the next one of its worker's part where it goes to one
pub record IsRouted (tasks : List Task) (routes : RoutesState) : Type 0 where
  pub places : ArePlaces (length routes.parts) tasks routes.places
  pub parts : (worker : ℕ) → worker < length routes.parts
      → HasTasks (part_of routes.parts worker) (part_for (length routes.parts) worker tasks)

-- the group has no request, and each part is here and has no task
pub record IsBare (routes : RoutesState) : Type 0 where
  pub places : length routes.places ≡ 0
  pub parts : (worker : ℕ) → is_bare (part_of routes.parts worker) ≡ true

-- the task has a reply, or is about a key
abbrev pub IsRoutable : Task → Type 0
IsRoutable task = task.reply ≡ None → IsSome (key_of task.request)

-- the task of a request that the session answers itself, for want of memory
abbrev pub unrouted : Task
unrouted = record { request = Flush; reply = Some reply.NoMemory }

-- the task is the same, or there was no memory to route it
abbrev pub IsKept : Task → Task → Type 0
IsKept task kept = (kept ≡ task) ⊎ ((task.reply ≡ None) × (kept ≡ unrouted))

-- so it is with each task
abbrev pub AreKept : List Task → List Task → Type 0
AreKept [] [] = ⊤
AreKept [] (task ∷ kept) = ⊥
AreKept (task ∷ tasks) [] = ⊥
AreKept (task ∷ tasks) (next ∷ kept) = IsKept task next × AreKept tasks kept

-- the request's task is the last one of the part of its owner, whose place this is; or it is no task,
-- and the session answers NoMemory
abbrev pub IsPlaced : List Part → List Part → Request → Place → Type 0
IsPlaced parts new request (Own own) = (new ≡ parts) × (own ≡ reply.NoMemory)
IsPlaced parts new request (Worker number) = (number < length parts)
    × IsOwned (length parts) number request
    × ((part : Part) × (new ≡ slice_set parts number part)
    × AddsTask true (part_of parts number) part (record { request = request; reply = None }))

-- the task's reply is its place, or its request is placed
abbrev pub IsPut : List Part → List Part → Task → Place → Type 0
IsPut parts new task place = MatchOption task.reply (IsPlaced parts new task.request place)
    (λ own. (new ≡ parts) × (place ≡ Own own))
