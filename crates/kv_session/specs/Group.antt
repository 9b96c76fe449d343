-- A group of requests that is read from a session's bytes.
use Rattle.std.specs.Prelude.{◌≡◌, ◌⊎◌, ℕ, ◌+◌, List, [], ◌∷◌, ◌++◌, length, fold, Option, None}
use Rattle.std.specs.Prelude.{Some, IsSome}
use Rattle.kv_base.specs.declared.cause.Cause.{Cause}
use Rattle.kv_base.specs.declared.request.Request.{Request}
use Rattle.kv_base.specs.declared.request.Request.TheVariants as ask
use Rattle.kv_base.specs.Reserved.{Reserved}
use Rattle.kv_base.specs.Stream.{Stream, Passes}
use Rattle.kv_model.specs.Frames.{BeginsWithRequest, BeginsWithRequests}
use Rattle.kv_model.specs.Groups.{Groups, with_group, next_groups}
use Rattle.kv_model.specs.Pairs.{key_of}
use Rattle.kv_ring.specs.declared.task.Task.{Task}
use Rattle.kv_session.specs.Reading.{ReaderState}
use Rattle.kv_session.specs.Tasks.{GoesOn, IsRefused}
use Rattle.kv_session.specs.declared.gathered.Gathered.{Gathered}
use Rattle.kv_session.specs.declared.gathered.Gathered.TheVariants.{More, After, Ending as EndingOf}
use Rattle.kv_session.specs.declared.group.Kind.{Kind}
use Rattle.kv_session.specs.declared.group.Kind.TheVariants as kind
use Rattle.kv_session.specs.declared.group.Used.{Used}
use Rattle.kv_session.specs.declared.group.Used.TheVariants as used

-- why reading ended with the group, where it did
abbrev pub closing_of : Gathered → Option Cause
closing_of More = None
closing_of (After stamp) = None
closing_of (EndingOf cause) = Some cause

-- the stamp of the After that ended the group, where one did
abbrev pub after_of : Gathered → Option ℕ
after_of More = None
after_of (After stamp) = Some stamp
after_of (EndingOf cause) = None

-- the task is that of the request, which is about a key
pub record IsTaken (request : Request) (task : Task) : Type 0 where
  pub keyed : IsSome (key_of request)
  pub taken : GoesOn request task ⊎ IsRefused request task

-- the request is of this kind, and about a key exactly where it has a task
abbrev pub IsKind : Kind → Request → Type 0
IsKind (kind.Keyed task) asked = IsTaken asked task
IsKind kind.Flush asked = asked ≡ ask.Flush
IsKind (kind.After stamp) asked = asked ≡ ask.After stamp

-- the request at the front was used up, and nothing was taken
pub record UsesUp {So : Type 0} (old new : ReaderState So) (request : Request) : Type 0 where
  pub begins : BeginsWithRequest old.waiting request new.waiting
  pub source : new.source ≡ old.source
  pub taken : new.taken ≡ old.taken
  pub ended : new.ended ≡ old.ended

-- the task stands behind the others, in the room that was taken
pub record Appends (old new : Reserved Task) (task : Task) : Type 0 where
  pub behind : new.items ≡ old.items ++ task ∷ []
  pub spare : new.spare + 1 ≡ old.spare

-- the request was used up: a Flush or an After, which adds no task, or one about a key, which adds
-- its own
abbrev pub TakesFront : {So : Type 0} → Used → ReaderState So → ReaderState So → Reserved Task
    → Reserved Task → Type 0
TakesFront used.Flush old new tasks after = (asked : Request) × UsesUp old new asked
    × (asked ≡ ask.Flush) × (after ≡ tasks)
TakesFront (used.After stamp) old new tasks after = (asked : Request) × UsesUp old new asked
    × (asked ≡ ask.After stamp) × (after ≡ tasks)
TakesFront used.Keyed old new tasks after = (asked : Request) × UsesUp old new asked
    × ((task : Task) × IsTaken asked task × Appends tasks after task)

-- these requests were used up, of the bytes that waited and of those that came
pub record ReadsRequests {So : Type 0} (stream : So → Option Stream) (old new : ReaderState So)
    (requests : List Request) : Type 0 where
  pub bytes : List ℕ
  pub passed : Passes (stream old.source) (stream new.source) bytes
  pub fronts : BeginsWithRequests (old.waiting ++ bytes) requests new.waiting
  pub counted : new.taken ≡ old.taken + length bytes

-- these groups ended, and no other one has begun
abbrev pub ended_groups : List (List Request) → Groups
ended_groups groups = record { ended = groups; current = [] }

-- these groups and then that of these requests, which has ended by its last request or a Flush; an
-- After ends it only as it is handled
abbrev pub groups_behind : Gathered → List (List Request) → List Request → Groups
groups_behind More groups asked = ended_groups (with_group groups asked)
groups_behind (After stamp) groups asked = record { ended = groups; current = asked }
groups_behind (EndingOf cause) groups asked = record { ended = groups; current = asked }

-- behind the group's requests an After was used up where one ended it, and else nothing more
abbrev pub UsesLast : {So : Type 0} → Gathered → ReaderState So → ReaderState So → Type 0
UsesLast More between new = new ≡ between
UsesLast (After stamp) between new = UsesUp between new (ask.After stamp)
UsesLast (EndingOf cause) between new = new ≡ between

-- requests were read that make one group, and those with a reply are these; and then an After,
-- where that ended the group
pub record ReadsGroup {So : Type 0} (stream : So → Option Stream) (old new : ReaderState So)
    (gathered : Gathered) (asked : List Request) : Type 0 where
  pub requests : List Request
  pub between : ReaderState So
  pub reads : ReadsRequests stream old between requests
  pub last : UsesLast gathered between new
  pub grouped : (groups : List (List Request))
      → fold next_groups (ended_groups groups) requests ≡ groups_behind gathered groups asked
