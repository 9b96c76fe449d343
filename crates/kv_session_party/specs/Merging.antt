-- Merging the replies of a group.
use Rattle.std.specs.Prelude.{◌≡◌, ℕ, ◌<◌, List, [], ◌∷◌, length, filter}
use Rattle.std.specs.Prelude.{false, ⊤}
use Rattle.std.specs.Prelude.{if◌then◌else◌, slice_set}
use Rattle.std.specs.List.{AllByRecursion}
use Rattle.kv_base.specs.declared.reply.Reply.{Reply}
use Rattle.kv_session_party.specs.declared.part.Part.{Part}
use Rattle.kv_session_party.specs.declared.routes.Place.{Place}
use Rattle.kv_session_party.specs.declared.routes.Place.TheVariants.{Own, Worker}
use Rattle.kv_session_party.specs.Parts.{EndsReplied, HasReply, TakesReply, is_away, part_of}
use Rattle.kv_session_party.specs.Parts.{tasks_here}
use Rattle.kv_session_party.specs.Routes.{is_at}

-- the replies at the worker's places, in order
abbrev pub replies_at : ℕ → List Place → List Reply → List Reply
replies_at worker [] replies = []
replies_at worker (place ∷ places) [] = []
replies_at worker (place ∷ places) (reply ∷ replies) = if is_at worker place
    then reply ∷ replies_at worker places replies else replies_at worker places replies

-- the reply is the place's own, where it has one
abbrev pub IsOwn : Place → Reply → Type 0
IsOwn (Own own) reply = reply ≡ own
IsOwn (Worker number) reply = ⊤

-- one reply for each place, and its own where it has one
abbrev pub HaveOwn : List Place → List Reply → Type 0
HaveOwn [] [] = ⊤
HaveOwn [] (reply ∷ replies) = ⊥
HaveOwn (place ∷ places) [] = ⊥
HaveOwn (place ∷ places) (reply ∷ replies) = IsOwn place reply × HaveOwn places replies

-- the replies in the order of the places: the session's own, and each worker's in the order of its
-- answer
pub record IsMerged (places : List Place) (answers : ℕ → List Reply) (replies : List Reply) :
    Type 0 where
  pub own : HaveOwn places replies
  pub by_worker : (worker : ℕ) → replies_at worker places replies ≡ answers worker

-- the place is the session's, or that of a worker of so many
abbrev pub IsKnown : ℕ → Place → Type 0
IsKnown workers (Own reply) = ⊤
IsKnown workers (Worker number) = number < workers

-- each worker's part is here, with just one task for each of its places, and each of these has its
-- reply
pub record AreAnswered (places : List Place) (parts : List Part) : Type 0 where
  pub here : (worker : ℕ) → is_away (part_of parts worker) ≡ false
  pub known : AllByRecursion (IsKnown (length parts)) places
  pub many : (worker : ℕ) → length (filter (is_at worker) places)
      ≡ length (tasks_here (part_of parts worker))
  pub replied : (worker : ℕ)
      → AllByRecursion HasReply (tasks_here (part_of parts worker))

-- a task with its reply is there for the place, the last one of its worker's part, or it needs none
abbrev pub IsReady : Place → List Part → Type 0
IsReady (Own reply) parts = ⊤
IsReady (Worker number) parts = (number < length parts)
    × EndsReplied (tasks_here (part_of parts number))

-- the reply is the place's own, or is taken from the last task of its worker's part
abbrev pub RepliesAt : Place → List Part → List Part → Reply → Type 0
RepliesAt (Own own) parts new reply = (reply ≡ own) × (new ≡ parts)
RepliesAt (Worker number) parts new reply = (part : Part) × (new ≡ slice_set parts number part)
    × TakesReply (part_of parts number) part reply
