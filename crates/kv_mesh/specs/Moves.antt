-- What a turn of one party, and a look at the rings between two, leave of all parties.
use Rattle.std.specs.Prelude.{◌≡◌, ◌≢◌, ◌⊎◌, ◌+◌, ◌<◌, ◌≤◌, ◌^◌, ℕ, List, ◌++◌, [], ◌∷◌, length, Option}
use Rattle.std.specs.Prelude.{None}
use Rattle.std.specs.Prelude.{Bool, false, option_to_list, slice_set}
use Rattle.kv_base.specs.declared.sink.Sink as sinks
use Rattle.kv_base.specs.declared.source.Source as sources
use Rattle.kv_disk.specs.declared.disk.Disk as disks
use Rattle.kv_index.specs.declared.index.Index as indexes
use Rattle.kv_groups.specs.Taking.{connection_of, group_taken}
use Rattle.kv_groups.specs.declared.connection.Connection.{Connection}
use Rattle.kv_ring.specs.Ends.{peers, sent_to, received_from, SameRings}
use Rattle.kv_ring.specs.declared.ends.Ends.{Ends}
use Rattle.kv_ring.specs.declared.message.Answer.{Answer}
use Rattle.kv_ring.specs.declared.message.Ask.{Ask}
use Rattle.kv_stamps.specs.Ranges.{range}
use Rattle.kv_stamps.specs.declared.view.View.{View}
use Rattle.kv_session_party.specs.declared.party.SessionParty.{SessionParty}
use Rattle.kv_worker_party.specs.Party.{answers_to}
use Rattle.kv_worker_party.specs.declared.party.WorkerParty.{WorkerParty}
use Rattle.kv_mesh.specs.Linked.{BeganSame, first_sessions, first_workers}
use Rattle.kv_mesh.specs.Moments.{Becomes}
use Rattle.kv_mesh.specs.Places.{AtEach, IsAt}
use Rattle.kv_mesh.specs.Turned.{TurnsSession, TurnsWorker}

-- the seat drew at most one range, at or above the kept number and below the later one, which is at
-- most 2^62
pub record DrawsBetween (kept later : ℕ) (old new : View) : Type 0 where
  pub start : new.start ≡ old.start
  pub up : kept ≤ later
  pub limit : later ≤ 2 ^ 62
  pub drawn : (new.drawn ≡ old.drawn) ⊎ ((base : ℕ) × (count : ℕ) × (kept ≤ base)
      × (base + count ≤ later) × (new.drawn ≡ old.drawn ++ range base count ∷ []))

module _ {F : Type 0} where
  -- of one session: the worker of this number, of so many, received its next message, if one came, and
  -- has an answer to it exactly where it took it; it takes none while an answer waits
  pub record TakesNext (session worker workers : ℕ) (ends new : Ends (Answer F) (Ask F) 8)
      (connections after : List (Connection F)) : Type 0 where
    pub came : Option (Ask F)
    pub waits : Bool
    pub answer : List (Answer F)
    pub received : received_from new session
        ≡ received_from ends session ++ option_to_list came
    pub waited : (connection_of connections session).waiting ≡ None → waits ≡ false
    pub taken : length answer
        ≡ length (option_to_list (group_taken worker workers waits came))
    pub sent : answers_to new after session ≡ answers_to ends connections session ++ answer

module _ {D I F : Type 0} {d : disks.Ghosts D} {i : indexes.Ghosts I} where
  -- a worker's turn, with stamps between the two numbers
  pub record MovesWorker (kept later : ℕ) (old new : WorkerParty D I F d i) : Type 0 where
    pub takes : (session : ℕ) → session < peers old.ends → TakesNext session
        old.worker.store.worker old.worker.store.workers old.ends new.ends old.connections.items
        new.connections.items
    pub rings : SameRings old.ends new.ends
    pub draws : DrawsBetween kept later old.seat.view new.seat.view
    pub counter : new.seat.counter ≡ old.seat.counter
    pub number : new.worker.store.worker ≡ old.worker.store.worker
    pub workers : new.worker.store.workers ≡ old.worker.store.workers
    pub first : new.first.value ≡ old.first.value
    pub becomes : Becomes old new
    pub turned : TurnsWorker old new

  -- so it was with the worker at this place, and the others stay
  pub record MovesAt (worker kept later : ℕ) (workers now : List (WorkerParty D I F d i)) :
      Type 0 where
    pub old : WorkerParty D I F d i
    pub new : WorkerParty D I F d i
    pub at : IsAt workers worker old
    pub now_is : now ≡ slice_set workers worker new
    pub moves : MovesWorker kept later old new

  -- a look left all of the worker but what its ends know of
  pub record LooksWorker (old new : WorkerParty D I F d i) : Type 0 where
    pub rings : SameRings old.ends new.ends
    pub sent : (session : ℕ) → sent_to new.ends session ≡ sent_to old.ends session
    pub received : (session : ℕ) → received_from new.ends session ≡ received_from old.ends session
    pub connections : new.connections ≡ old.connections
    pub worker : new.worker ≡ old.worker
    pub first : new.first.value ≡ old.first.value
    pub seat : new.seat ≡ old.seat
    pub lifted : new.lifted ≡ old.lifted

module _ {So Si F : Type 0} {so : sources.Ghosts So} {si : sinks.Ghosts Si} where
  -- a session's turn
  pub record MovesSession (old new : SessionParty So Si F so si) : Type 0 where
    pub rings : SameRings old.links.ends new.links.ends
    pub first : new.first.value ≡ old.first.value
    pub turned : TurnsSession old new

  -- so it was with the session at this place, and the others stay
  pub record MovesSessionAt (session : ℕ) (sessions now : List (SessionParty So Si F so si)) :
      Type 0 where
    pub old : SessionParty So Si F so si
    pub new : SessionParty So Si F so si
    pub at : IsAt sessions session old
    pub now_is : now ≡ slice_set sessions session new
    pub moves : MovesSession old new

  -- a look left all of the session but what its ends know of
  pub record LooksSession (old new : SessionParty So Si F so si) : Type 0 where
    pub rings : SameRings old.links.ends new.links.ends
    pub sent : (worker : ℕ) → sent_to new.links.ends worker ≡ sent_to old.links.ends worker
    pub received : (worker : ℕ)
        → received_from new.links.ends worker ≡ received_from old.links.ends worker
    pub session : new.session ≡ old.session
    pub seat : new.seat ≡ old.seat
    pub waiting : new.waiting ≡ old.waiting
    pub first : new.first.value ≡ old.first.value
    pub lifted : new.lifted ≡ old.lifted

module _ {So Si D I F : Type 0} {so : sources.Ghosts So} {si : sinks.Ghosts Si}
    {d : disks.Ghosts D} {i : indexes.Ghosts I} where
  -- so it was with each party
  pub record Looks (workers : List (WorkerParty D I F d i))
      (sessions : List (SessionParty So Si F so si)) (new_workers : List (WorkerParty D I F d i))
      (new_sessions : List (SessionParty So Si F so si)) : Type 0 where
    pub workers_began : first_workers new_workers ≡ first_workers workers
    pub sessions_began : first_sessions new_sessions ≡ first_sessions sessions
    pub each_worker : AtEach LooksWorker workers new_workers
    pub each_session : AtEach LooksSession sessions new_sessions

  -- the parties are what those became: they began as those did, and each worker went on
  pub record Become (workers : List (WorkerParty D I F d i))
      (sessions : List (SessionParty So Si F so si)) (start : ℕ)
      (new_workers : List (WorkerParty D I F d i))
      (new_sessions : List (SessionParty So Si F so si)) (new_start : ℕ) : Type 0 where
    pub began : BeganSame workers sessions start new_workers new_sessions new_start
    pub each : AtEach Becomes workers new_workers

  -- the party with this number, if there is one, made a turn: workers come first, sessions follow; and
  -- the others stay, but for looks at the rings
  pub record TurnsParty (number : ℕ) (workers : List (WorkerParty D I F d i))
      (sessions : List (SessionParty So Si F so si)) (new_workers : List (WorkerParty D I F d i))
      (new_sessions : List (SessionParty So Si F so si)) : Type 0 where
    pub worker : (old new : WorkerParty D I F d i) → IsAt workers number old
        → IsAt new_workers number new → TurnsWorker old new
    pub session : (session : ℕ) (old new : SessionParty So Si F so si)
        → number ≡ length workers + session → IsAt sessions session old
        → IsAt new_sessions session new → TurnsSession old new
    pub other_workers : (worker : ℕ) (old new : WorkerParty D I F d i) → number ≢ worker
        → IsAt workers worker old → IsAt new_workers worker new → LooksWorker old new
    pub other_sessions : (session : ℕ) (old new : SessionParty So Si F so si)
        → number ≢ length workers + session → IsAt sessions session old
        → IsAt new_sessions session new → LooksSession old new
