-- Parties that made their turns until all had ended.
use Rattle.std.specs.Prelude.{◌≡◌, ℕ, List, length, map, Bool, None, IfSome}
use Rattle.kv_base.specs.declared.sink.Sink as sinks
use Rattle.kv_base.specs.declared.source.Source as sources
use Rattle.kv_disk.specs.declared.disk.Disk as disks
use Rattle.kv_index.specs.declared.index.Index as indexes
use Rattle.kv_session_party.specs.Threads.{SessionStays}
use Rattle.kv_worker_party.specs.Threads.{WorkerStays}
use Rattle.kv_session.specs.declared.ending.SessionParts.{SessionParts}
use Rattle.kv_session_party.specs.declared.party.SessionParty.{SessionParty}
use Rattle.kv_worker.specs.Worker.{WorkerView}
use Rattle.kv_worker_party.specs.declared.party.WorkerParty.{WorkerParty}
use Rattle.kv_mesh.specs.Finished.{parts_of}
use Rattle.kv_mesh.specs.Joining.{joined_from, HasLooked}
use Rattle.kv_mesh.specs.Mesh.{any_closed}
use Rattle.kv_mesh.specs.Places.{AtEach}
use Rattle.kv_mesh.specs.Running.{AreOver}
use Rattle.kv_mesh.specs.Settled.{AreInOrder}

module _ {So Si D I F : Type 0} {so : sources.Ghosts So} {si : sinks.Ghosts Si}
    {d : disks.Ghosts D} {i : indexes.Ghosts I} where
  -- the later parties are what turns leave of the earlier ones
  pub record Stay (workers : List (WorkerParty D I F d i))
      (sessions : List (SessionParty So Si F so si)) (now : List (WorkerParty D I F d i))
      (new : List (SessionParty So Si F so si)) : Type 0 where
    pub many_workers : length now ≡ length workers
    pub many_sessions : length new ≡ length sessions
    pub each_worker : AtEach WorkerStays workers now
    pub each_session : AtEach SessionStays sessions new

  -- the parts were handed out of these parties, whose ends were brought together, and a look at the
  -- counter was made with all their seats
  pub record HandedOut (workers : List (WorkerParty D I F d i))
      (sessions : List (SessionParty So Si F so si)) (ended : List (WorkerView D I))
      (parts : List (SessionParts So Si)) (unsure : Bool) : Type 0 where
    pub order : (session worker : ℕ) → AreInOrder workers sessions session worker
    pub seats : IfSome (joined_from (joined_from None (map (λ party. party.seat) workers))
        (map (λ party. party.seat) sessions)) HasLooked
    pub ended_are : ended ≡ map (λ party. party.worker) workers
    pub parts_are : parts ≡ map (λ party. parts_of party.session) sessions
    pub unsure_is : unsure ≡ any_closed workers

  -- turns were made until each session had ended, and then the parts were handed out
  pub record RanOut (workers : List (WorkerParty D I F d i))
      (sessions : List (SessionParty So Si F so si)) (ended : List (WorkerView D I))
      (parts : List (SessionParts So Si)) (unsure : Bool) : Type 0 where
    pub now : List (WorkerParty D I F d i)
    pub new : List (SessionParty So Si F so si)
    pub stay : Stay workers sessions now new
    pub over : AreOver new
    pub handed : HandedOut now new ended parts unsure
