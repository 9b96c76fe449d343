-- Parties that may make their turns beside each other.
use Rattle.std.specs.Prelude.{◌≡◌, ◌≤◌, ℕ, List, length, IsSome}
use Rattle.kv_base.specs.declared.sink.Sink as sinks
use Rattle.kv_base.specs.declared.source.Source as sources
use Rattle.kv_disk.specs.declared.disk.Disk as disks
use Rattle.kv_index.specs.declared.index.Index as indexes
use Rattle.kv_ring.specs.Ends.{peers, AreBetween}
use Rattle.kv_session_party.specs.declared.party.SessionParty.{SessionParty}
use Rattle.kv_worker_party.specs.declared.party.WorkerParty.{WorkerParty}
use Rattle.kv_mesh.specs.Places.{IsAt}

module _ {So Si F : Type 0} {so : sources.Ghosts So} {si : sinks.Ghosts Si} where
  -- each session has ended
  abbrev pub AreOver : List (SessionParty So Si F so si) → Type 0
  AreOver sessions = (session : ℕ) (party : SessionParty So Si F so si)
      → IsAt sessions session party → IsSome party.session.ending

module _ {So Si D I F : Type 0} {so : sources.Ghosts So} {si : sinks.Ghosts Si}
    {d : disks.Ghosts D} {i : indexes.Ghosts I} where
  -- up to 16 workers and 8 sessions, with two rings between each session and each worker
  pub record AreRinged (workers : List (WorkerParty D I F d i))
      (sessions : List (SessionParty So Si F so si)) : Type 0 where
    pub few_workers : length workers ≤ 16
    pub few_sessions : length sessions ≤ 8
    pub worker_peers : (worker : ℕ) (party : WorkerParty D I F d i) → IsAt workers worker party
        → peers party.ends ≡ length sessions
    pub session_peers : (session : ℕ) (party : SessionParty So Si F so si)
        → IsAt sessions session party → peers party.links.ends ≡ length workers
    pub rings : (session worker : ℕ) (near : SessionParty So Si F so si)
        (far : WorkerParty D I F d i) → IsAt sessions session near → IsAt workers worker far
        → AreBetween near.links.ends session far.ends worker
