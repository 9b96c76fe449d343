-- Between any two turns: what came over the rings, and that no message was passed over.
use Rattle.std.specs.Prelude.{◌≡◌, ◌-◌, ◌<◌, ℕ, List, length}
use mathlib.Core.List.{IsPrefix}
use Rattle.kv_base.specs.declared.sink.Sink as sinks
use Rattle.kv_base.specs.declared.source.Source as sources
use Rattle.kv_disk.specs.declared.disk.Disk as disks
use Rattle.kv_index.specs.declared.index.Index as indexes
use Rattle.kv_model.specs.History.{Write}
use Rattle.kv_parties.specs.Messages.{all_asking}
use Rattle.kv_ring.specs.Ends.{peers, sent_to, received_from}
use Rattle.kv_session_party.specs.declared.party.SessionParty.{SessionParty}
use Rattle.kv_worker.specs.Worker.{WorkerView}
use Rattle.kv_worker_party.specs.Party.{BeginsWith, answers_to}
use Rattle.kv_worker_party.specs.declared.party.WorkerParty.{WorkerParty}
use Rattle.kv_mesh.specs.Linked.{first_workers}
use Rattle.kv_mesh.specs.Places.{IsAt}

-- each worker began with what its writes left, none of whose stamps is at or above the start
abbrev pub HaveBegun : {D I : Type 0} → disks.Ghosts D → indexes.Ghosts I → List (WorkerView D I)
    → ℕ → (ℕ → List Write) → Type 0
HaveBegun {D} {I} d i firsts start before = (worker : ℕ) (first : WorkerView D I)
    → IsAt firsts worker first → BeginsWith d i first (before worker) (start - 1)

module _ {D I F : Type 0} {d : disks.Ghosts D} {i : indexes.Ghosts I} where
  -- each message that the worker received and that has an answer is answered
  abbrev pub HasAnswered : WorkerParty D I F d i → Type 0
  HasAnswered party = (session : ℕ) → session < peers party.ends
      → length (answers_to party.ends party.connections.items session)
      ≡ length (all_asking (received_from party.ends session))

module _ {So Si D I F : Type 0} {so : sources.Ghosts So} {si : sinks.Ghosts Si}
    {d : disks.Ghosts D} {i : indexes.Ghosts I} where
  -- between this session and this worker, what was received begins what was sent
  pub record InOrder (near : SessionParty So Si F so si) (session : ℕ)
      (far : WorkerParty D I F d i) (worker : ℕ) : Type 0 where
    pub asks : IsPrefix (received_from far.ends session) (sent_to near.links.ends worker)
    pub answers : IsPrefix (received_from near.links.ends worker) (sent_to far.ends session)

  -- so it is between the session and the worker of these numbers
  abbrev pub AreInOrder : List (WorkerParty D I F d i) → List (SessionParty So Si F so si) → ℕ → ℕ
      → Type 0
  AreInOrder workers sessions session worker = (near : SessionParty So Si F so si)
      (far : WorkerParty D I F d i) → IsAt sessions session near → IsAt workers worker far
      → InOrder near session far worker

  -- what was received begins what was sent on each ring; and where the workers began with some
  -- writes, each answered every message that it received
  pub record AreSettled (workers : List (WorkerParty D I F d i))
      (sessions : List (SessionParty So Si F so si)) (start : ℕ) : Type 0 where
    pub order : (session worker : ℕ) → AreInOrder workers sessions session worker
    pub answered : (before : ℕ → List Write) → HaveBegun d i (first_workers workers) start before
        → (worker : ℕ) (party : WorkerParty D I F d i) → IsAt workers worker party
        → HasAnswered party
