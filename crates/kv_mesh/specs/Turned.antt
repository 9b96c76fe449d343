-- What a turn of one party does.
use Rattle.std.specs.Prelude.{◌≡◌, ◌≢◌, ◌↔◌, ℕ, None, true, false}
use Rattle.kv_base.specs.declared.sink.Sink as sinks
use Rattle.kv_base.specs.declared.source.Source as sources
use Rattle.kv_disk.specs.declared.disk.Disk as disks
use Rattle.kv_index.specs.declared.index.Index as indexes
use Rattle.kv_ring.specs.Ends.{received_from, sent_to}
use Rattle.kv_ring.specs.declared.ends.Ends.{Ends}
use Rattle.kv_ring.specs.declared.message.Answer.{Answer}
use Rattle.kv_ring.specs.declared.message.Ask.{Ask}
use Rattle.kv_ring.specs.declared.turn.Turn.{Turn}
use Rattle.kv_ring.specs.declared.turn.Turn.TheVariants as turn
use Rattle.kv_session_party.specs.Looking.{MayStep}
use Rattle.kv_session_party.specs.Party.{TurnsReading, TurnsWaiting, is_over}
use Rattle.kv_session_party.specs.declared.links.Links.{Links}
use Rattle.kv_session_party.specs.declared.party.SessionParty.{SessionParty}
use Rattle.kv_stamps.specs.Steps.{Looks, Raises}
use Rattle.kv_stamps.specs.declared.view.View.{View}
use Rattle.kv_worker_party.specs.Turns.{Turns}
use Rattle.kv_worker_party.specs.declared.party.WorkerParty.{WorkerParty}

module _ {D I F : Type 0} {d : disks.Ghosts D} {i : indexes.Ghosts I} where
  -- a worker's turn, which left these ends: the counter is raised before it, and it and the rings are
  -- looked at behind it
  pub record TurnsWorker (old new : WorkerParty D I F d i) : Type 0 where
    pub raised : View
    pub later : View
    pub ends : Ends (Answer F) (Ask F) 8
    pub result : Turn
    pub raises : (to : ℕ) × (found : ℕ) × Raises to old.seat.view found raised
    pub turns : Turns d i old.worker new.worker old.ends ends old.connections.items
        new.connections.items raised later result
    pub looks : (next : ℕ) × Looks later next new.seat.view
    pub sent : (session : ℕ) → sent_to new.ends session ≡ sent_to ends session
    pub received : (session : ℕ) → received_from new.ends session ≡ received_from ends session

module _ {So Si F : Type 0} {so : sources.Ghosts So} {si : sinks.Ghosts Si} where
  -- a session's turn, which left these links: the counter was raised and looked at for an After, or
  -- left alone, and the rings are looked at behind it
  pub record TurnsSession (old new : SessionParty So Si F so si) : Type 0 where
    pub links : Links F
    pub result : Turn
    pub ended : (result ≡ turn.Ended) ↔ (is_over new.session.ending links ≡ true)
    pub waits : old.waiting ≡ true → TurnsWaiting old.links links old.routes new.waiting
        (is_over new.session.ending links) result
    pub reads : old.waiting ≡ false → old.session.ending ≡ None
        → TurnsReading old.session new.session × (result ≢ turn.Idle)
    pub rests : old.session.ending ≢ None → new.session ≡ old.session
    pub seat : MayStep old.seat new.seat
    pub sent : (worker : ℕ) → sent_to new.links.ends worker ≡ sent_to links.ends worker
    pub received : (worker : ℕ)
        → received_from new.links.ends worker ≡ received_from links.ends worker
