-- The shares of the counter that the seats of all parties have.
use Rattle.std.specs.Prelude.{◌≡◌, ◌+◌, ℕ, List, length, false}
use Rattle.kv_base.specs.declared.sink.Sink as sinks
use Rattle.kv_base.specs.declared.source.Source as sources
use Rattle.kv_disk.specs.declared.disk.Disk as disks
use Rattle.kv_index.specs.declared.index.Index as indexes
use Rattle.kv_session_party.specs.declared.party.SessionParty.{SessionParty}
use Rattle.kv_stamps.specs.declared.view.View.{View}
use Rattle.kv_worker_party.specs.declared.party.WorkerParty.{WorkerParty}
use Rattle.kv_mesh.specs.Places.{IsAt}

-- the seat has an equal share of so many
pub record HasShare (many : ℕ) (view : View) : Type 0 where
  pub weight : view.weight ≡ 1
  pub seats : view.seats ≡ many

module _ {So Si D I F : Type 0} {so : sources.Ghosts So} {si : sinks.Ghosts Si}
    {d : disks.Ghosts D} {i : indexes.Ghosts I} where
  -- the seats of all parties are all that the counter has, which was lifted through none of them from
  -- outside
  pub record HaveAllSeats (workers : List (WorkerParty D I F d i))
      (sessions : List (SessionParty So Si F so si)) : Type 0 where
    pub worker_shares : (worker : ℕ) (party : WorkerParty D I F d i) → IsAt workers worker party
        → (party.lifted ≡ false) × HasShare (length workers + length sessions) party.seat.view
    pub session_shares : (session : ℕ) (party : SessionParty So Si F so si)
        → IsAt sessions session party → (party.lifted ≡ false)
        × HasShare (length workers + length sessions) party.seat.view
