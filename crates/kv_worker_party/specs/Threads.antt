-- What turns leave of a worker's party.
use Rattle.std.specs.Prelude.{◌≡◌, refl}
use mathlib.Core.Path.{◌∙◌}
use Rattle.kv_disk.specs.declared.disk.Disk as disks
use Rattle.kv_index.specs.declared.index.Index as indexes
use Rattle.kv_ring.specs.Ends.{SameRings}
use Rattle.kv_worker_party.specs.declared.party.WorkerParty.{WorkerParty}

-- the party is that of the same worker, which began the same; it has the same rings and the same
-- share of the same counter
pub record WorkerStays {D I F : Type 0} {d : disks.Ghosts D} {i : indexes.Ghosts I}
    (party later : WorkerParty D I F d i) : Type 0 where
  pub worker : later.worker.store.worker ≡ party.worker.store.worker
  pub workers : later.worker.store.workers ≡ party.worker.store.workers
  pub first : later.first.value ≡ party.first.value
  pub lifted : later.lifted ≡ party.lifted
  pub rings : SameRings party.ends later.ends
  pub counter : later.seat.counter ≡ party.seat.counter
  pub start : later.seat.view.start ≡ party.seat.view.start
  pub weight : later.seat.view.weight ≡ party.seat.view.weight
  pub seats : later.seat.view.seats ≡ party.seat.view.seats

module _ {D I F : Type 0} {d : disks.Ghosts D} {i : indexes.Ghosts I} where
  -- no turn leaves all
  pub WorkerStays-still : (party : WorkerParty D I F d i) → WorkerStays party party
  WorkerStays-still party = record {
    worker = refl;
    workers = refl;
    first = refl;
    lifted = refl;
    rings = record { peers = refl; lines = λ other. refl };
    counter = refl;
    start = refl;
    weight = refl;
    seats = refl;
  }

  -- turns behind turns
  pub WorkerStays-on : (party later latest : WorkerParty D I F d i) → WorkerStays party later
      → WorkerStays later latest → WorkerStays party latest
  WorkerStays-on party later latest one two = record {
    worker = two.worker ∙ one.worker;
    workers = two.workers ∙ one.workers;
    first = two.first ∙ one.first;
    lifted = two.lifted ∙ one.lifted;
    rings = record {
      peers = two.rings.peers ∙ one.rings.peers;
      lines = λ other. two.rings.lines other ∙ one.rings.lines other;
    };
    counter = two.counter ∙ one.counter;
    start = two.start ∙ one.start;
    weight = two.weight ∙ one.weight;
    seats = two.seats ∙ one.seats;
  }
