-- Parties with seats of one counter.
use Rattle.std.specs.Prelude.{◌≡◌, ℕ, List}
use Rattle.atomic_table.specs.Seated.{TableId}
use Rattle.kv_base.specs.declared.sink.Sink as sinks
use Rattle.kv_base.specs.declared.source.Source as sources
use Rattle.kv_disk.specs.declared.disk.Disk as disks
use Rattle.kv_index.specs.declared.index.Index as indexes
use Rattle.kv_session_party.specs.declared.party.SessionParty.{SessionParty}
use Rattle.kv_worker_party.specs.declared.party.WorkerParty.{WorkerParty}
use Rattle.kv_mesh.specs.Places.{IsAt}

module _ {D I F : Type 0} {d : disks.Ghosts D} {i : indexes.Ghosts I} where
  -- each worker has a seat of the counter
  abbrev pub WorkersDraw : TableId → List (WorkerParty D I F d i) → Type 0
  WorkersDraw counter workers = (worker : ℕ) (party : WorkerParty D I F d i)
      → IsAt workers worker party → party.seat.counter ≡ counter

module _ {So Si F : Type 0} {so : sources.Ghosts So} {si : sinks.Ghosts Si} where
  -- each session has a seat of the counter
  abbrev pub SessionsDraw : TableId → List (SessionParty So Si F so si) → Type 0
  SessionsDraw counter sessions = (session : ℕ) (party : SessionParty So Si F so si)
      → IsAt sessions session party → party.seat.counter ≡ counter
