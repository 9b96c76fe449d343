-- The parties of one store: how each stands among the others.
use Rattle.std.specs.Prelude.{◌≡◌, ◌≤◌, ◌+◌, ◌^◌, ℕ, List, [], ◌∷◌, length, map}
use Rattle.atomic_table.specs.Seated.{TableId}
use Rattle.kv_base.specs.declared.sink.Sink as sinks
use Rattle.kv_base.specs.declared.source.Source as sources
use Rattle.kv_disk.specs.declared.disk.Disk as disks
use Rattle.kv_index.specs.declared.index.Index as indexes
use Rattle.kv_parties.specs.Rows.{sum_below}
use Rattle.kv_parties.specs.Setting.{Setting}
use Rattle.kv_ring.specs.Ends.{peers, AreBetween}
use Rattle.kv_session.specs.Session.{SessionState}
use Rattle.kv_session_party.specs.declared.party.SessionParty.{SessionParty}
use Rattle.kv_stamps.specs.Ranges.{among, below}
use Rattle.kv_stamps.specs.declared.view.Range.{Range}
use Rattle.kv_worker.specs.Worker.{WorkerView}
use Rattle.kv_worker_party.specs.Party.{setting_of}
use Rattle.kv_worker_party.specs.declared.party.WorkerParty.{WorkerParty}
use Rattle.kv_mesh.specs.Places.{IsAt, given_at}

-- how many slots a class has at most, at the first of the workers
abbrev pub slots_in : {D I : Type 0} → List (WorkerView D I) → ℕ
slots_in [] = 0
slots_in (worker ∷ workers) = worker.store.limits.slots

module _ {D I F : Type 0} {d : disks.Ghosts D} {i : indexes.Ghosts I} where
  -- what the workers began as
  abbrev pub first_workers : List (WorkerParty D I F d i) → List (WorkerView D I)
  first_workers workers = map (λ party. party.first.value) workers

  -- how many slots a class has at most, at the first worker
  abbrev pub slots_of : List (WorkerParty D I F d i) → ℕ
  slots_of workers = slots_in (first_workers workers)

  -- the ranges that the worker of this number drew
  abbrev pub drawn_by : List (WorkerParty D I F d i) → ℕ → List Range
  drawn_by workers worker = given_at (λ party. party.seat.view.drawn) [] workers worker

  -- the worker has this number among so many, as it had when it began; its classes have so many slots;
  -- it has ends to so many sessions, and a seat of the counter that began at this start
  pub record FitsWorker (many slots sessions : ℕ) (counter : TableId) (start worker : ℕ)
      (party : WorkerParty D I F d i) : Type 0 where
    pub number_is : party.worker.store.worker ≡ worker
    pub workers_are : party.worker.store.workers ≡ many
    pub number_was : party.first.value.store.worker ≡ worker
    pub workers_were : party.first.value.store.workers ≡ many
    pub slots_are : party.first.value.store.limits.slots ≡ slots
    pub sessions_are : peers party.ends ≡ sessions
    pub counter_is : party.seat.counter ≡ counter
    pub start_is : party.seat.view.start ≡ start

  -- no number is in two ranges, and each that is in one is at least the start and below the kept
  -- number
  abbrev pub AreApart : List (WorkerParty D I F d i) → ℕ → ℕ → Type 0
  AreApart workers start kept = (number : ℕ)
      → sum_below (length workers) (λ worker. among number (drawn_by workers worker))
      + below number start ≤ below number kept

module _ {So Si F : Type 0} {so : sources.Ghosts So} {si : sinks.Ghosts Si} where
  -- what the sessions began as
  abbrev pub first_sessions : List (SessionParty So Si F so si) → List (SessionState So Si)
  first_sessions sessions = map (λ party. party.first.value) sessions

  -- the session has ends to so many workers, and a seat of the counter that began at this start
  pub record FitsSession (many : ℕ) (counter : TableId) (start : ℕ)
      (party : SessionParty So Si F so si) : Type 0 where
    pub workers_are : peers party.links.ends ≡ many
    pub counter_is : party.seat.counter ≡ counter
    pub start_is : party.seat.view.start ≡ start

module _ {So Si D I F : Type 0} {so : sources.Ghosts So} {si : sinks.Ghosts Si}
    {d : disks.Ghosts D} {i : indexes.Ghosts I} where
  -- what all parties serve
  abbrev pub setting_for : List (WorkerParty D I F d i) → List (SessionParty So Si F so si) → ℕ
      → Setting
  setting_for workers sessions start =
      setting_of d.tells start (length sessions) (length workers) (slots_of workers)

  -- 1 to 16 workers and 1 to 8 sessions, each at the place of its number, with two rings between each
  -- session and each worker and a seat of one counter each; all ranges that the workers drew are apart
  -- and below the kept number
  pub record AreLinked (workers : List (WorkerParty D I F d i))
      (sessions : List (SessionParty So Si F so si)) (counter : TableId) (start kept : ℕ) :
      Type 0 where
    pub some_workers : 1 ≤ length workers
    pub few_workers : length workers ≤ 16
    pub some_sessions : 1 ≤ length sessions
    pub few_sessions : length sessions ≤ 8
    pub worker_fits : (worker : ℕ) (party : WorkerParty D I F d i) → IsAt workers worker party
        → FitsWorker (length workers) (slots_of workers) (length sessions) counter start worker
        party
    pub session_fits : (session : ℕ) (party : SessionParty So Si F so si)
        → IsAt sessions session party → FitsSession (length workers) counter start party
    pub rings : (session worker : ℕ) (near : SessionParty So Si F so si)
        (far : WorkerParty D I F d i) → IsAt sessions session near → IsAt workers worker far
        → AreBetween near.links.ends session far.ends worker
    pub apart : AreApart workers start kept
    pub started : (1 ≤ start) × (start ≤ 2 ^ 62)
    pub limit : kept ≤ 2 ^ 62

  -- the parties began as others did, at the same start
  pub record BeganSame (workers : List (WorkerParty D I F d i))
      (sessions : List (SessionParty So Si F so si)) (start : ℕ)
      (new_workers : List (WorkerParty D I F d i))
      (new_sessions : List (SessionParty So Si F so si)) (new_start : ℕ) : Type 0 where
    pub workers_began : first_workers new_workers ≡ first_workers workers
    pub sessions_began : first_sessions new_sessions ≡ first_sessions sessions
    pub start_is : new_start ≡ start
