-- Parties that were just made, and what they were made of.
use Rattle.std.specs.Prelude.{◌≡◌, ◌<◌, ℕ, List, length, map, false}
use Rattle.std.specs.List.{AllByRecursion}
use Rattle.atomic_table.specs.Seated.{TableId}
use Rattle.kv_base.specs.declared.sink.Sink as sinks
use Rattle.kv_base.specs.declared.source.Source as sources
use Rattle.kv_disk.specs.declared.disk.Disk as disks
use Rattle.kv_groups.specs.Taking.{connection_of, new_connection}
use Rattle.kv_index.specs.declared.index.Index as indexes
use Rattle.kv_recover.specs.declared.opening.Opened.{Opened}
use Rattle.kv_ring.specs.declared.ends.Ends.{Ends}
use Rattle.kv_ring.specs.declared.message.Answer.{Answer}
use Rattle.kv_ring.specs.declared.message.Ask.{Ask}
use Rattle.kv_session.specs.Session.{SessionState}
use Rattle.kv_session_party.specs.declared.party.SessionParty.{SessionParty}
use Rattle.kv_stamps.specs.Seats.{Seat}
use Rattle.kv_worker.specs.Worker.{WorkerView, IsOpened}
use Rattle.kv_worker_party.specs.declared.party.WorkerParty.{WorkerParty}
use Rattle.kv_mesh.specs.Linked.{AreLinked, first_sessions, first_workers}
use Rattle.kv_mesh.specs.Places.{IsAt}
use Rattle.kv_mesh.specs.Settled.{AreSettled}
use Rattle.kv_mesh.specs.Shares.{HaveAllSeats}

module _ {D I : Type 0} where
  -- the worker's store, with the last stamp so far as its floor
  abbrev pub opened_of : WorkerView D I → Opened D I
  opened_of worker = record { slabs = worker.store; floor = worker.highest }

  -- the floors of the stores
  abbrev pub floors : List (Opened D I) → List ℕ
  floors stores = map (λ opened. opened.floor) stores

  -- the store was opened, and all its stamps are below this one
  pub record IsReady (d : disks.Ghosts D) (i : indexes.Ghosts I) (start : ℕ)
      (opened : Opened D I) : Type 0 where
    pub is_opened : IsOpened d i opened.slabs opened.floor
    pub below : opened.floor < start

  -- the store was opened as this worker of so many, and its classes have at most so many slots
  pub record IsStoreOf (d : disks.Ghosts D) (i : indexes.Ghosts I) (many slots worker : ℕ)
      (opened : Opened D I) : Type 0 where
    pub is_opened : IsOpened d i opened.slabs opened.floor
    pub worker_is : opened.slabs.worker ≡ worker
    pub workers_are : opened.slabs.workers ≡ many
    pub slots_are : opened.slabs.limits.slots ≡ slots

  -- each store was opened as the worker of its place, of as many as there are stores, and all with
  -- the same limit of slots
  pub record AreStores (d : disks.Ghosts D) (i : indexes.Ghosts I) (stores : List (Opened D I)) :
      Type 0 where
    pub slots : ℕ
    pub each : (worker : ℕ) (opened : Opened D I) → IsAt stores worker opened
        → IsStoreOf d i (length stores) slots worker opened

-- the source and the sink of the session
abbrev pub ends_of : {So Si : Type 0} → SessionState So Si → So × Si
ends_of session = (session.source, session.sink)

module _ {D I F : Type 0} {d : disks.Ghosts D} {i : indexes.Ghosts I} where
  -- the worker is as it began, nothing is in hand of a session, and the party has this seat, through
  -- which the counter was not lifted
  pub record IsNewWorker (seat : Seat) (party : WorkerParty D I F d i) : Type 0 where
    pub first : party.first.value ≡ party.worker
    pub none : (session : ℕ) → connection_of party.connections.items session ≡ new_connection
    pub seat_is : party.seat ≡ seat
    pub lifted : party.lifted ≡ false

  -- these are new workers' parties, of these stores and ends in their order, each with such a seat
  pub record WorkersStart (stores : List (Opened D I)) (rings : List (Ends (Answer F) (Ask F) 8))
      (seat : Seat) (workers : List (WorkerParty D I F d i)) : Type 0 where
    pub stores_are : map (λ party. opened_of party.worker) workers ≡ stores
    pub rings_are : map (λ party. party.ends) workers ≡ rings
    pub new : AllByRecursion (IsNewWorker seat) workers

module _ {So Si F : Type 0} {so : sources.Ghosts So} {si : sinks.Ghosts Si} where
  -- the session is as it began, and the party has this seat, through which the counter was not lifted
  pub record IsNewSession (seat : Seat) (party : SessionParty So Si F so si) : Type 0 where
    pub first : party.first.value ≡ party.session
    pub seat_is : party.seat ≡ seat
    pub lifted : party.lifted ≡ false

  -- these are new sessions' parties, of these sources, sinks and ends in their order, each with such a
  -- seat
  pub record SessionsStart (ends : List (So × Si)) (rings : List (Ends (Ask F) (Answer F) 16))
      (seat : Seat) (sessions : List (SessionParty So Si F so si)) : Type 0 where
    pub ends_are : map (λ party. ends_of party.session) sessions ≡ ends
    pub rings_are : map (λ party. party.links.ends) sessions ≡ rings
    pub new : AllByRecursion (IsNewSession seat) sessions

module _ {So Si D I F : Type 0} {so : sources.Ghosts So} {si : sinks.Ghosts Si}
    {d : disks.Ghosts D} {i : indexes.Ghosts I} where
  -- the parties are linked, nothing is owed among them, they have all seats of the counter, and they
  -- began with these stores, sources and sinks
  pub record AreNew (stores : List (Opened D I)) (ends : List (So × Si)) (counter : TableId)
      (start : ℕ) (workers : List (WorkerParty D I F d i))
      (sessions : List (SessionParty So Si F so si)) : Type 0 where
    pub linked : AreLinked workers sessions counter start start
    pub settled : AreSettled workers sessions start
    pub seats : HaveAllSeats workers sessions
    pub stores_are : map opened_of (first_workers workers) ≡ stores
    pub ends_are : map ends_of (first_sessions sessions) ≡ ends
