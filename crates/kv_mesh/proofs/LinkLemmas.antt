-- The parties stay linked where one of them makes a turn or a look.
use Rattle.std.proofs.Common.{◌≡◌, ℕ, ◌^◌, ◌≤◌, List, length, set}
use Rattle.std.proofs.Common.{sym, ap, ◌∙◌, subst, subst₂, arith}
use Rattle.std.proofs.lemmas.List.{length-set}
use Rattle.std.specs.Option.{option_map}
use Rattle.atomic_table.specs.Seated.{TableId}
use Rattle.kv_base.specs.declared.sink.Sink as sinks
use Rattle.kv_base.specs.declared.source.Source as sources
use Rattle.kv_disk.specs.declared.disk.Disk as disks
use Rattle.kv_index.specs.declared.index.Index as indexes
use Rattle.kv_ring.specs.Ends.{SameRings, AreBetween}
use Rattle.kv_ring.specs.Lines.{other_side}
use Rattle.kv_session_party.specs.declared.party.SessionParty.{SessionParty}
use Rattle.kv_session_party.specs.Looking.{MayStep}
use Rattle.kv_session_party.proofs.ShareLemmas.{share-kept}
use Rattle.kv_stamps.specs.Seats.{Seat}
use Rattle.kv_worker.specs.Worker.{WorkerView}
use Rattle.kv_worker_party.specs.declared.party.WorkerParty.{WorkerParty}
use Rattle.kv_mesh.specs.Linked.{AreApart, AreLinked, FitsSession, FitsWorker}
use Rattle.kv_mesh.specs.Linked.{slots_in, slots_of}
use Rattle.kv_mesh.specs.Moves.{LooksSession, LooksWorker, MovesWorker}
use Rattle.kv_mesh.specs.Places.{IsAt}
use Rattle.kv_mesh.proofs.PlaceLemmas.{each-set, map-one}

module _ {D I F : Type 0} {d : disks.Ghosts D} {i : indexes.Ghosts I} where
  -- what a worker's place needs of a change
  pub record KeepsPlace (old new : WorkerParty D I F d i) : Type 0 where
    pub rings : SameRings old.ends new.ends
    pub counter : new.seat.counter ≡ old.seat.counter
    pub start : new.seat.view.start ≡ old.seat.view.start
    pub number : new.worker.store.worker ≡ old.worker.store.worker
    pub workers : new.worker.store.workers ≡ old.worker.store.workers
    pub first : new.first.value ≡ old.first.value

  pub moved-keeps : (kept later : ℕ) (old new : WorkerParty D I F d i)
      → MovesWorker kept later old new → KeepsPlace old new
  moved-keeps kept later old new m = record {
    rings = m.rings;
    counter = m.counter;
    start = m.draws.start;
    number = m.number;
    workers = m.workers;
    first = m.first;
  }

  pub looked-keeps : (old new : WorkerParty D I F d i) → LooksWorker old new
      → KeepsPlace old new
  looked-keeps old new l = record {
    rings = l.rings;
    counter = ap (λ (seat : Seat). seat.counter) l.seat;
    start = ap (λ (seat : Seat). seat.view.start) l.seat;
    number = ap (λ (w : WorkerView D I). w.store.worker) l.worker;
    workers = ap (λ (w : WorkerView D I). w.store.workers) l.worker;
    first = l.first;
  }

  fits-on : (many slots sessions : ℕ) (counter : TableId) (start worker : ℕ)
      (old new : WorkerParty D I F d i) → KeepsPlace old new
      → FitsWorker many slots sessions counter start worker old
      → FitsWorker many slots sessions counter start worker new
  fits-on many slots sessions counter start worker old new k fits = record {
    number_is = k.number ∙ fits.number_is;
    workers_are = k.workers ∙ fits.workers_are;
    number_was = ap (λ (w : WorkerView D I). w.store.worker) k.first ∙ fits.number_was;
    workers_were = ap (λ (w : WorkerView D I). w.store.workers) k.first ∙ fits.workers_were;
    slots_are = ap (λ (w : WorkerView D I). w.store.limits.slots) k.first ∙ fits.slots_are;
    sessions_are = k.rings.peers ∙ fits.sessions_are;
    counter_is = k.counter ∙ fits.counter_is;
    start_is = k.start ∙ fits.start_is;
  }

  slots-set : (workers : List (WorkerParty D I F d i)) (k : ℕ) (old new : WorkerParty D I F d i)
      → IsAt workers k old → new.first.value ≡ old.first.value
      → slots_of (set workers k new) ≡ slots_of workers
  slots-set workers k old new at same = ap slots_in
      (map-one (λ (p : WorkerParty D I F d i). p.first.value) workers k old new at same)

module _ {So Si F : Type 0} {so : sources.Ghosts So} {si : sinks.Ghosts Si} where
  -- what a session's place needs of a change
  pub record KeepsSession (old new : SessionParty So Si F so si) : Type 0 where
    pub rings : SameRings old.links.ends new.links.ends
    pub counter : new.seat.counter ≡ old.seat.counter
    pub start : new.seat.view.start ≡ old.seat.view.start

  -- a turn
  pub stepped-keeps : (old new : SessionParty So Si F so si)
      → SameRings old.links.ends new.links.ends → MayStep old.seat new.seat → KeepsSession old new
  stepped-keeps old new rings step = record {
    rings = rings;
    counter = step.counter;
    start = (share-kept old.seat.view new.seat.view step.view).start;
  }

  -- a look at the rings
  pub seen-keeps : (old new : SessionParty So Si F so si) → LooksSession old new
      → KeepsSession old new
  seen-keeps old new l = record {
    rings = l.rings;
    counter = ap (λ (seat : Seat). seat.counter) l.seat;
    start = ap (λ (seat : Seat). seat.view.start) l.seat;
  }

module _ {So Si D I F : Type 0} {so : sources.Ghosts So} {si : sinks.Ghosts Si}
    {d : disks.Ghosts D} {i : indexes.Ghosts I} (workers : List (WorkerParty D I F d i))
    (sessions : List (SessionParty So Si F so si)) (counter : TableId) (start kept : ℕ)
    (linked : AreLinked workers sessions counter start kept) where
  -- one worker was set
  pub linked-worker : (later k : ℕ) (old new : WorkerParty D I F d i) → IsAt workers k old
      → KeepsPlace old new → AreApart (set workers k new) start later → later ≤ 2 ^ 62
      → AreLinked (set workers k new) sessions counter start later
  linked-worker later k old new at keeps apart limit =
      let long = length-set workers k new in
      let slots = slots-set workers k old new at keeps.first in
      let fits : (w : ℕ) (party : WorkerParty D I F d i) → IsAt (set workers k new) w party
      → FitsWorker (length workers) (slots_of workers) (length sessions) counter start w party =
      each-set (λ w party. FitsWorker (length workers) (slots_of workers) (length sessions) counter
      start w party) workers k new at.0 (fits-on (length workers) (slots_of workers)
      (length sessions) counter start k old new keeps (linked.worker_fits k old at))
      linked.worker_fits in
      record {
        some_workers = omega (arith, long, linked.some_workers);
        few_workers = omega (arith, long, linked.few_workers);
        some_sessions = linked.some_sessions;
        few_sessions = linked.few_sessions;
        worker_fits = λ w party there.
            subst₂ (λ m n. FitsWorker m n (length sessions) counter start w party) (sym long)
            (sym slots) (fits w party there);
        session_fits = λ s party there.
            subst (λ n. FitsSession n counter start party) (sym long)
            (linked.session_fits s party there);
        rings = λ s w near far here there. each-set (λ v party.
            AreBetween near.links.ends s party.ends v) workers k new at.0
            (keeps.rings.lines s ∙ linked.rings s k near old here at)
            (λ v party place. linked.rings s v near party here place) w far there;
        apart = apart;
        started = linked.started;
        limit = limit;
      }

  -- one session was set
  pub linked-session : (k : ℕ) (old new : SessionParty So Si F so si) → IsAt sessions k old
      → KeepsSession old new → AreLinked workers (set sessions k new) counter start kept
  linked-session k old new at keeps =
      let long = length-set sessions k new in
      record {
        some_workers = linked.some_workers;
        few_workers = linked.few_workers;
        some_sessions = omega (arith, long, linked.some_sessions);
        few_sessions = omega (arith, long, linked.few_sessions);
        worker_fits = λ w party there. subst (λ n. FitsWorker (length workers) (slots_of workers) n
            counter start w party) (sym long) (linked.worker_fits w party there);
        session_fits = each-set (λ s party. FitsSession (length workers) counter start party)
            sessions k new at.0 (record {
              workers_are = keeps.rings.peers ∙ (linked.session_fits k old at).workers_are;
              counter_is = keeps.counter ∙ (linked.session_fits k old at).counter_is;
              start_is = keeps.start ∙ (linked.session_fits k old at).start_is;
            }) linked.session_fits;
        rings = λ s w near far here there. each-set (λ v party.
            AreBetween party.links.ends v far.ends w) sessions k new at.0
            (linked.rings k w old far at there
            ∙ ap (option_map other_side) (sym (keeps.rings.lines w)))
            (λ v party place. linked.rings v w party far place there) s near here;
        apart = linked.apart;
        started = linked.started;
        limit = linked.limit;
      }
