-- What turns and looks leave of all parties.
use Rattle.std.proofs.Common.{◌≡◌, List, Bool, true, ap, ◌∙◌}
use Rattle.std.specs.Prelude.{All, ◌&&◌, not}
use Rattle.atomic_table.specs.Seated.{TableId}
use Rattle.kv_session_party.specs.Party.{is_over}
use Rattle.kv_mesh.specs.Drawing.{SessionsDraw, WorkersDraw}
use Rattle.kv_mesh.proofs.OverLemmas.{told-over}
use Rattle.std.specs.List.{AllZip}
use Rattle.kv_base.specs.declared.sink.Sink as sinks
use Rattle.kv_base.specs.declared.source.Source as sources
use Rattle.kv_disk.specs.declared.disk.Disk as disks
use Rattle.kv_index.specs.declared.index.Index as indexes
use Rattle.kv_session_party.specs.Threads.{SessionStays, SessionStays-on}
use Rattle.kv_worker_party.specs.Threads.{WorkerStays, WorkerStays-on}
use Rattle.kv_session.specs.declared.ending.SessionParts.{SessionParts}
use Rattle.kv_session_party.specs.declared.party.SessionParty.{SessionParty}
use Rattle.kv_stamps.specs.Seats.{Seat}
use Rattle.kv_worker.specs.Worker.{WorkerView}
use Rattle.kv_worker_party.specs.declared.party.WorkerParty.{WorkerParty}
use Rattle.kv_mesh.specs.Moves.{Looks, LooksWorker}
use Rattle.kv_mesh.specs.Ran.{RanOut, Stay}
use Rattle.kv_mesh.specs.Running.{AreOver, AreRinged}
use Rattle.kv_mesh.proofs.EachLemmas.{all-at, zip-at, zip-long}
use Rattle.kv_mesh.proofs.LookLemmas.{sessions-long, workers-long}
use Rattle.kv_mesh.proofs.PlaceLemmas.{each-then, same-at}
use Rattle.kv_mesh.proofs.RingLemmas.{ringed-on}

module _ {D I F : Type 0} {d : disks.Ghosts D} {i : indexes.Ghosts I} where
  looked-stays : (old new : WorkerParty D I F d i) → LooksWorker old new → WorkerStays old new
  looked-stays old new l = record {
    worker = ap (λ (w : WorkerView D I). w.store.worker) l.worker;
    workers = ap (λ (w : WorkerView D I). w.store.workers) l.worker;
    first = l.first;
    lifted = l.lifted;
    rings = l.rings;
    counter = ap (λ (seat : Seat). seat.counter) l.seat;
    start = ap (λ (seat : Seat). seat.view.start) l.seat;
    weight = ap (λ (seat : Seat). seat.view.weight) l.seat;
    seats = ap (λ (seat : Seat). seat.view.seats) l.seat;
  }

module _ {So Si D I F : Type 0} {so : sources.Ghosts So} {si : sinks.Ghosts Si}
    {d : disks.Ghosts D} {i : indexes.Ghosts I} (workers mid now : List (WorkerParty D I F d i))
    (sessions between new : List (SessionParty So Si F so si)) where
  -- one behind the other
  pub stay-then : Stay workers sessions mid between → Stay mid between now new
      → Stay workers sessions now new
  stay-then a b = record {
    many_workers = b.many_workers ∙ a.many_workers;
    many_sessions = b.many_sessions ∙ a.many_sessions;
    each_worker = each-then WorkerStays WorkerStays-on workers mid now a.many_workers a.each_worker
        b.each_worker;
    each_session = each-then SessionStays SessionStays-on sessions between new a.many_sessions
        a.each_session b.each_session;
  }

module _ {So Si D I F : Type 0} {so : sources.Ghosts So} {si : sinks.Ghosts Si}
    {d : disks.Ghosts D} {i : indexes.Ghosts I} (workers now : List (WorkerParty D I F d i))
    (sessions new : List (SessionParty So Si F so si)) where
  -- a look at the rings leaves what turns leave
  pub looks-stay : Looks workers sessions now new → Stay workers sessions now new
  looks-stay looks = record {
    many_workers = workers-long workers now looks.workers_began;
    many_sessions = sessions-long sessions new looks.sessions_began;
    each_worker = λ w a b at there. looked-stays a b (looks.each_worker w a b at there);
    each_session = λ s a b at there.
        let l = looks.each_session s a b at there in
        record {
          first = same-at (λ (p : SessionParty So Si F so si). p.first.value) sessions new s a b
              looks.sessions_began at there;
          lifted = l.lifted;
          rings = l.rings;
          counter = ap (λ (seat : Seat). seat.counter) l.seat;
          start = ap (λ (seat : Seat). seat.view.start) l.seat;
          weight = ap (λ (seat : Seat). seat.view.weight) l.seat;
          seats = ap (λ (seat : Seat). seat.view.seats) l.seat;
        };
  }

  -- what turns leave has the same rings
  pub stay-ringed : Stay workers sessions now new → AreRinged workers sessions
      → AreRinged now new
  stay-ringed stay ringed = ringed-on workers now sessions new ringed stay.many_workers
      stay.many_sessions (λ w a b at there. (stay.each_worker w a b at there).rings)
      (λ s a b at there. (stay.each_session s a b at there).rings)

  -- what was handed out of the later parties was so of the first ones
  pub ran-later : Stay workers sessions now new → (ended : List (WorkerView D I))
      (parts : List (SessionParts So Si)) (unsure : Bool) → RanOut now new ended parts unsure
      → RanOut workers sessions ended parts unsure
  ran-later stay ended parts unsure ran = record {
    now = ran.now;
    new = ran.new;
    stay = stay-then workers now ran.now sessions new ran.new stay ran.stay;
    over = ran.over;
    handed = ran.handed;
  }

  -- what turns leave, place by place
  pub zips-stay : AllZip (λ (a b : WorkerParty D I F d i). WorkerStays a b
      × (b.seat.counter ≡ a.seat.counter)) workers now
      → AllZip (λ (a b : SessionParty So Si F so si). SessionStays a b
      × (b.seat.counter ≡ a.seat.counter)) sessions new → Stay workers sessions now new
  zips-stay each every = record {
    many_workers = zip-long (λ (a b : WorkerParty D I F d i). WorkerStays a b
        × (b.seat.counter ≡ a.seat.counter)) workers now each;
    many_sessions = zip-long (λ (a b : SessionParty So Si F so si). SessionStays a b
        × (b.seat.counter ≡ a.seat.counter)) sessions new every;
    each_worker = λ w a b at there. (zip-at (λ (a b : WorkerParty D I F d i). WorkerStays a b
        × (b.seat.counter ≡ a.seat.counter)) workers now each w a b at there).0;
    each_session = λ s a b at there. (zip-at (λ (a b : SessionParty So Si F so si).
        SessionStays a b × (b.seat.counter ≡ a.seat.counter)) sessions new every s a b at there).0;
  }

  -- what stands of all parties behind their turns
  pub record HasRunOn (counter : TableId) : Type 0 where
    pub stay : Stay workers sessions now new
    pub over : AreOver new
    pub draw : WorkersDraw counter now × SessionsDraw counter new

  pub has-run-on : (counter other : TableId) → counter ≡ other
      → AllZip (λ (a b : WorkerParty D I F d i). WorkerStays a b
      × (b.seat.counter ≡ a.seat.counter)) workers now
      → AllZip (λ (a b : SessionParty So Si F so si). SessionStays a b
      × (b.seat.counter ≡ a.seat.counter)) sessions new
      → All (λ (p : SessionParty So Si F so si). (is_over p.session.ending p.links
      && not p.waiting) ≡ true) new
      → All (λ (p : WorkerParty D I F d i). p.seat.counter ≡ counter) now
      → All (λ (p : SessionParty So Si F so si). p.seat.counter ≡ counter) new → HasRunOn other
  has-run-on counter other e each every ended draw draws = record {
    stay = zips-stay each every;
    over = told-over new ended;
    draw = (
      λ k p at. all-at (λ (p : WorkerParty D I F d i). p.seat.counter ≡ counter) now draw k p at
          ∙ e,
      λ k p at. all-at (λ (p : SessionParty So Si F so si). p.seat.counter ≡ counter) new draws k
          p at ∙ e,
    );
  }
