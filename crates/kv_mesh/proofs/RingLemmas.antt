-- Rings between all parties, behind a look.
use Rattle.std.proofs.Common.{◌≡◌, ℕ, ◌^◌, ◌≤◌, List, length, sym, ap, ◌∙◌, arith}
use Rattle.std.specs.Option.{option_map}
use Rattle.atomic_table.specs.Seated.{TableId}
use Rattle.kv_base.specs.declared.sink.Sink as sinks
use Rattle.kv_base.specs.declared.source.Source as sources
use Rattle.kv_disk.specs.declared.disk.Disk as disks
use Rattle.kv_index.specs.declared.index.Index as indexes
use Rattle.kv_ring.specs.Ends.{SameRings, AreBetween}
use Rattle.kv_ring.specs.Lines.{other_side}
use Rattle.kv_ring.specs.declared.ends.Ends.{Ends}
use Rattle.kv_session_party.specs.declared.party.SessionParty.{SessionParty}
use Rattle.kv_parties.specs.Rows.{sum_below}
use Rattle.kv_stamps.specs.Ranges.{among}
use Rattle.kv_stamps.specs.Seats.{Seat}
use Rattle.kv_worker.specs.Worker.{WorkerView}
use Rattle.kv_worker_party.specs.declared.party.WorkerParty.{WorkerParty}
use Rattle.kv_mesh.specs.Drawing.{SessionsDraw, WorkersDraw}
use Rattle.kv_mesh.specs.Linked.{AreApart, AreLinked, FitsWorker, drawn_by, first_workers}
use Rattle.kv_mesh.specs.Linked.{slots_in, slots_of}
use Rattle.kv_mesh.specs.Moves.{Looks}
use Rattle.kv_mesh.specs.Places.{IsAt, AtEach}
use Rattle.kv_mesh.specs.Running.{AreRinged}
use Rattle.kv_mesh.proofs.ApartLemmas.{drawn-is, sum-same}
use Rattle.kv_mesh.proofs.LinkLemmas.{KeepsPlace, KeepsSession, looked-keeps, seen-keeps}
use Rattle.kv_mesh.proofs.LookLemmas.{sessions-long, workers-long}
use Rattle.kv_mesh.proofs.PlaceLemmas.{pick}

-- the same rings are between the same ends
between-same : {S R : Type 0} {most limit : ℕ} (near new : Ends S R most) (s : ℕ)
    (far now : Ends R S limit) (w : ℕ) → SameRings near new → SameRings far now
    → AreBetween near s far w → AreBetween new s now w
between-same near new s far now w a b between =
    b.lines s ∙ between ∙ ap (option_map other_side) (sym (a.lines w))

module _ {So Si D I F : Type 0} {so : sources.Ghosts So} {si : sinks.Ghosts Si}
    {d : disks.Ghosts D} {i : indexes.Ghosts I} (workers now : List (WorkerParty D I F d i))
    (sessions new : List (SessionParty So Si F so si)) (ringed : AreRinged workers sessions) where
  -- parties with the same rings are ringed as before
  pub ringed-on : length now ≡ length workers → length new ≡ length sessions
      → AtEach (λ (a b : WorkerParty D I F d i). SameRings a.ends b.ends) workers now
      → AtEach (λ (a b : SessionParty So Si F so si). SameRings a.links.ends b.links.ends) sessions
      new → AreRinged now new
  ringed-on many several each_worker each_session = record {
    few_workers = omega (arith, many, ringed.few_workers);
    few_sessions = omega (arith, several, ringed.few_sessions);
    worker_peers = λ w party at.
        let p = pick workers w (omega (arith, at.0, many)) in
        (each_worker w p.0 party p.1 at).peers ∙ ringed.worker_peers w p.0 p.1 ∙ sym several;
    session_peers = λ s party at.
        let p = pick sessions s (omega (arith, at.0, several)) in
        (each_session s p.0 party p.1 at).peers ∙ ringed.session_peers s p.0 p.1 ∙ sym many;
    rings = λ s w near far here there.
        let n = pick sessions s (omega (arith, here.0, several)) in
        let f = pick workers w (omega (arith, there.0, many)) in
        between-same n.0.links.ends near.links.ends s f.0.ends far.ends w
        (each_session s n.0 near n.1 here) (each_worker w f.0 far f.1 there)
        (ringed.rings s w n.0 f.0 n.1 f.1);
  }

  pub ringed-looked : Looks workers sessions now new → AreRinged now new
  ringed-looked looks = ringed-on (workers-long workers now looks.workers_began)
      (sessions-long sessions new looks.sessions_began)
      (λ w a b at there. (looks.each_worker w a b at there).rings)
      (λ s a b at there. (looks.each_session s a b at there).rings)

module _ {So Si D I F : Type 0} {so : sources.Ghosts So} {si : sinks.Ghosts Si}
    {d : disks.Ghosts D} {i : indexes.Ghosts I} (workers : List (WorkerParty D I F d i))
    (sessions : List (SessionParty So Si F so si)) (counter : TableId) (start kept : ℕ)
    (linked : AreLinked workers sessions counter start kept) where
  -- parties that are linked have their rings and draw from one counter
  pub ringed : AreRinged workers sessions
  ringed = record {
    few_workers = linked.few_workers;
    few_sessions = linked.few_sessions;
    worker_peers = λ w party at. (linked.worker_fits w party at).sessions_are;
    session_peers = λ s party at. (linked.session_fits s party at).workers_are;
    rings = linked.rings;
  }

  pub workers-draw : WorkersDraw counter workers
  workers-draw w party at = (linked.worker_fits w party at).counter_is

  pub sessions-draw : SessionsDraw counter sessions
  sessions-draw s party at = (linked.session_fits s party at).counter_is

  module _ (now : List (WorkerParty D I F d i)) (new : List (SessionParty So Si F so si))
      (many : length now ≡ length workers) (several : length new ≡ length sessions)
      (began : first_workers now ≡ first_workers workers)
      (each_worker : AtEach KeepsPlace workers now)
      (each_session : AtEach KeepsSession sessions new) where
    slots : slots_of now ≡ slots_of workers
    slots = ap slots_in began

    fits-each : (w : ℕ) (party : WorkerParty D I F d i) → IsAt now w party
        → FitsWorker (length now) (slots_of now) (length new) counter start w party
    fits-each w party at =
        let p = pick workers w (omega (arith, at.0, many)) in
        let keeps = each_worker w p.0 party p.1 at in
        let fits = linked.worker_fits w p.0 p.1 in
        record {
          number_is = keeps.number ∙ fits.number_is;
          workers_are = keeps.workers ∙ fits.workers_are ∙ sym many;
          number_was = ap (λ (v : WorkerView D I). v.store.worker) keeps.first ∙ fits.number_was;
          workers_were = ap (λ (v : WorkerView D I). v.store.workers) keeps.first
              ∙ fits.workers_were ∙ sym many;
          slots_are = ap (λ (v : WorkerView D I). v.store.limits.slots) keeps.first
              ∙ fits.slots_are ∙ sym slots;
          sessions_are = keeps.rings.peers ∙ fits.sessions_are ∙ sym several;
          counter_is = keeps.counter ∙ fits.counter_is;
          start_is = keeps.start ∙ fits.start_is;
        }

    ringed-each : AreRinged now new
    ringed-each = ringed-on workers now sessions new ringed many several
        (λ w a b at there. (each_worker w a b at there).rings)
        (λ s a b at there. (each_session s a b at there).rings)

    -- parties that keep their places stay linked, where their ranges are apart
    pub linked-each : (later : ℕ) → AreApart now start later → later ≤ 2 ^ 62
        → AreLinked now new counter start later
    linked-each later apart limit = record {
      some_workers = omega (arith, linked.some_workers, many);
      few_workers = ringed-each.few_workers;
      some_sessions = omega (arith, linked.some_sessions, several);
      few_sessions = ringed-each.few_sessions;
      worker_fits = fits-each;
      session_fits = λ s party at.
          let p = pick sessions s (omega (arith, at.0, several)) in
          let keeps = each_session s p.0 party p.1 at in
          record {
            workers_are = ringed-each.session_peers s party at;
            counter_is = keeps.counter ∙ (linked.session_fits s p.0 p.1).counter_is;
            start_is = keeps.start ∙ (linked.session_fits s p.0 p.1).start_is;
          };
      rings = ringed-each.rings;
      apart = apart;
      started = linked.started;
      limit = limit;
    }

  -- a look leaves all linked
  pub linked-looked : (now : List (WorkerParty D I F d i))
      (new : List (SessionParty So Si F so si)) → Looks workers sessions now new
      → AreLinked now new counter start kept
  linked-looked now new looks =
      let many = workers-long workers now looks.workers_began in
      linked-each now new many (sessions-long sessions new looks.sessions_began)
      looks.workers_began
      (λ w a b at there. looked-keeps a b (looks.each_worker w a b at there))
      (λ s a b at there. seen-keeps a b (looks.each_session s a b at there)) kept
      (λ number.
      let same = sum-same (length workers) (λ k. among number (drawn_by workers k))
      (λ k. among number (drawn_by now k)) (λ k lt.
      let p = pick workers k lt in
      let q = pick now k (omega (arith, lt, many)) in
      ap (among number) (drawn-is now k q.0 q.1
      ∙ ap (λ (seat : Seat). seat.view.drawn) (looks.each_worker k p.0 q.0 p.1 q.1).seat
      ∙ sym (drawn-is workers k p.0 p.1))) in
      let long = ap (λ n. sum_below n (λ k. among number (drawn_by now k))) many in
      let apart = linked.apart number in
      omega (arith, same, long, apart)) linked.limit
