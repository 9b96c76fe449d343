-- All is settled behind a turn of a worker or a session and a look at all rings.
use Rattle.std.proofs.Common.{◌≡◌, ◌≢◌, ◌↔◌, ℕ, ◌+◌, ◌≤◌, List, Vec, None, Bool, true, false}
use Rattle.std.proofs.Common.{length, set, sym, ap, ◌∙◌, subst, subst₂, arith}
use Rattle.std.proofs.lemmas.List.{length-set}
use Rattle.std.specs.declared.alloc.Global.{Global}
use Rattle.kv_groups.specs.declared.connection.Connection.{Connection}
use Rattle.kv_ring.specs.declared.turn.Turn.TheVariants as turn
use Rattle.kv_session.specs.Session.{SessionState}
use Rattle.kv_session_party.specs.Looking.{MayStep}
use Rattle.kv_session_party.specs.Party.{TurnsReading, TurnsWaiting, is_over}
use Rattle.kv_stamps.specs.Seats.{Seat}
use Rattle.kv_stamps.specs.Steps.{Looks as kv_looks}
use Rattle.kv_worker.specs.Worker.{WorkerView}
use Rattle.kv_worker_party.specs.Turns.{Turns}
use Rattle.kv_mesh.specs.Turned.{TurnsSession, TurnsWorker}
use mathlib.Core.List.{IsPrefix}
use Rattle.atomic_table.specs.Seated.{TableId}
use Rattle.kv_base.specs.declared.sink.Sink as sinks
use Rattle.kv_base.specs.declared.source.Source as sources
use Rattle.kv_disk.specs.declared.disk.Disk as disks
use Rattle.kv_index.specs.declared.index.Index as indexes
use Rattle.kv_model.specs.History.{Write}
use Rattle.kv_ring.specs.Ends.{received_from, sent_to}
use Rattle.kv_session_party.specs.declared.party.SessionParty.{SessionParty}
use Rattle.kv_worker_party.specs.declared.party.WorkerParty.{WorkerParty}
use Rattle.kv_mesh.specs.Laws.{MeshLaws}
use Rattle.kv_mesh.specs.Linked.{AreLinked, first_sessions, first_workers}
use Rattle.kv_mesh.specs.Moments.{Becomes}
use Rattle.kv_mesh.specs.Moves.{Become, Looks, LooksSession, LooksWorker, MovesAt, MovesSessionAt}
use Rattle.kv_mesh.specs.Moves.{TurnsParty}
use Rattle.kv_mesh.specs.Places.{AtEach, IsAt}
use Rattle.kv_mesh.specs.Settled.{AreInOrder, AreSettled, HasAnswered, HaveBegun, InOrder}
use Rattle.kv_mesh.proofs.BecomeLemmas.{becomes-same, becomes-then}
use Rattle.kv_mesh.proofs.LookLemmas.{looks-each, session-same, sessions-long, worker-same}
use Rattle.kv_mesh.proofs.LookLemmas.{workers-long}
use Rattle.kv_mesh.proofs.PlaceLemmas.{at-set-there, each-one, each-same, each-set, each-then}
use Rattle.kv_mesh.proofs.PlaceLemmas.{map-one, one-at, pick, set-here}
use Rattle.kv_mesh.proofs.SettleLemmas.{looked-answered, turn-answered}

module _ {D I F : Type 0} {d : disks.Ghosts D} {i : indexes.Ghosts I} where
  -- the workers began as they had
  begun-back : (workers now : List (WorkerParty D I F d i)) (start last : ℕ)
      → first_workers now ≡ first_workers workers → last ≡ start → (before : ℕ → List Write)
      → HaveBegun d i (first_workers now) last before
      → HaveBegun d i (first_workers workers) start before
  begun-back workers now start last same is before begun =
      subst₂ (λ firsts n. HaveBegun d i firsts n before) same is begun

  moved-began : (workers moved : List (WorkerParty D I F d i)) (w kept later : ℕ)
      → MovesAt w kept later workers moved → first_workers moved ≡ first_workers workers
  moved-began workers moved w kept later moves = ap first_workers moves.now_is
      ∙ map-one (λ (p : WorkerParty D I F d i). p.first.value) workers w moves.old moves.new
      moves.at moves.moves.first

  moved-each : (workers moved : List (WorkerParty D I F d i)) (w kept later : ℕ)
      → MovesAt w kept later workers moved → AtEach Becomes workers moved
  moved-each workers moved w kept later moves =
      subst (AtEach Becomes workers) (sym moves.now_is)
      (each-one Becomes becomes-same workers w moves.old moves.new moves.at moves.moves.becomes)

module _ {D I F : Type 0} {d : disks.Ghosts D} {i : indexes.Ghosts I} where
  -- the rings were looked at behind a worker's turn
  turned-looked : (old mid new : WorkerParty D I F d i) → TurnsWorker old mid
      → LooksWorker mid new → TurnsWorker old new
  turned-looked old mid new t l = record {
    raised = t.raised;
    later = t.later;
    ends = t.ends;
    result = t.result;
    raises = t.raises;
    turns = subst₂ (λ (w : WorkerView D I) (cs : Vec (Connection F) Global). Turns d i old.worker w
        old.ends t.ends old.connections.items cs.items t.raised t.later t.result) (sym l.worker)
        (sym l.connections) t.turns;
    looks = (
      t.looks.0,
      subst (λ (seat : Seat). kv_looks t.later t.looks.0 seat.view) (sym l.seat) t.looks.1,
    );
    sent = λ s. l.sent s ∙ t.sent s;
    received = λ s. l.received s ∙ t.received s;
  }

module _ {So Si F : Type 0} {so : sources.Ghosts So} {si : sinks.Ghosts Si} where
  -- the rings were looked at behind a session's turn
  session-looked : (old mid new : SessionParty So Si F so si) → TurnsSession old mid
      → LooksSession mid new → TurnsSession old new
  session-looked old mid new t l = record {
    links = t.links;
    result = t.result;
    ended = subst (λ (s : SessionState So Si). (t.result ≡ turn.Ended)
        ↔ (is_over s.ending t.links ≡ true)) (sym l.session) t.ended;
    waits = subst₂ (λ (s : SessionState So Si) (w : Bool). old.waiting ≡ true
        → TurnsWaiting old.links t.links old.routes w (is_over s.ending t.links) t.result)
        (sym l.session) (sym l.waiting) t.waits;
    reads = subst (λ (s : SessionState So Si). old.waiting ≡ false → old.session.ending ≡ None
        → TurnsReading old.session s × (t.result ≢ turn.Idle)) (sym l.session) t.reads;
    rests = λ over. l.session ∙ t.rests over;
    seat = subst (MayStep old.seat) (sym l.seat) t.seat;
    sent = λ w. l.sent w ∙ t.sent w;
    received = λ w. l.received w ∙ t.received w;
  }

-- a worker's turn
module _ {So Si D I F : Type 0} {so : sources.Ghosts So} {si : sinks.Ghosts Si}
    {d : disks.Ghosts D} {i : indexes.Ghosts I} (workers : List (WorkerParty D I F d i))
    (sessions : List (SessionParty So Si F so si)) (start kept w later : ℕ)
    (moved now : List (WorkerParty D I F d i))
    (between new : List (SessionParty So Si F so si)) (middle last : ℕ)
    (moves : MovesAt w kept later workers moved)
    (others : (between ≡ sessions) × (middle ≡ start)) (looks : Looks moved between now new)
    (is : last ≡ middle) where
  pub worker-became : Become workers sessions start now new last
  worker-became = record {
    began = record {
      workers_began = looks.workers_began ∙ moved-began workers moved w kept later moves;
      sessions_began = looks.sessions_began ∙ ap first_sessions others.0;
      start_is = is ∙ others.1;
    };
    each = each-then Becomes becomes-then workers moved now
        (workers-long workers moved (moved-began workers moved w kept later moves))
        (moved-each workers moved w kept later moves) (looks-each moved now between new looks);
  }

  -- the worker made a turn, and the others were only looked at
  pub turned-worker : TurnsParty w workers sessions now new
  turned-worker = record {
    worker = λ old made here there.
        let a : moves.old ≡ old = one-at workers w moves.old old moves.at here in
        let placed : IsAt moved w moves.new = subst (λ ws. IsAt ws w moves.new)
        (sym moves.now_is) (set-here workers w moves.new moves.at.0) in
        turned-looked old moves.new made
        (subst (λ z. TurnsWorker z moves.new) a moves.moves.turned)
        (looks.each_worker w moves.new made placed there);
    session = λ s old made e here there.
        absurd (let at = moves.at.0 in omega (arith, e, at));
    other_workers = λ v old made ne here there.
        let p = pick moved v (omega (
          arith,
          workers-long workers moved (moved-began workers moved w kept later moves),
          here.0,
        )) in
        let same : p.0 ≡ old = one-at workers v p.0 old (at-set-there workers w v moves.new p.0 ne
        (subst (λ ws. IsAt ws v p.0) moves.now_is p.1)) here in
        subst (λ z. LooksWorker z made) same (looks.each_worker v p.0 made p.1 there);
    other_sessions = λ s old made ne here there.
        looks.each_session s old made (subst (λ ss. IsAt ss s old) (sym others.0) here) there;
  }

module _ {So Si D I F : Type 0} {so : sources.Ghosts So} {si : sinks.Ghosts Si}
    {d : disks.Ghosts D} {i : indexes.Ghosts I} (workers : List (WorkerParty D I F d i))
    (sessions : List (SessionParty So Si F so si)) (counter : TableId) (start kept : ℕ)
    (linked : AreLinked workers sessions counter start kept) (w later : ℕ)
    (moved now : List (WorkerParty D I F d i))
    (between new : List (SessionParty So Si F so si)) (middle last : ℕ)
    (moves : MovesAt w kept later workers moved)
    (others : (between ≡ sessions) × (middle ≡ start)) (looks : Looks moved between now new)
    (order : (s v : ℕ) → AreInOrder now new s v) (is : last ≡ middle) (laws : MeshLaws F D d)
    (settled : AreSettled workers sessions start) where
  -- what came to the worker that made the turn begins what was sent to it
  came-in-order : (s : ℕ) (near : SessionParty So Si F so si) → IsAt sessions s near
      → IsPrefix (received_from moves.new.ends s) (sent_to near.links.ends w)
  came-in-order s near here =
      let same : IsAt between s near = subst (λ ss. IsAt ss s near) (sym others.0) here in
      let n = pick new s
      (omega (arith, same.0, sessions-long between new looks.sessions_began)) in
      let there : IsAt moved w moves.new = subst (λ ws. IsAt ws w moves.new)
      (sym moves.now_is) (set-here workers w moves.new moves.at.0) in
      let f = pick now w (omega (arith, there.0, workers-long moved now looks.workers_began)) in
      let a = looks.each_session s near n.0 same n.1 in
      let b = looks.each_worker w moves.new f.0 there f.1 in
      let both : InOrder n.0 s f.0 w = order s w n.0 f.0 n.1 f.1 in
      subst₂ (λ xs ys. IsPrefix xs ys) (b.received s) (a.sent w) both.asks

  still-answered : (before : ℕ → List Write)
      → HaveBegun d i (first_workers workers) start before → (v : ℕ)
      (party : WorkerParty D I F d i) → IsAt (set workers w moves.new) v party → HasAnswered party
  still-answered before begun = each-set (λ v party. HasAnswered party) workers w moves.new
      moves.at.0 (turn-answered workers sessions counter start kept linked settled laws before begun
      w later moves.old moves.new moves.at moves.moves came-in-order)
      (settled.answered before begun)

  pub settled-worker : AreSettled now new last
  settled-worker = record {
    order = order;
    answered = λ before begun v party at.
        let b = pick moved v
        (omega (arith, at.0, workers-long moved now looks.workers_began)) in
        looked-answered b.0 party (looks.each_worker v b.0 party b.1 at)
        (still-answered before (begun-back workers now start last
        (looks.workers_began ∙ moved-began workers moved w kept later moves) (is ∙ others.1) before
        begun) v b.0 (subst (λ ws. IsAt ws v b.0) moves.now_is b.1));
  }

-- a session's turn
module _ {So Si D I F : Type 0} {so : sources.Ghosts So} {si : sinks.Ghosts Si}
    {d : disks.Ghosts D} {i : indexes.Ghosts I} (workers : List (WorkerParty D I F d i))
    (sessions : List (SessionParty So Si F so si)) (start k : ℕ)
    (moved now : List (WorkerParty D I F d i))
    (between new : List (SessionParty So Si F so si)) (middle last : ℕ)
    (moves : MovesSessionAt k sessions between)
    (others : (moved ≡ workers) × (middle ≡ start)) (looks : Looks moved between now new)
    (is : last ≡ middle) where
  pub session-became : Become workers sessions start now new last
  session-became = record {
    began = record {
      workers_began = looks.workers_began ∙ ap first_workers others.0;
      sessions_began = looks.sessions_began ∙ (ap first_sessions moves.now_is
          ∙ map-one (λ (p : SessionParty So Si F so si). p.first.value) sessions k moves.old
          moves.new moves.at moves.moves.first);
      start_is = is ∙ others.1;
    };
    each = subst (λ ws. AtEach Becomes ws now) others.0
        (looks-each moved now between new looks);
  }

  -- the session made a turn, and the others were only looked at
  pub turned-session : (number : ℕ) → number ≡ length workers + k
      → TurnsParty number workers sessions now new
  turned-session number is_number = record {
    worker = λ old made here there.
        absurd (let at = here.0 in omega (arith, is_number, at));
    session = λ s old made e here there.
        let same : s ≡ k = omega (arith, e, is_number) in
        let here' : IsAt sessions k old = subst (λ n. IsAt sessions n old) same here in
        let there' : IsAt new k made = subst (λ n. IsAt new n made) same there in
        let a : moves.old ≡ old = one-at sessions k moves.old old moves.at here' in
        let placed : IsAt between k moves.new = subst (λ ss. IsAt ss k moves.new)
        (sym moves.now_is) (set-here sessions k moves.new moves.at.0) in
        session-looked old moves.new made
        (subst (λ z. TurnsSession z moves.new) a moves.moves.turned)
        (looks.each_session k moves.new made placed there');
    other_workers = λ v old made ne here there.
        looks.each_worker v old made (subst (λ ws. IsAt ws v old) (sym others.0) here) there;
    other_sessions = λ s old made ne here there.
        let p = pick between s (omega (
          arith,
          ap length moves.now_is,
          length-set sessions k moves.new,
          here.0,
        )) in
        let same : p.0 ≡ old = one-at sessions s p.0 old (at-set-there sessions k s moves.new p.0
        (λ e. ne (is_number ∙ ap (λ n. length workers + n) e))
        (subst (λ ss. IsAt ss s p.0) moves.now_is p.1)) here in
        subst (λ z. LooksSession z made) same (looks.each_session s p.0 made p.1 there);
  }

  pub settled-session : ((s v : ℕ) → AreInOrder now new s v) → AreSettled workers sessions start
      → AreSettled now new last
  settled-session order settled = record {
    order = order;
    answered = λ before begun v party at.
        let b = pick moved v
        (omega (arith, at.0, workers-long moved now looks.workers_began)) in
        looked-answered b.0 party (looks.each_worker v b.0 party b.1 at)
        (settled.answered before (begun-back workers now start last
        (looks.workers_began ∙ ap first_workers others.0) (is ∙ others.1) before begun) v b.0
        (subst (λ ws. IsAt ws v b.0) others.0 b.1));
  }

-- no party has the number
module _ {So Si D I F : Type 0} {so : sources.Ghosts So} {si : sinks.Ghosts Si}
    {d : disks.Ghosts D} {i : indexes.Ghosts I} (workers : List (WorkerParty D I F d i))
    (sessions : List (SessionParty So Si F so si)) where
  pub turned-none : (number : ℕ) → length workers + length sessions ≤ number
      → TurnsParty number workers sessions workers sessions
  turned-none number far = record {
    worker = λ old made here there. absurd (let at = here.0 in omega (arith, far, at));
    session = λ s old made e here there.
        absurd (let at = here.0 in omega (arith, far, e, at));
    other_workers = λ v old made ne here there.
        each-same LooksWorker worker-same workers v old made here there;
    other_sessions = λ s old made ne here there.
        each-same LooksSession session-same sessions s old made here there;
  }
