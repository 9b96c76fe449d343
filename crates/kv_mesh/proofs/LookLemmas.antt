-- What a look at the rings leaves, and turns that began as others did.
use Rattle.std.proofs.Common.{◌≡◌, ℕ, List, length, set, refl, sym, ◌∙◌, subst₂, arith}
use mathlib.Core.List.{IsPrefix}
use Rattle.kv_base.specs.declared.sink.Sink as sinks
use Rattle.kv_base.specs.declared.source.Source as sources
use Rattle.kv_disk.specs.declared.disk.Disk as disks
use Rattle.kv_index.specs.declared.index.Index as indexes
use Rattle.kv_ring.specs.Comparing.{Compares}
use Rattle.kv_ring.specs.Ends.{SameRings, known_from}
use Rattle.kv_ring.specs.declared.ends.Ends.{Ends}
use Rattle.kv_session_party.specs.declared.party.SessionParty.{SessionParty}
use Rattle.kv_worker_party.specs.declared.party.WorkerParty.{WorkerParty}
use Rattle.kv_mesh.specs.Linked.{first_sessions, first_workers}
use Rattle.kv_mesh.specs.Moves.{Become, Looks, LooksSession, LooksWorker}
use Rattle.kv_mesh.specs.Moments.{Becomes}
use Rattle.kv_mesh.specs.Settled.{AreInOrder, InOrder}
use Rattle.kv_mesh.specs.Places.{AtEach, IsAt}
use Rattle.kv_mesh.proofs.BecomeLemmas.{becomes-same, becomes-then, looked-becomes}
use Rattle.kv_mesh.proofs.PlaceLemmas.{at-set-here, each-one, each-same, each-then, map-one}
use Rattle.kv_mesh.proofs.PlaceLemmas.{pick, same-length}

module _ {S R : Type 0} {most : ℕ} where
  pub rings-same : (ends : Ends S R most) → SameRings ends ends
  rings-same ends = record { peers = refl; lines = λ other. refl }

  pub rings-then : (ends mid new : Ends S R most) → SameRings ends mid → SameRings mid new
      → SameRings ends new
  rings-then ends mid new first second = record {
    peers = second.peers ∙ first.peers;
    lines = λ other. second.lines other ∙ first.lines other;
  }

module _ {D I F : Type 0} {d : disks.Ghosts D} {i : indexes.Ghosts I} where
  pub worker-same : (party : WorkerParty D I F d i) → LooksWorker party party
  worker-same party = record {
    rings = rings-same party.ends;
    sent = λ s. refl;
    received = λ s. refl;
    connections = refl;
    worker = refl;
    first = refl;
    seat = refl;
    lifted = refl;
  }

  pub worker-then : (old mid new : WorkerParty D I F d i) → LooksWorker old mid
      → LooksWorker mid new → LooksWorker old new
  worker-then old mid new a b = record {
    rings = rings-then old.ends mid.ends new.ends a.rings b.rings;
    sent = λ s. b.sent s ∙ a.sent s;
    received = λ s. b.received s ∙ a.received s;
    connections = b.connections ∙ a.connections;
    worker = b.worker ∙ a.worker;
    first = b.first ∙ a.first;
    seat = b.seat ∙ a.seat;
    lifted = b.lifted ∙ a.lifted;
  }

  pub workers-long : (workers now : List (WorkerParty D I F d i))
      → first_workers now ≡ first_workers workers → length now ≡ length workers
  workers-long workers now e =
      same-length (λ (p : WorkerParty D I F d i). p.first.value) workers now e

module _ {So Si F : Type 0} {so : sources.Ghosts So} {si : sinks.Ghosts Si} where
  pub session-same : (party : SessionParty So Si F so si) → LooksSession party party
  session-same party = record {
    rings = rings-same party.links.ends;
    sent = λ w. refl;
    received = λ w. refl;
    session = refl;
    seat = refl;
    waiting = refl;
    first = refl;
    lifted = refl;
  }

  pub session-then : (old mid new : SessionParty So Si F so si) → LooksSession old mid
      → LooksSession mid new → LooksSession old new
  session-then old mid new a b = record {
    rings = rings-then old.links.ends mid.links.ends new.links.ends a.rings b.rings;
    sent = λ w. b.sent w ∙ a.sent w;
    received = λ w. b.received w ∙ a.received w;
    session = b.session ∙ a.session;
    seat = b.seat ∙ a.seat;
    waiting = b.waiting ∙ a.waiting;
    first = b.first ∙ a.first;
    lifted = b.lifted ∙ a.lifted;
  }

  pub sessions-long : (sessions now : List (SessionParty So Si F so si))
      → first_sessions now ≡ first_sessions sessions → length now ≡ length sessions
  sessions-long sessions now e =
      same-length (λ (p : SessionParty So Si F so si). p.first.value) sessions now e

module _ {So Si D I F : Type 0} {so : sources.Ghosts So} {si : sinks.Ghosts Si}
    {d : disks.Ghosts D} {i : indexes.Ghosts I} where
  pub looks-same : (workers : List (WorkerParty D I F d i))
      (sessions : List (SessionParty So Si F so si)) → Looks workers sessions workers sessions
  looks-same workers sessions = record {
    workers_began = refl;
    sessions_began = refl;
    each_worker = each-same LooksWorker worker-same workers;
    each_session = each-same LooksSession session-same sessions;
  }

  module _ (workers mid now : List (WorkerParty D I F d i))
      (sessions between new : List (SessionParty So Si F so si)) where
    pub looks-then : Looks workers sessions mid between → Looks mid between now new
        → Looks workers sessions now new
    looks-then a b = record {
      workers_began = b.workers_began ∙ a.workers_began;
      sessions_began = b.sessions_began ∙ a.sessions_began;
      each_worker = each-then LooksWorker worker-then workers mid now
          (workers-long workers mid a.workers_began) a.each_worker b.each_worker;
      each_session = each-then LooksSession session-then sessions between new
          (sessions-long sessions between a.sessions_began) a.each_session b.each_session;
    }

    pub become-then : (start middle later : ℕ) → Become workers sessions start mid between middle
        → Become mid between middle now new later → Become workers sessions start now new later
    become-then start middle later a b = record {
      began = record {
        workers_began = b.began.workers_began ∙ a.began.workers_began;
        sessions_began = b.began.sessions_began ∙ a.began.sessions_began;
        start_is = b.began.start_is ∙ a.began.start_is;
      };
      each = each-then Becomes becomes-then workers mid now
          (workers-long workers mid a.began.workers_began) a.each b.each;
    }

  pub become-same : (workers : List (WorkerParty D I F d i))
      (sessions : List (SessionParty So Si F so si)) (start : ℕ)
      → Become workers sessions start workers sessions start
  become-same workers sessions start = record {
    began = record { workers_began = refl; sessions_began = refl; start_is = refl };
    each = each-same Becomes becomes-same workers;
  }

  -- each worker goes on behind a look
  pub looks-each : (workers now : List (WorkerParty D I F d i))
      (sessions new : List (SessionParty So Si F so si)) → Looks workers sessions now new
      → AtEach Becomes workers now
  looks-each workers now sessions new looks w old later here there =
      looked-becomes old later (looks.each_worker w old later here there)

  -- what was in order is so behind a look
  pub order-looked : (workers now : List (WorkerParty D I F d i))
      (sessions new : List (SessionParty So Si F so si)) (s w : ℕ)
      → Looks workers sessions now new → AreInOrder workers sessions s w → AreInOrder now new s w
  order-looked workers now sessions new s w looks order near far here there =
      let n = pick sessions s (omega (arith, here.0, sessions-long sessions new looks.sessions_began)) in
      let f = pick workers w (omega (arith, there.0, workers-long workers now looks.workers_began)) in
      let was : InOrder n.0 s f.0 w = order n.0 f.0 n.1 f.1 in
      let a = looks.each_session s n.0 near n.1 here in
      let b = looks.each_worker w f.0 far f.1 there in
      record {
        asks = subst₂ (λ xs ys. IsPrefix xs ys) (sym (b.received s)) (sym (a.sent w)) was.asks;
        answers = subst₂ (λ xs ys. IsPrefix xs ys) (sym (a.received w)) (sym (b.sent s)) was.answers;
      }

  -- the rings between one session and one worker were looked at
  module _ (workers : List (WorkerParty D I F d i)) (sessions : List (SessionParty So Si F so si))
      (s w : ℕ) (near new : SessionParty So Si F so si) (far now : WorkerParty D I F d i)
      (here : IsAt sessions s near) (there : IsAt workers w far) (left : ℕ)
      (compared : Compares near.links.ends new.links.ends s far.ends now.ends w left) where
    pub compared-order : AreInOrder (set workers w now) (set sessions s new) s w
    compared-order n f is is_far =
        let a : n ≡ new = at-set-here sessions s new n here.0 is in
        let b : f ≡ now = at-set-here workers w now f there.0 is_far in
        let both : InOrder new s now w = record {
          asks = (known_from now.ends s, sym compared.asks);
          answers = (known_from new.links.ends w, sym compared.answers);
        } in
        subst₂ (λ p q. InOrder p s q w) (sym a) (sym b) both

    -- what the look leaves of the worker
    module _ (stays : (now.worker ≡ far.worker) × (now.seat ≡ far.seat)
        × (now.connections ≡ far.connections) × (now.first.value ≡ far.first.value)
        × (now.lifted ≡ far.lifted)) where
      worker-looked : LooksWorker far now
      worker-looked = record {
        rings = compared.worker_ends.rings;
        sent = compared.worker_ends.sent;
        received = compared.worker_ends.received;
        connections = stays.2;
        worker = stays.0;
        first = stays.3;
        seat = stays.1;
        lifted = stays.4;
      }

      pub compared-looks : (new.session ≡ near.session) × (new.seat ≡ near.seat)
          × (new.waiting ≡ near.waiting) × (new.first.value ≡ near.first.value)
          × (new.lifted ≡ near.lifted)
          → Looks workers sessions (set workers w now) (set sessions s new)
      compared-looks kept = record {
        workers_began = map-one (λ (p : WorkerParty D I F d i). p.first.value) workers w far now
            there stays.3;
        sessions_began = map-one (λ (p : SessionParty So Si F so si). p.first.value) sessions s near
            new here kept.3;
        each_worker = each-one LooksWorker worker-same workers w far now there worker-looked;
        each_session = each-one LooksSession session-same sessions s near new here (record {
          rings = compared.session_ends.rings;
          sent = compared.session_ends.sent;
          received = compared.session_ends.received;
          session = kept.0;
          seat = kept.1;
          waiting = kept.2;
          first = kept.3;
          lifted = kept.4;
        });
      }
