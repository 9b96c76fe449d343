-- Parties that were just made stand together.
use Rattle.std.proofs.Common.{◌≡◌, ℕ, zero, suc, ◌+◌, ◌^◌, ◌≤◌, List, [], ◌∷◌, ◌++◌, map}
use Rattle.std.proofs.Common.{length, get_or, All, option_to_list, refl, sym, ap, ap₂, ◌∙◌, subst}
use Rattle.std.proofs.Common.{subst₂, arith}
use Rattle.std.specs.List.{AllByRecursion}
use Rattle.std.proofs.lemmas.List.{length-map}
use mathlib.Core.List.{IsPrefix}
use Rattle.atomic_table.specs.Seated.{TableId}
use Rattle.kv_base.specs.declared.sink.Sink as sinks
use Rattle.kv_base.specs.declared.source.Source as sources
use Rattle.kv_disk.specs.declared.disk.Disk as disks
use Rattle.kv_groups.specs.Taking.{connection_of}
use Rattle.kv_index.specs.declared.index.Index as indexes
use Rattle.kv_parties.specs.Messages.{all_asking}
use Rattle.kv_parties.proofs.Lists.{sum_below-same, sum_below-zero}
use Rattle.kv_recover.specs.declared.opening.Opened.{Opened}
use Rattle.kv_ring.specs.Ends.{peers, sent_to, received_from, AreBetween, IsFresh}
use Rattle.kv_ring.specs.Matrix.{AreMesh}
use Rattle.kv_ring.specs.declared.ends.Ends.{Ends}
use Rattle.kv_ring.specs.declared.message.Answer.{Answer}
use Rattle.kv_ring.specs.declared.message.Ask.{Ask}
use Rattle.kv_session_party.specs.declared.party.SessionParty.{SessionParty}
use Rattle.kv_stamps.specs.Ranges.{among}
use Rattle.kv_stamps.specs.Seats.{Seat, new_seat}
use Rattle.kv_worker_party.specs.declared.party.WorkerParty.{WorkerParty}
use Rattle.kv_mesh.specs.Linked.{AreApart, AreLinked, drawn_by}
use Rattle.kv_mesh.specs.Linked.{first_sessions, first_workers, slots_of}
use Rattle.kv_mesh.specs.Places.{IsAt}
use Rattle.kv_mesh.specs.Settled.{AreSettled}
use Rattle.kv_mesh.specs.Shares.{HaveAllSeats}
use Rattle.kv_mesh.specs.Started.{AreNew, AreStores, IsNewSession, IsNewWorker, IsStoreOf, SessionsStart}
use Rattle.kv_mesh.specs.Started.{WorkersStart, ends_of, opened_of}
use Rattle.kv_mesh.proofs.PlaceLemmas.{given-is}

-- what holds of each item holds of the one at a place
all-at : {X : Type 0} (P : X → Type 0) (xs : List X) → AllByRecursion P xs → (k : ℕ) (x : X)
    → IsAt xs k x → P x
all-at P [] h k x at = absurd (omega (arith, at.0))
all-at P (y ∷ xs) h zero x at = subst P (sym at.1) h.0
all-at P (y ∷ xs) h (suc k) x at = all-at P xs h.1 k x (omega (arith, at.0), at.1)

-- what f gives of the item at a place stands there in the list of all that f gives
pub mapped-at : {X Y : Type 0} (f : X → Y) (xs : List X) (ys : List Y) → map f xs ≡ ys → (k : ℕ) (x : X)
    → IsAt xs k x → IsAt ys k (f x)
mapped-at f xs ys e k x at = (
  omega (arith, at.0, ap length e, length-map xs f),
  sym (given-is f (f x) xs k x at) ∙ ap (λ l. get_or l k (f x)) e,
)

pub mapped-length : {X Y : Type 0} (f : X → Y) (xs : List X) (ys : List Y) → map f xs ≡ ys
    → length xs ≡ length ys
mapped-length f xs ys e = sym (length-map xs f) ∙ ap length e

-- what begins with nothing
nothing-begins : {X : Type 0} (xs ys : List X) → xs ≡ [] → IsPrefix xs ys
nothing-begins xs ys e = (ys, ap (λ l. l ++ ys) e)

module _ {D I F : Type 0} {d : disks.Ghosts D} {i : indexes.Ghosts I} where
  -- new workers began with their stores
  begun-stores : (seat : Seat) (workers : List (WorkerParty D I F d i))
      → AllByRecursion (IsNewWorker seat) workers
      → map opened_of (first_workers workers) ≡ map (λ party. opened_of party.worker) workers
  begun-stores seat [] new = refl
  begun-stores seat (party ∷ workers) new = ap₂ (λ a b. a ∷ b) (ap opened_of new.0.first)
      (begun-stores seat workers new.1)

  -- as many as these
  pub many-begun : (workers : List (WorkerParty D I F d i)) (stores : List (Opened D I))
      → map opened_of (first_workers workers) ≡ stores → length workers ≡ length stores
  many-begun workers stores e = sym (length-map workers (λ party. party.first.value))
      ∙ mapped-length opened_of (first_workers workers) stores e

  -- they drew nothing
  none-drawn : (seat : Seat) → seat.view.drawn ≡ [] → (workers : List (WorkerParty D I F d i))
      → AllByRecursion (IsNewWorker seat) workers → (k : ℕ) → drawn_by workers k ≡ []
  none-drawn seat none [] new k = refl
  none-drawn seat none (party ∷ workers) new zero = ap (λ s. s.view.drawn) new.0.seat_is ∙ none
  none-drawn seat none (party ∷ workers) new (suc k) = none-drawn seat none workers new.1 k

  apart-first : (seat : Seat) → seat.view.drawn ≡ [] → (start : ℕ)
      (workers : List (WorkerParty D I F d i)) → AllByRecursion (IsNewWorker seat) workers
      → AreApart workers start start
  apart-first seat drawn start workers new number =
      let none = sum_below-same (length workers) (λ w. among number (drawn_by workers w)) (λ w. 0)
      (λ w lt. ap (λ ranges. among number ranges) (none-drawn seat drawn workers new w))
      ∙ sum_below-zero (length workers) in omega (arith, none)

  -- all have the slots of the first one
  slots-first : (slots : ℕ) (workers : List (WorkerParty D I F d i)) → 1 ≤ length workers
      → ((k : ℕ) (party : WorkerParty D I F d i) → IsAt workers k party
      → party.first.value.store.limits.slots ≡ slots) → slots_of workers ≡ slots
  slots-first slots [] some h = absurd (omega (arith, some))
  slots-first slots (party ∷ workers) some h = h zero party (omega arith, refl)

module _ {So Si F : Type 0} {so : sources.Ghosts So} {si : sinks.Ghosts Si} where
  -- new sessions began with their sources and sinks
  begun-ends : (seat : Seat) (sessions : List (SessionParty So Si F so si))
      → AllByRecursion (IsNewSession seat) sessions
      → map ends_of (first_sessions sessions) ≡ map (λ party. ends_of party.session) sessions
  begun-ends seat [] new = refl
  begun-ends seat (party ∷ sessions) new = ap₂ (λ a b. a ∷ b) (ap ends_of new.0.first)
      (begun-ends seat sessions new.1)

-- how many parties there are at the other side of ends that are fresh
abbrev pub HavePeers : {S R : Type 0} {most : ℕ} → ℕ → List (Ends S R most) → Type 0
HavePeers many ends = All (λ end. (peers end ≡ many) × IsFresh end) ends

module _ {So Si D I F : Type 0} {so : sources.Ghosts So} {si : sinks.Ghosts Si}
    {d : disks.Ghosts D} {i : indexes.Ghosts I} (stores : List (Opened D I)) (ends : List (So × Si))
    (session_rings : List (Ends (Ask F) (Answer F) 16))
    (worker_rings : List (Ends (Answer F) (Ask F) 8)) (counter : TableId) (start many : ℕ)
    (workers : List (WorkerParty D I F d i)) (sessions : List (SessionParty So Si F so si))
    (new_workers : WorkersStart stores worker_rings (new_seat counter start many) workers)
    (new_sessions : SessionsStart ends session_rings (new_seat counter start many) sessions)
    (fresh_workers : HavePeers (length ends) worker_rings)
    (fresh_sessions : HavePeers (length stores) session_rings) where
  many_workers : length workers ≡ length stores
  many_workers = mapped-length (λ (party : WorkerParty D I F d i). opened_of party.worker) workers
      stores new_workers.stores_are

  many_sessions : length sessions ≡ length ends
  many_sessions = mapped-length (λ (party : SessionParty So Si F so si). ends_of party.session)
      sessions ends new_sessions.ends_are

  new-worker : (w : ℕ) (party : WorkerParty D I F d i) → IsAt workers w party
      → IsNewWorker (new_seat counter start many) party
  new-worker w party at = all-at (IsNewWorker (new_seat counter start many)) workers new_workers.new
      w party at

  new-session : (s : ℕ) (party : SessionParty So Si F so si) → IsAt sessions s party
      → IsNewSession (new_seat counter start many) party
  new-session s party at = all-at (IsNewSession (new_seat counter start many)) sessions
      new_sessions.new s party at

  worker-rings : (w : ℕ) (party : WorkerParty D I F d i) → IsAt workers w party
      → IsAt worker_rings w party.ends
  worker-rings w party at = mapped-at (λ (p : WorkerParty D I F d i). p.ends) workers worker_rings
      new_workers.rings_are w party at

  session-rings : (s : ℕ) (party : SessionParty So Si F so si) → IsAt sessions s party
      → IsAt session_rings s party.links.ends
  session-rings s party at = mapped-at (λ (p : SessionParty So Si F so si). p.links.ends) sessions
      session_rings new_sessions.rings_are s party at

  worker-fresh : (w : ℕ) (party : WorkerParty D I F d i) → IsAt workers w party
      → (peers party.ends ≡ length ends) × IsFresh party.ends
  worker-fresh w party at = let there = worker-rings w party at in
      subst (λ e. (peers e ≡ length ends) × IsFresh e) (sym there.1)
      (fresh_workers w party.ends there.0)

  session-fresh : (s : ℕ) (party : SessionParty So Si F so si) → IsAt sessions s party
      → (peers party.links.ends ≡ length stores) × IsFresh party.links.ends
  session-fresh s party at = let there = session-rings s party at in
      subst (λ e. (peers e ≡ length stores) × IsFresh e) (sym there.1)
      (fresh_sessions s party.links.ends there.0)

  -- the parties are linked
  linked-first : AreStores d i stores → AreMesh session_rings worker_rings
      → (1 ≤ length stores) × (length stores ≤ 16) → (1 ≤ length ends) × (length ends ≤ 8)
      → (1 ≤ start) × (start ≤ 2 ^ 62) → AreLinked workers sessions counter start start
  linked-first are mesh workers_are ends_are started = record {
    some_workers = omega (arith, workers_are.0, many_workers);
    few_workers = omega (arith, workers_are.1, many_workers);
    some_sessions = omega (arith, ends_are.0, many_sessions);
    few_sessions = omega (arith, ends_are.1, many_sessions);
    worker_fits = λ w party at. record {
      number_is = (store w party at).worker_is;
      workers_are = (store w party at).workers_are ∙ sym many_workers;
      number_was = ap (λ v. v.store.worker) (new-worker w party at).first
          ∙ (store w party at).worker_is;
      workers_were = ap (λ v. v.store.workers) (new-worker w party at).first
          ∙ (store w party at).workers_are ∙ sym many_workers;
      slots_are = slots w party at ∙ sym (slots-first are.slots workers
          (omega (arith, workers_are.0, many_workers)) slots);
      sessions_are = (worker-fresh w party at).0 ∙ sym many_sessions;
      counter_is = ap (λ seat. seat.counter) (new-worker w party at).seat_is;
      start_is = ap (λ seat. seat.view.start) (new-worker w party at).seat_is;
    };
    session_fits = λ s party at. record {
      workers_are = (session-fresh s party at).0 ∙ sym many_workers;
      counter_is = ap (λ seat. seat.counter) (new-session s party at).seat_is;
      start_is = ap (λ seat. seat.view.start) (new-session s party at).seat_is;
    };
    rings = λ s w near far at_s at_w.
        let here = session-rings s near at_s in
        let there = worker-rings w far at_w in
        subst₂ (λ a b. AreBetween a s b w) (sym here.1) (sym there.1)
        (mesh s w near.links.ends far.ends here.0 there.0);
    apart = apart-first (new_seat counter start many) refl start workers new_workers.new;
    started = started;
    limit = started.1;
  } where
    store : (w : ℕ) (party : WorkerParty D I F d i) → IsAt workers w party
        → IsStoreOf d i (length stores) are.slots w (opened_of party.worker)
    store w party at = are.each w (opened_of party.worker)
        (mapped-at (λ (p : WorkerParty D I F d i). opened_of p.worker) workers stores
        new_workers.stores_are w party at)

    slots : (w : ℕ) (party : WorkerParty D I F d i) → IsAt workers w party
        → party.first.value.store.limits.slots ≡ are.slots
    slots w party at = ap (λ v. v.store.limits.slots) (new-worker w party at).first
        ∙ (store w party at).slots_are

  -- nothing was sent, and nothing is owed
  settled-first : AreSettled workers sessions start
  settled-first = record {
    order = λ s w near far at_s at_w. record {
      asks = nothing-begins (received_from far.ends s) (sent_to near.links.ends w)
          ((worker-fresh w far at_w).1.received s);
      answers = nothing-begins (received_from near.links.ends w) (sent_to far.ends s)
          ((session-fresh s near at_s).1.received w);
    };
    answered = λ before begun w party at session lt.
        let fresh = (worker-fresh w party at).1 in
        let none = ap (λ c. option_to_list c.waiting) ((new-worker w party at).none session) in
        ap length (ap (λ l. l ++ option_to_list (connection_of party.connections.items
        session).waiting) (fresh.sent session) ∙ none)
        ∙ sym (ap (λ l. length (all_asking l)) (fresh.received session));
  }

  -- all seats of the counter are theirs
  seats-first : many ≡ length stores + length ends → HaveAllSeats workers sessions
  seats-first are = record {
    worker_shares = λ w party at. (
      (new-worker w party at).lifted,
      record {
        weight = ap (λ seat. seat.view.weight) (new-worker w party at).seat_is;
        seats = ap (λ seat. seat.view.seats) (new-worker w party at).seat_is ∙ all;
      },
    );
    session_shares = λ s party at. (
      (new-session s party at).lifted,
      record {
        weight = ap (λ seat. seat.view.weight) (new-session s party at).seat_is;
        seats = ap (λ seat. seat.view.seats) (new-session s party at).seat_is ∙ all;
      },
    );
  } where
    all : many ≡ length workers + length sessions
    all = omega (arith, are, many_workers, many_sessions)

  -- they stand together as new parties
  pub all-new : AreStores d i stores → AreMesh session_rings worker_rings
      → (1 ≤ length stores) × (length stores ≤ 16) → (1 ≤ length ends) × (length ends ≤ 8)
      → (1 ≤ start) × (start ≤ 2 ^ 62) → many ≡ length stores + length ends
      → AreNew stores ends counter start workers sessions
  all-new are mesh workers_are ends_are started seats_are = record {
    linked = linked-first are mesh workers_are ends_are started;
    settled = settled-first;
    seats = seats-first seats_are;
    stores_are = begun-stores (new_seat counter start many) workers new_workers.new
        ∙ new_workers.stores_are;
    ends_are = begun-ends (new_seat counter start many) sessions new_sessions.new
        ∙ new_sessions.ends_are;
  }
