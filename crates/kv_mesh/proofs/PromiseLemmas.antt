-- From what each party's type promises to the promises of all.
use Rattle.std.proofs.Common.{◌≡◌, ℕ, ◌+◌, ◌-◌, ◌<◌, ◌≤◌, List, [], ◌++◌, length}
use Rattle.std.proofs.Common.{Bool, false, refl, sym, ap, ◌∙◌, subst, subst₂, arith, append_assoc}
use Rattle.std.specs.Prelude.{option_to_list}
use Rattle.std.proofs.Math.Logic.{∥∥₁_map, ∥∥₁_map₂}
use Rattle.std.proofs.lemmas.List.{length-map}
use mathlib.Core.List.{IsPrefix}
use Rattle.atomic_table.specs.Seated.{TableId}
use Rattle.kv_base.specs.declared.request.Request.{Request}
use Rattle.kv_base.specs.declared.sink.Sink as sinks
use Rattle.kv_base.specs.declared.source.Source as sources
use Rattle.kv_disk.specs.declared.disk.Disk as disks
use Rattle.kv_groups.specs.Taking.{connection_of}
use Rattle.kv_index.specs.declared.index.Index as indexes
use Rattle.kv_model.specs.History.{Write}
use Rattle.kv_model.specs.Pairs.{Pair}
use Rattle.kv_parties.specs.Promises.{WorkerData, WorkerPromise, SessionPromise}
use Rattle.kv_parties.specs.Rows.{sum_below}
use Rattle.kv_parties.specs.Setting.{Setting}
use Rattle.kv_parties.specs.Workers.{done_pairs}
use Rattle.kv_ring.specs.Ends.{peers, received_from}
use Rattle.kv_ring.specs.declared.message.Answer.{Answer}
use Rattle.kv_ring.specs.declared.message.Ask.{Ask}
use Rattle.kv_session_party.specs.Links.{told_to, heard_from, waiting_for}
use Rattle.kv_session_party.specs.Promise.{HasCourse, Tells, with_gaps}
use Rattle.kv_session_party.specs.declared.party.SessionParty.{SessionParty}
use Rattle.kv_stamps.specs.Ranges.{among}
use Rattle.kv_stamps.specs.declared.view.View.{View}
use Rattle.kv_worker_party.specs.Party.{BeginsWith, Holds, answers_to, data_of, setting_of}
use Rattle.kv_worker_party.specs.declared.party.WorkerParty.{WorkerParty}
use Rattle.kv_mesh.specs.Linked.{AreLinked, drawn_by, first_workers, setting_for, slots_of}
use Rattle.kv_mesh.specs.Moments.{HoldsWith}
use Rattle.kv_mesh.specs.Places.{IsAt}
use Rattle.kv_mesh.specs.Settled.{AreInOrder, HaveBegun, InOrder}
use Rattle.kv_mesh.specs.Standing.{IsDataOf, IsViewOf, KeepPromises, answers_received, answers_sent}
use Rattle.kv_mesh.specs.Standing.{asks_received, asks_sent, streams_of, waits_at}
use Rattle.kv_mesh.proofs.ApartLemmas.{below-once, drawn-is, sum-same}
use Rattle.kv_mesh.proofs.ChoiceLemmas.{choose-each, chosen}
use Rattle.kv_mesh.proofs.PlaceLemmas.{given-is, one-at, pick}

pub prefix-longer : {X : Type 0} (xs ys zs : List X) → IsPrefix xs ys → IsPrefix xs (ys ++ zs)
prefix-longer xs ys zs p =
    (p.0 ++ zs, sym (append_assoc xs p.0 zs) ∙ ap (λ all. all ++ zs) p.1)

-- what is said in some words is said in equal ones
words-same : {F : Type 0} (Q : ℕ → ℕ → ℕ → ℕ → ℕ → (ℕ → List (Ask F)) → (ℕ → List (Answer F)) → Type 0)
    (start start' sessions sessions' workers workers' slots slots' worker worker' : ℕ)
    (received received' : ℕ → List (Ask F)) (sent sent' : ℕ → List (Answer F)) → start ≡ start'
    → sessions ≡ sessions' → workers ≡ workers' → slots ≡ slots' → worker ≡ worker'
    → received ≡ received' → sent ≡ sent' → Q start sessions workers slots worker received sent
    → Q start' sessions' workers' slots' worker' received' sent'
words-same Q start start' sessions sessions' workers workers' slots slots' worker worker' received
    received' sent sent' e₁ e₂ e₃ e₄ e₅ e₆ e₇ q =
    subst (λ z. Q start' sessions' workers' slots' worker' received' z) e₇
    (subst (λ z. Q start' sessions' workers' slots' worker' z sent) e₆
    (subst (λ z. Q start' sessions' workers' slots' z received sent) e₅
    (subst (λ z. Q start' sessions' workers' z worker received sent) e₄
    (subst (λ z. Q start' sessions' z slots worker received sent) e₃
    (subst (λ z. Q start' z workers slots worker received sent) e₂
    (subst (λ z. Q z sessions workers slots worker received sent) e₁ q))))))

session-same : {F : Type 0} (setting : Setting) (sent sent' : ℕ → List (Ask F))
    (received received' : ℕ → List (Answer F)) (groups : List (List Pair)) (requests : List Request)
    (waiting waiting' : Bool) (view : View) → sent ≡ sent' → received ≡ received'
    → waiting ≡ waiting' → SessionPromise setting sent received groups requests waiting view
    → SessionPromise setting sent' received' groups requests waiting' view
session-same setting sent sent' received received' groups requests waiting waiting' view e₁ e₂ e₃
    p =
    subst (λ z. SessionPromise setting sent' received' groups requests z view) e₃
    (subst (λ z. SessionPromise setting sent' z groups requests waiting view) e₂
    (subst (λ z. SessionPromise setting z received groups requests waiting view) e₁ p))

module _ {D I F : Type 0} {d : disks.Ghosts D} {i : indexes.Ghosts I} where
  -- from these writes on each worker keeps its promise, and answered these pairs
  abbrev pub AllHold : List (WorkerParty D I F d i) → (ℕ → List Write) → (ℕ → List Pair) → Type 0
  AllHold workers before pairs = (k : ℕ) (party : WorkerParty D I F d i) → IsAt workers k party
      → HoldsWith party (before k) (pairs k)

  pub asks-received-is : (workers : List (WorkerParty D I F d i)) (k : ℕ)
      (party : WorkerParty D I F d i) → IsAt workers k party
      → asks_received workers k ≡ received_from party.ends
  asks-received-is workers k party at =
      given-is (λ (p : WorkerParty D I F d i). received_from p.ends) (λ _. []) workers k party at

  pub answers-sent-is : (workers : List (WorkerParty D I F d i)) (k : ℕ)
      (party : WorkerParty D I F d i) → IsAt workers k party
      → answers_sent workers k ≡ answers_to party.ends party.connections.items
  answers-sent-is workers k party at = given-is
      (λ (p : WorkerParty D I F d i). answers_to p.ends p.connections.items) (λ _. []) workers k
      party at

  pub first-at : (workers : List (WorkerParty D I F d i)) (k : ℕ) (party : WorkerParty D I F d i)
      → IsAt workers k party → IsAt (first_workers workers) k party.first.value
  first-at workers k party at = (
    omega (arith, length-map workers (λ (p : WorkerParty D I F d i). p.first.value), at.0),
    sym (given-is (λ (p : WorkerParty D I F d i). p.first.value) party.first.value workers k party
        at),
  )

module _ {So Si F : Type 0} {so : sources.Ghosts So} {si : sinks.Ghosts Si} where
  pub asks-sent-is : (sessions : List (SessionParty So Si F so si)) (k : ℕ)
      (party : SessionParty So Si F so si) → IsAt sessions k party
      → asks_sent sessions k ≡ told_to party.links
  asks-sent-is sessions k party at =
      given-is (λ (p : SessionParty So Si F so si). told_to p.links) (λ _. []) sessions k party at

  pub answers-received-is : (sessions : List (SessionParty So Si F so si)) (k : ℕ)
      (party : SessionParty So Si F so si) → IsAt sessions k party
      → answers_received sessions k ≡ heard_from party.links
  answers-received-is sessions k party at = given-is
      (λ (p : SessionParty So Si F so si). heard_from p.links) (λ _. []) sessions k party at

  pub waits-is : (sessions : List (SessionParty So Si F so si)) (k : ℕ)
      (party : SessionParty So Si F so si) → IsAt sessions k party
      → waits_at sessions k ≡ party.waiting
  waits-is sessions k party at =
      given-is (λ (p : SessionParty So Si F so si). p.waiting) false sessions k party at

module _ {So Si D I F : Type 0} {so : sources.Ghosts So} {si : sinks.Ghosts Si}
    {d : disks.Ghosts D} {i : indexes.Ghosts I} (workers : List (WorkerParty D I F d i))
    (sessions : List (SessionParty So Si F so si)) (counter : TableId) (start kept : ℕ)
    (linked : AreLinked workers sessions counter start kept) where
  -- a worker's promise in words of all parties, of the pairs that it answered
  abbrev Told : ℕ → List Write → List Pair → WorkerData D → Type 0
  Told k before pairs own = (p : WorkerPromise d (setting_for workers sessions start) k before
      (asks_received workers k) (answers_sent workers k) own)
      × (done_pairs p.groups.history ≡ pairs)

  worker-told : (before : List Write) (pairs : List Pair) (k : ℕ) (party : WorkerParty D I F d i)
      → IsAt workers k party → (h : HoldsWith party before pairs) → Told k before pairs
      (data_of d i party.first.value party.worker party.seat.view h.holds.gaps)
  worker-told before pairs k party at h =
      let fits = linked.worker_fits k party at in
      let own = data_of d i party.first.value party.worker party.seat.view h.holds.gaps in
      words-same (λ a b m n w received sent. (p : WorkerPromise d (setting_of d.tells a b m n) w
      before received sent own) × (done_pairs p.groups.history ≡ pairs)) party.seat.view.start start
      (peers party.ends) (length sessions) party.first.value.store.workers (length workers)
      party.first.value.store.limits.slots (slots_of workers) party.first.value.store.worker k
      (received_from party.ends) (asks_received workers k)
      (answers_to party.ends party.connections.items) (answers_sent workers k) fits.start_is
      fits.sessions_are fits.workers_were fits.slots_are fits.number_was
      (sym (asks-received-is workers k party at)) (sym (answers-sent-is workers k party at))
      (h.holds.promise, h.pairs_are)

  worker-holds : (before : ℕ → List Write) → HaveBegun d i (first_workers workers) start before
      → (k : ℕ) → k < length workers → ∥ ((pairs : List Pair) × ((party : WorkerParty D I F d i)
      → IsAt workers k party → HoldsWith party (before k) pairs)) ∥₁
  worker-holds before begun k lt =
      let p = pick workers k lt in
      let q : WorkerParty D I F d i = p.0 in
      ∥∥₁_map (q.promise (before k)
      (subst (λ n. BeginsWith d i q.first.value (before k) (n - 1))
      (sym (linked.worker_fits k q p.1).start_is)
      (begun k q.first.value (first-at workers k q p.1))))
      (λ (h : Holds d i q.seat.view.start (peers q.ends) q.first.value q.worker q.ends
      q.connections.items q.seat.view q.lifted (before k)). (
        done_pairs h.promise.groups.history,
        λ party at. subst (λ z. HoldsWith z (before k) (done_pairs h.promise.groups.history))
            (one-at workers k q party p.1 at) (record { holds = h; pairs_are = refl }),
      ))

  pub all-hold : (before : ℕ → List Write) → HaveBegun d i (first_workers workers) start before
      → ∥ ((pairs : ℕ → List Pair) × AllHold workers before pairs) ∥₁
  all-hold before begun = ∥∥₁_map
      (choose-each (length workers) (λ k pairs. (party : WorkerParty D I F d i)
      → IsAt workers k party → HoldsWith party (before k) pairs) linked.some_workers
      (worker-holds before begun))
      (λ (all : (pairs : ℕ → List Pair) × ((k : ℕ) → k < length workers
      → (party : WorkerParty D I F d i) → IsAt workers k party
      → HoldsWith party (before k) (pairs k))).
      (all.0, λ k party at. all.1 k at.0 party at))

  -- a worker's data, with the promise of them
  abbrev WorkerKeeps : (ℕ → List Write) → (ℕ → List Pair) → ℕ → WorkerData D → Type 0
  WorkerKeeps before pairs k own = ((party : WorkerParty D I F d i) → IsAt workers k party
      → IsDataOf party own) × Told k (before k) (pairs k) own

  worker-keeps : (before : ℕ → List Write) (pairs : ℕ → List Pair) → AllHold workers before pairs
      → (k : ℕ) → k < length workers → (own : WorkerData D) × WorkerKeeps before pairs k own
  worker-keeps before pairs all k lt =
      let p = pick workers k lt in
      let h = all k p.0 p.1 in
      let own = data_of d i p.0.first.value p.0.worker p.0.seat.view h.holds.gaps in (
        own,
        (
          λ party at. subst (λ q. IsDataOf q own) (one-at workers k p.0 party p.1 at)
              (record {
                gaps = h.holds.gaps;
                gaps_are = h.holds.gaps_are;
                is = refl;
                past = h.holds.leaves.any_moment.before;
              }),
          worker-told (before k) (pairs k) k p.0 p.1 h,
        ),
      )

  -- what a session answered, with its transcript, the view of its seat and the promise of both
  abbrev SessionKeeps : ℕ → (List (List Pair) × List Request × View) → Type 0
  SessionKeeps k answered = ((party : SessionParty So Si F so si) → IsAt sessions k party
      → HasCourse (streams_of so si) party.first.value.source party.first.value.sink answered.0
      answered.1 party.waiting party.session party.session.ending)
      × ((party : SessionParty So Si F so si) → IsAt sessions k party → IsViewOf party answered.2)
      × SessionPromise (setting_for workers sessions start) (asks_sent sessions k)
      (answers_received sessions k) answered.0 answered.1 (waits_at sessions k) answered.2

  session-keeps : (k : ℕ) → k < length sessions
      → ∥ ((answered : List (List Pair) × List Request × View) × SessionKeeps k answered) ∥₁
  session-keeps k lt =
      let p = pick sessions k lt in
      let q : SessionParty So Si F so si = p.0 in
      ∥∥₁_map (q.promise (setting_for workers sessions start) (record {
        layout = refl;
        workers_are = sym (linked.session_fits k q p.1).workers_are;
      })) (λ (t : Tells (streams_of so si) (setting_for workers sessions start)
      q.first.value.source q.first.value.sink q.session (told_to q.links) (heard_from q.links) q.seen
      q.routes q.waiting q.seat.view q.lifted). (
        (t.groups, t.asked, with_gaps q.seat.view t.gaps),
        (
          λ party at. subst (λ z. HasCourse (streams_of so si) z.first.value.source
              z.first.value.sink t.groups t.asked z.waiting z.session z.session.ending)
              (one-at sessions k q party p.1 at) t.course,
          λ party at. subst (λ z. IsViewOf z (with_gaps q.seat.view t.gaps))
              (one-at sessions k q party p.1 at)
              (record { gaps = t.gaps; gaps_are = t.gaps_are; is = refl }),
          session-same (setting_for workers sessions start) (told_to q.links)
              (asks_sent sessions k) (heard_from q.links) (answers_received sessions k) t.groups
              t.asked q.waiting (waits_at sessions k) (with_gaps q.seat.view t.gaps)
              (sym (asks-sent-is sessions k q p.1)) (sym (answers-received-is sessions k q p.1))
              (sym (waits-is sessions k q p.1)) t.keeps.promise,
        ),
      ))

  -- what was received begins what was sent, where what waits to be sent counts as sent
  asks-begin : (s w : ℕ) → s < length sessions → w < length workers
      → AreInOrder workers sessions s w
      → IsPrefix (asks_received workers w s) (asks_sent sessions s w)
  asks-begin s w lt less order =
      let n = pick sessions s lt in
      let f = pick workers w less in
      let both : InOrder n.0 s f.0 w = order n.0 f.0 n.1 f.1 in
      subst₂ (λ xs ys. IsPrefix xs ys) (sym (ap (λ from. from s) (asks-received-is workers w f.0 f.1)))
      (sym (ap (λ to. to w) (asks-sent-is sessions s n.0 n.1)))
      (prefix-longer _ _ (option_to_list (waiting_for n.0.links w)) both.asks)

  answers-begin : (s w : ℕ) → s < length sessions → w < length workers
      → AreInOrder workers sessions s w
      → IsPrefix (answers_received sessions s w) (answers_sent workers w s)
  answers-begin s w lt less order =
      let n = pick sessions s lt in
      let f = pick workers w less in
      let both : InOrder n.0 s f.0 w = order n.0 f.0 n.1 f.1 in
      subst₂ (λ xs ys. IsPrefix xs ys) (sym (ap (λ from. from w) (answers-received-is sessions s n.0 n.1)))
      (sym (ap (λ to. to s) (answers-sent-is workers w f.0 f.1)))
      (prefix-longer _ _ (option_to_list (connection_of f.0.connections.items s).waiting)
      both.answers)

  drawn-once : (own : ℕ → WorkerData D)
      → ((k : ℕ) (party : WorkerParty D I F d i) → IsAt workers k party → IsDataOf party (own k))
      → (number : ℕ) → sum_below (length workers) (λ k. among number (own k).view.drawn) ≤ 1
  drawn-once own own_is number =
      let same = sum-same (length workers) (λ k. among number (drawn_by workers k))
      (λ k. among number (own k).view.drawn) (λ k lt.
      let p = pick workers k lt in
      ap (λ (mine : WorkerData D). among number mine.view.drawn) (own_is k p.0 p.1).is
      ∙ ap (among number) (sym (drawn-is workers k p.0 p.1))) in
      let apart = linked.apart number in
      let once = below-once number kept in
      omega (arith, same, apart, once)

  view-start : (views : ℕ → View) → ((s : ℕ) (party : SessionParty So Si F so si)
      → IsAt sessions s party → IsViewOf party (views s)) → (s : ℕ) → s < length sessions
      → (views s).start ≡ start - 1 + 1
  view-start views are s lt =
      let p = pick sessions s lt in
      let from : start ≡ start - 1 + 1 = omega (arith, linked.started.0) in
      ap (λ (v : View). v.start) (are s p.0 p.1).is ∙ (linked.session_fits s p.0 p.1).start_is
      ∙ from

  -- all parties keep their promises, and the workers answered these pairs
  pub record KeepTold (before : ℕ → List Write) (pairs : ℕ → List Pair) : Type 0 where
    pub promises : KeepPromises workers sessions start before
    pub told : (k : ℕ) (lt : k < length workers)
        → done_pairs (promises.keep.workers k lt).groups.history ≡ pairs k

  abbrev pub SessionsKeep : Type 0
  SessionsKeep = (answered : ℕ → (List (List Pair) × List Request × View))
      × ((k : ℕ) → k < length sessions → SessionKeeps k (answered k))

  pub sessions-keep : ∥ SessionsKeep ∥₁
  sessions-keep = choose-each (length sessions) SessionKeeps linked.some_sessions session-keeps

  pub keep-told : (before : ℕ → List Write) (pairs : ℕ → List Pair) → AllHold workers before pairs
      → ((s w : ℕ) → AreInOrder workers sessions s w) → SessionsKeep → KeepTold before pairs
  keep-told before pairs all order theirs =
      let mine = chosen (length workers) (WorkerKeeps before pairs) linked.some_workers
      (worker-keeps before pairs all) in
      let own_is : (k : ℕ) (party : WorkerParty D I F d i) → IsAt workers k party
      → IsDataOf party (mine.0 k) = λ k party at. (mine.1 k at.0).0 party at in
      record {
        promises = record {
          own = mine.0;
          own_is = own_is;
          groups = λ s. (theirs.0 s).0;
          requests = λ s. (theirs.0 s).1;
          views = λ s. (theirs.0 s).2;
          views_are = λ s party at. (theirs.1 s at.0).1 party at;
          courses = λ s party at. (theirs.1 s at.0).0 party at;
          keep = record {
            workers = λ w lt. (mine.1 w lt).1.0;
            sessions = λ s lt. (theirs.1 s lt).2;
            asks = λ s w lt less. asks-begin s w lt less (order s w);
            answers = λ s w lt less. answers-begin s w lt less (order s w);
            apart = drawn-once mine.0 own_is;
            started = view-start (λ s. (theirs.0 s).2) (λ s party at. (theirs.1 s at.0).1 party at);
            limit = omega (arith, linked.started);
          };
        };
        told = λ k lt. (mine.1 k lt).1.1;
      }

  pub promises-kept : (before : ℕ → List Write)
      → HaveBegun d i (first_workers workers) start before
      → ((s w : ℕ) → AreInOrder workers sessions s w)
      → ∥ KeepPromises workers sessions start before ∥₁
  promises-kept before begun order = ∥∥₁_map₂ (all-hold before begun) sessions-keep
      (λ (all : (pairs : ℕ → List Pair) × AllHold workers before pairs) (theirs : SessionsKeep).
      (keep-told before all.0 all.1 order theirs).promises)
