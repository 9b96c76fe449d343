-- What stands of parties whose sessions have ended.
use Rattle.std.proofs.Common.{◌≡◌, ℕ, zero, suc, ◌≤◌, List, [], ◌∷◌, ◌++◌, length}
use Rattle.std.proofs.Common.{map, Option, Some, None, Bool, true, false, IsSome, refl, sym, ap, ◌∙◌}
use Rattle.std.proofs.Common.{subst, subst₂, arith, true≢false}
use Rattle.std.proofs.Math.Logic.{∥∥₁_map}
use Rattle.std.proofs.lemmas.List.{length-map}
use Rattle.std.proofs.lemmas.List.Elements.{filter_map-append}
use Rattle.std.specs.List.{AllByRecursion, list_any}
use Rattle.std.specs.Prelude.{◌||◌}
use Rattle.atomic_table.specs.Seated.{TableId}
use Rattle.kv_base.specs.Crash.{Same}
use Rattle.kv_base.specs.declared.reply.Reply.{Reply}
use Rattle.kv_base.specs.declared.reply.Reply.TheVariants.{StampsSpent}
use Rattle.kv_base.specs.declared.request.Request.{Request}
use Rattle.kv_base.specs.declared.request.Request.TheVariants.{Put, Get, Delete, Flush, After}
use Rattle.kv_base.specs.declared.sink.Sink as sinks
use Rattle.kv_base.specs.declared.source.Source as sources
use Rattle.kv_disk.specs.declared.disk.Disk as disks
use Rattle.kv_index.specs.declared.index.Index as indexes
use Rattle.kv_model.specs.Agreement.{IsAnswer, IsCounterAnswer}
use Rattle.kv_model.specs.History.{Write}
use Rattle.kv_model.specs.Layout.{Layout}
use Rattle.kv_model.specs.Pairs.{Pair, key_of, noted_by, noted_stamps, pairs_in, writes}
use Rattle.kv_parties.specs.Begun.{IsBefore, all_before}
use Rattle.kv_parties.specs.Causes.{HasCauses, IsSpentAt, any_unsure}
use Rattle.kv_parties.specs.Joined.{Parties, NonePassed, NoneWaits, Stands, all_answered}
use Rattle.kv_parties.specs.Laws.{CountsAll}
use Rattle.kv_parties.specs.Promises.{WorkerData}
use Rattle.kv_parties.specs.Recovered.{LeavesPrefixes}
use Rattle.kv_parties.specs.Rows.{row}
use Rattle.kv_parties.specs.Sessions.{greatest}
use Rattle.kv_parties.specs.Setting.{Setting, owned_pairs}
use Rattle.kv_parties.proofs.Causing.{some-owner, unsure-among, unsure-owner}
use Rattle.kv_parties.proofs.Lists.{All-In, In-All}
use Rattle.kv_parties.proofs.Spending.{answered_few}
use Rattle.kv_session.specs.Passage.{HasSession, Streams}
use Rattle.kv_session.specs.Session.{SessionState}
use Rattle.kv_session.specs.declared.ending.Ending.{Ending}
use Rattle.kv_session.specs.declared.ending.SessionParts.{SessionParts}
use Rattle.kv_session_party.specs.Promise.{HasCourse}
use Rattle.kv_session_party.specs.declared.party.SessionParty.{SessionParty}
use Rattle.kv_stamps.specs.declared.view.Range.{Range}
use Rattle.kv_worker.specs.Worker.{WorkerView}
use Rattle.kv_worker_party.specs.declared.party.WorkerParty.{WorkerParty}
use Rattle.kv_mesh.specs.EndLaws.{EndLaws}
use Rattle.kv_mesh.specs.Finished.{parts_of}
use Rattle.kv_mesh.specs.Linked.{AreLinked, first_sessions, first_workers, setting_for}
use Rattle.kv_mesh.specs.Mesh.{any_closed}
use Rattle.kv_mesh.specs.Places.{IsAt}
use Rattle.kv_mesh.specs.Refusals.{IsSpentBy, RefusesForCause, count_keyed}
use Rattle.kv_mesh.specs.Running.{AreOver}
use Rattle.kv_mesh.specs.Served.{RanToEnd, Serves, ServesInAll, pairs_of_all}
use Rattle.kv_mesh.specs.Settled.{AreInOrder, HaveBegun}
use Rattle.kv_mesh.specs.Standing.{KeepPromises, parties_of, streams_of}
use Rattle.kv_mesh.proofs.PlaceLemmas.{given-is, pick}
use Rattle.kv_mesh.proofs.PromiseLemmas.{promises-kept, waits-is}

-- two truth values of which each follows from the other
same-truth : (a b : Bool) → (a ≡ true → b ≡ true) → (b ≡ true → a ≡ true) → a ≡ b
same-truth true b to from = sym (to refl)
same-truth false true to from = from refl
same-truth false false to from = refl

module _ {X : Type 0} (p : X → Bool) where
  any-at : (xs : List X) → list_any p xs ≡ true → (k : ℕ) × (x : X) × IsAt xs k x × (p x ≡ true)
  any-at [] e = absurd (true≢false (sym e))
  any-at (x ∷ xs) e = (elim (p x) as (λ b. p x ≡ b → b || list_any p xs ≡ true
      → (k : ℕ) × (y : X) × IsAt (x ∷ xs) k y × (p y ≡ true)) [
        | true ↦ λ is any. (0, x, (omega arith, refl), is)
        | false ↦ λ is any.
            let r = any-at xs any in
            (suc r.0, r.1, (omega (arith, r.2.0), r.2.1), r.3)
      ]) refl e

  at-any : (xs : List X) (k : ℕ) (x : X) → IsAt xs k x → p x ≡ true → list_any p xs ≡ true
  at-any [] k x a e = absurd (omega (arith, a.0))
  at-any (y ∷ xs) zero x a e =
      ap (λ b. b || list_any p xs) (ap p (sym a.1) ∙ e)
  at-any (y ∷ xs) (suc k) x a e = (elim (p y) as (λ b. b || list_any p xs ≡ true) [
    | true ↦ refl
    | false ↦ at-any xs k x (omega (arith, a.0), a.1) e
  ])

-- a request that met no stamps left is about a key
spent-keyed : (told : Bool) (layout : Layout) (history : List Write) (request : Request)
    (reply : Reply) → IsAnswer told layout history request reply → (number : ℕ)
    → reply ≡ StampsSpent number → (key : List ℕ) × (key_of request ≡ Some key)
spent-keyed told layout history (Put key value) reply answer number e = (key, refl)
spent-keyed told layout history (Get key) reply answer number e = (key, refl)
spent-keyed told layout history (Delete key) reply answer number e = (key, refl)
spent-keyed told layout history Flush reply answer number e = absurd answer
spent-keyed told layout history (After stamp) reply answer number e =
    absurd (subst (IsCounterAnswer stamp) e answer)

-- the stamps that were noted in rows of pairs
noted-row : (n : ℕ) (pairs : ℕ → List Pair)
    → noted_stamps (row n pairs) ≡ row n (λ k. noted_stamps (pairs k))
noted-row zero pairs = refl
noted-row (suc n) pairs =
    filter_map-append (λ (p : Pair). noted_by p.request p.reply) (row n pairs) (pairs n)
    ∙ ap (λ (xs : List ℕ). xs ++ noted_stamps (pairs n)) (noted-row n pairs)

-- what stands at the place of a list that f made
at-map : {X Y : Type 0} (f : X → Y) (xs : List X) (k : ℕ) (x : X) (y : Y) → IsAt xs k x
    → IsAt (map f xs) k y → f x ≡ y
at-map f xs k x y a b = sym (b.1 ∙ given-is f y xs k x a)

-- a session that has ended has its transcript, and waits no more
course-over : {So Si : Type 0} (streams : Streams So Si) (source : So) (sink : Si)
    (groups : List (List Pair)) (requests : List Request) (waiting : Bool)
    (now : SessionState So Si) (ending : Option Ending)
    → HasCourse streams source sink groups requests waiting now ending → IsSome ending
    → (end : Ending) × (ending ≡ Some end)
    × HasSession streams source now.source sink now.sink end groups × (waiting ≡ false)
course-over streams source sink groups requests waiting now None course some =
    absurd (true≢false (sym some))
course-over streams source sink groups requests waiting now (Some end) course some =
    (end, refl, course.0, course.1)

-- causes without the seat that met the end of stamps
refuses : (setting : Setting) (w : ℕ) (before : List Write) (runs : List Range)
    (faults faults' : ℕ) (closed : Bool) (pairs : List Pair)
    → HasCauses setting w before runs faults faults' closed pairs
    → RefusesForCause setting w before faults faults' closed pairs
refuses setting w before runs faults faults' closed pairs causes = record {
  faulty = causes.faulty;
  rose = causes.rose;
  unsure = causes.unsure;
  closed_is = causes.closed_is;
  closes = causes.closes;
  full = causes.full;
}

module _ {So Si D I F : Type 0} {so : sources.Ghosts So} {si : sinks.Ghosts Si}
    {d : disks.Ghosts D} {i : indexes.Ghosts I} (laws : EndLaws F D d)
    (workers : List (WorkerParty D I F d i)) (sessions : List (SessionParty So Si F so si))
    (start : ℕ) (before : ℕ → List Write)
    (is_before : IsBefore (setting_for workers sessions start) before) (over : AreOver sessions)
    (k : KeepPromises workers sessions start before) where
  abbrev setting : Setting
  setting = setting_for workers sessions start

  abbrev parties : Parties F D
  parties = parties_of workers sessions before k.own k.groups k.requests k.views

  abbrev pairs : List Pair
  pairs = pairs_of_all (length sessions) k.groups

  ended : (s : ℕ) (party : SessionParty So Si F so si) → IsAt sessions s party
      → (end : Ending) × (party.session.ending ≡ Some end)
      × HasSession (streams_of so si) party.first.value.source party.session.source
      party.first.value.sink party.session.sink end (k.groups s) × (party.waiting ≡ false)
  ended s party at = course-over (streams_of so si) party.first.value.source
      party.first.value.sink (k.groups s) (k.requests s) party.waiting party.session
      party.session.ending (k.courses s party at) (over s party at)

  quiet : NoneWaits setting parties
  quiet s lt =
      let p = pick sessions s lt in
      waits-is sessions s p.0 p.1 ∙ (ended s p.0 p.1).3

  passed : NonePassed setting parties
  passed = laws.end setting parties k.keep quiet

  stands : Stands d setting parties pairs
  stands = (laws.join setting parties is_before k.keep passed).1 quiet

  causes-of : (w : ℕ) (party : WorkerParty D I F d i) → IsAt workers w party
      → RefusesForCause setting w (all_before setting before)
      (d.faults party.first.value.store.disk.disk) (d.faults party.worker.store.disk.disk)
      party.worker.store.closed pairs
  causes-of w party at = subst (λ (o : WorkerData D). RefusesForCause setting w
      (all_before setting before) (d.faults o.first) (d.faults o.now) o.closed pairs)
      (k.own_is w party at).is (refuses setting w (all_before setting before)
      (k.own w).view.spent (d.faults (k.own w).first) (d.faults (k.own w).now) (k.own w).closed pairs
      (stands.causes w at.0))

  leaves-of : (w : ℕ) (party : WorkerParty D I F d i) → IsAt workers w party
      → LeavesPrefixes d setting w party.first.value.store.disk.disk
      party.worker.store.disk.disk (all_before setting before) pairs
  leaves-of w party at = subst (λ (o : WorkerData D). LeavesPrefixes d setting w o.first o.now
      (all_before setting before) pairs) (k.own_is w party at).is (stands.leaves w at.0)

  unsure-is : any_closed workers ≡ any_unsure pairs
  unsure-is = same-truth (any_closed workers) (any_unsure pairs)
      (λ any.
      let r = any-at (λ (p : WorkerParty D I F d i). p.worker.store.closed) workers any in
      unsure-among (length workers) r.0 pairs
      (sym (causes-of r.0 r.1 r.2).closed_is ∙ r.3))
      (λ any.
      let o = unsure-owner setting (all_before setting before) pairs is_before.some_worker
      stands.right any in
      let p = pick workers o.0 o.1 in
      at-any (λ (p : WorkerParty D I F d i). p.worker.store.closed) workers o.0 p.0 p.1
      ((causes-of o.0 p.0 p.1).closed_is ∙ o.2))

  -- it serves
  pub serves : Serves d (streams_of so si) setting before (first_workers workers)
      (first_sessions sessions) (map (λ party. party.worker) workers) (map (λ party. parts_of party.session) sessions)
      (any_closed workers)
  serves = record {
    groups = k.groups;
    many_workers = length-map workers (λ (p : WorkerParty D I F d i). p.worker)
        ∙ sym (length-map workers (λ (p : WorkerParty D I F d i). p.first.value));
    many_sessions = length-map sessions (λ (p : SessionParty So Si F so si). parts_of p.session)
        ∙ sym (length-map sessions (λ (p : SessionParty So Si F so si). p.first.value));
    transcripts = λ s first last a b.
        let p = pick sessions s (omega (
          arith,
          a.0,
          length-map sessions (λ (p : SessionParty So Si F so si). p.first.value),
        )) in
        let e = ended s p.0 p.1 in
        subst₂ (λ (f : SessionState So Si) (l : SessionParts So Si). RanToEnd (streams_of so si) f l (k.groups s))
        (at-map (λ (p : SessionParty So Si F so si). p.first.value) sessions s p.0 first p.1 a)
        (at-map (λ (p : SessionParty So Si F so si). parts_of p.session) sessions s p.0 last p.1 b)
        (record { ending = e.0; ending_is = e.1; session = e.2 });
    right = stands.right;
    ordered = stands.ordered;
    counter = stands.counter;
    causes = λ w first last a b.
        let p = pick workers w (omega (
          arith,
          a.0,
          length-map workers (λ (p : WorkerParty D I F d i). p.first.value),
        )) in
        subst₂ (λ (f l : WorkerView D I). RefusesForCause setting w (all_before setting before)
        (d.faults f.store.disk.disk) (d.faults l.store.disk.disk) l.store.closed pairs)
        (at-map (λ (p : WorkerParty D I F d i). p.first.value) workers w p.0 first p.1 a)
        (at-map (λ (p : WorkerParty D I F d i). p.worker) workers w p.0 last p.1 b)
        (causes-of w p.0 p.1);
    leaves = λ w first last a b.
        let p = pick workers w (omega (
          arith,
          a.0,
          length-map workers (λ (p : WorkerParty D I F d i). p.first.value),
        )) in
        subst₂ (λ (f l : WorkerView D I). LeavesPrefixes d setting w f.store.disk.disk
        l.store.disk.disk (all_before setting before) pairs)
        (at-map (λ (p : WorkerParty D I F d i). p.first.value) workers w p.0 first p.1 a)
        (at-map (λ (p : WorkerParty D I F d i). p.worker) workers w p.0 last p.1 b)
        (leaves-of w p.0 p.1);
    past = λ w first last a b.
        let p = pick workers w (omega (
          arith,
          a.0,
          length-map workers (λ (p : WorkerParty D I F d i). p.first.value),
        )) in
        subst₂ (λ (f l : WorkerView D I). (moment : ℕ) → moment ≤ d.calls f.store.disk.disk
        → Same (d.leaves f.store.disk.disk moment) (d.leaves l.store.disk.disk moment))
        (at-map (λ (p : WorkerParty D I F d i). p.first.value) workers w p.0 first p.1 a)
        (at-map (λ (p : WorkerParty D I F d i). p.worker) workers w p.0 last p.1 b)
        (k.own_is w p.0 p.1).past;
    unsure_is = unsure-is;
  }

  -- the greatest of the floor and the stamps that were noted
  abbrev known : ℕ
  known = greatest setting.floor (noted_stamps pairs)

  -- each request that met no stamps left did so at the end of all numbers
  spent-of : (next : ℕ) → CountsAll setting parties next
      → AllByRecursion (IsSpentBy known (count_keyed pairs)) pairs
  spent-of next counts = In-All (IsSpentBy known (count_keyed pairs)) pairs (λ p is number e.
      let history = all_before setting before ++ writes pairs in
      let answer = All-In (λ (q : Pair). IsAnswer setting.told setting.layout history q.request
      q.reply) p pairs stands.right.replies is in
      let about = spent-keyed setting.told setting.layout history p.request p.reply answer number e
      in
      let o = some-owner setting pairs is_before.some_worker p about is in
      let first = All-In (IsSpentAt (k.own o.0).view.spent) p
      (owned_pairs setting.workers o.0 pairs) (stands.causes o.0 o.1).spent o.2 number e in
      let cause = laws.spent setting parties next is_before k.keep passed counts o.0 number o.1
      first in
      let few : length (all_answered setting parties) ≤ count_keyed pairs =
      answered_few d setting parties is_before k.keep passed quiet in
      let noted = ap (greatest setting.floor)
      (noted-row (length sessions) (λ s. pairs_in (k.groups s))) in
      (omega (arith, cause.0, few, noted), cause.1))

  -- and it does so in all
  pub serves-in-all : (next : ℕ) → CountsAll setting parties next
      → ServesInAll d (streams_of so si) setting before (first_workers workers)
      (first_sessions sessions) (map (λ party. party.worker) workers) (map (λ party. parts_of party.session) sessions)
      (any_closed workers)
  unfolding serves
  serves-in-all next counts = record { serves = serves; spent = spent-of next counts }

module _ {So Si D I F : Type 0} {so : sources.Ghosts So} {si : sinks.Ghosts Si}
    {d : disks.Ghosts D} {i : indexes.Ghosts I} (workers : List (WorkerParty D I F d i))
    (sessions : List (SessionParty So Si F so si)) (counter : TableId) (start kept : ℕ)
    (linked : AreLinked workers sessions counter start kept) where
  -- what stands where all sessions have ended, of the parts that were handed out
  pub finished-serves : EndLaws F D d → AreOver sessions
      → ((s w : ℕ) → AreInOrder workers sessions s w) → (ended : List (WorkerView D I))
      (parts : List (SessionParts So Si)) (unsure : Bool)
      → ended ≡ map (λ (p : WorkerParty D I F d i). p.worker) workers
      → parts ≡ map (λ (p : SessionParty So Si F so si). parts_of p.session) sessions
      → unsure ≡ any_closed workers → (before : ℕ → List Write)
      → HaveBegun d i (first_workers workers) start before
      → IsBefore (setting_for workers sessions start) before
      → ∥ Serves d (streams_of so si) (setting_for workers sessions start) before
      (first_workers workers) (first_sessions sessions) ended parts unsure ∥₁
  finished-serves laws over order ended parts unsure e₁ e₂ e₃ before begun is_before = ∥∥₁_map
      (promises-kept workers sessions counter start kept linked before begun order)
      (λ (k : KeepPromises workers sessions start before).
      subst (λ z. Serves d (streams_of so si) (setting_for workers sessions start) before
      (first_workers workers) (first_sessions sessions) ended parts z) (sym e₃)
      (subst (λ z. Serves d (streams_of so si) (setting_for workers sessions start) before
      (first_workers workers) (first_sessions sessions) ended z (any_closed workers)) (sym e₂)
      (subst (λ z. Serves d (streams_of so si) (setting_for workers sessions start) before
      (first_workers workers) (first_sessions sessions) z
      (map (λ (p : SessionParty So Si F so si). parts_of p.session) sessions)
      (any_closed workers)) (sym e₁)
      (serves laws workers sessions start before is_before over k))))
