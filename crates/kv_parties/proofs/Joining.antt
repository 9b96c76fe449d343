-- The promises of all parties together.
use Rattle.std.proofs.Common.{◌≡◌, ◌⊎◌, inl, inr, ⊎_elim, Option, None, ℕ, zero, suc, ◌+◌}
use Rattle.std.proofs.Common.{◌^◌, ◌<◌, ◌≤◌, List}
use Rattle.std.proofs.Common.{[], ◌∷◌, ◌++◌, map, true, false, cond, refl, sym, ap, ◌∙◌}
use Rattle.std.proofs.Common.{subst, arith, append-nil}
use Rattle.std.specs.Prelude.{nat_eq, IsSome, IfSome}
use Rattle.std.specs.List.{AllByRecursion, filter}
use Rattle.kv_base.specs.Partition.{owner_of}
use Rattle.kv_stamps.specs.Ranges.{among}
use Rattle.kv_stamps.specs.declared.view.Range.{Range}
use Rattle.kv_model.specs.History.{Write}
use Rattle.kv_model.specs.Pairs.{Pair, writes, stamps, counter_by, counter_numbers, pairs_in}
use Rattle.kv_model.specs.Pairs.{key_of}
use Rattle.kv_model.specs.Agreement.{IsAnswer}
use Rattle.kv_model.specs.Order.{RespectsOrder, IsCountedAfter}
use Rattle.kv_model.specs.Pairwise.{Pairwise}
use Rattle.kv_model.proofs.CounterLemmas.{keyed-counts}
use Rattle.kv_parties.specs.Rows.{sum_below, row}
use Rattle.kv_parties.specs.Setting.{Setting, IsOwned}
use Rattle.kv_parties.specs.Groups.{Asked, Answers}
use Rattle.kv_parties.specs.Workers.{Done, done_pairs, done_for}
use Rattle.kv_parties.specs.Sessions.{Handled, IsHandled, Exchange, IsExchange, IsLook}
use Rattle.kv_parties.specs.Sessions.{exchange_pairs}
use Rattle.kv_parties.specs.Sessions.{part_of}
use Rattle.kv_parties.specs.Sessions.{all_asked}
use Rattle.kv_parties.specs.Begun.{IsBefore}
use Rattle.kv_parties.proofs.Rings.{Rings, Course, RingsKeep, IsQuiet, rings_answered}
use Rattle.kv_parties.proofs.Rings.{courses_pairs}
use Rattle.kv_parties.proofs.Lists.{In, eq_self, count, In-left, All-In, In-row}
use Rattle.kv_parties.proofs.Lists.{In-row-back, In-filter, In-filter-back, In-map, In-map-back}
use Rattle.kv_parties.proofs.Lists.{In-filter_map-back}
use Rattle.kv_parties.proofs.Lists.{In-flat_map-back, flat_map-append, count-within, sum_below-le}
use Rattle.kv_parties.proofs.Lists.{sum_below-same, sum_below-zero, sum_below-add, sum_below-swap}
use Rattle.kv_parties.proofs.Lists.{sum_below-one, at_least}
use Rattle.kv_parties.proofs.Owned.{IsHere, IsGiven}
use Rattle.kv_parties.proofs.Agreeing.{weigh, weigh-append, Owns, Fits}
use Rattle.kv_parties.proofs.Parts.{here, all_parts, IsOrdered}
use Rattle.kv_parties.proofs.Parts.{parts_ordered, owner-lt, routed_to_owner, weigh-exchanges}
use Rattle.kv_parties.proofs.Parts.{exchanges-weigh, counted_exchanges}
use Rattle.kv_parties.proofs.Parts.{across_exchanges, within_exchanges, in_answered, out_answered}
use Rattle.kv_parties.proofs.Coming.{Answers-fewer, SessionPairs, heard_answers, pairs_of_session}

weigh-row : (f : Pair → ℕ) (n : ℕ) (g : ℕ → List Pair)
    → weigh f (row n g) ≡ sum_below n (λ s. weigh f (g s))
weigh-row f zero g = refl
weigh-row f (suc n) g = omega (arith, weigh-append f (row n g) (g n), weigh-row f n g)

done-step : (f : Pair → ℕ) (d : Done) (history : List Done) (s : ℕ)
    → weigh f (done_for s (d ∷ history))
    ≡ cond (nat_eq d.session s) (f d.pair) 0 + weigh f (done_for s history)
done-step f d history s = elim (nat_eq d.session s) as (λ b. weigh f (done_pairs
    (cond b (d ∷ filter (λ (e : Done). nat_eq e.session s) history)
    (filter (λ (e : Done). nat_eq e.session s) history)))
    ≡ cond b (f d.pair) 0 + weigh f (done_for s history)) [
      | true ↦ refl
      | false ↦ omega arith
    ]

-- what was done for each session is no more than what was done
weigh-done : (f : Pair → ℕ) (n : ℕ) (history : List Done)
    → sum_below n (λ s. weigh f (done_for s history)) ≤ weigh f (done_pairs history)
weigh-done f n [] = omega (arith, sum_below-zero n)
weigh-done f n (d ∷ history) =
    omega (
      arith,
      sum_below-same n (λ s. weigh f (done_for s (d ∷ history)))
          (λ s. cond (nat_eq d.session s) (f d.pair) 0 + weigh f (done_for s history))
          (λ s lt. done-step f d history s),
      sum_below-add n (λ s. cond (nat_eq d.session s) (f d.pair) 0)
          (λ s. weigh f (done_for s history)),
      sum_below-one n d.session (f d.pair),
      weigh-done f n history,
    )

-- and what was done is no more, where each session is one of these
weigh-known : (f : Pair → ℕ) (n : ℕ) (history : List Done)
    → AllByRecursion (λ done. done.session < n) history
    → weigh f (done_pairs history) ≤ sum_below n (λ s. weigh f (done_for s history))
weigh-known f n [] known = omega arith
weigh-known f n (d ∷ history) known =
    omega (
      arith,
      sum_below-same n (λ s. weigh f (done_for s (d ∷ history)))
          (λ s. cond (nat_eq d.session s) (f d.pair) 0 + weigh f (done_for s history))
          (λ s lt. done-step f d history s),
      sum_below-add n (λ s. cond (nat_eq d.session s) (f d.pair) 0)
          (λ s. weigh f (done_for s history)),
      at_least n d.session (f d.pair) known.0,
      weigh-known f n history known.1,
    )

module _ (setting : Setting) (before : ℕ → List Write) (rings : Rings) (ranges : ℕ → List Range)
    (courses : ℕ → Course) (keep : RingsKeep setting before rings ranges courses)
    (base : IsBefore setting before) where
  of_session : (s : ℕ) → s < setting.sessions
      → SessionPairs setting (rings.asked s) (rings.heard s) (courses s).groups (courses s).waiting
  of_session s lt = pairs_of_session setting before rings ranges courses keep s lt

  pub decide : (w : ℕ) → (w < setting.workers) ⊎ (setting.workers ≤ w)
  decide w = grind arith

  abbrev pub own_of : (w : ℕ) → (w < setting.workers) ⊎ (setting.workers ≤ w) → List Pair
  own_of w (inl lt) = done_pairs (keep.workers w lt).history
  own_of w (inr le) = []

  abbrev pub own : ℕ → List Pair
  own w = own_of w (decide w)

  -- a fact on each worker's history is one on its own pairs
  -- and one on a worker's history is one on its own pairs
  pub of_own : (w : ℕ) (P : List Pair → Type 0)
      → ((lt : w < setting.workers) → P (done_pairs (keep.workers w lt).history))
      → w < setting.workers → P (own w)
  of_own w P h lt = go (decide w)
    where
      go : (e : (w < setting.workers) ⊎ (setting.workers ≤ w)) → P (own_of w e)
      go (inl less) = h less
      go (inr le) = absurd (omega arith)

  each_own : (P : ℕ → List Pair → Type 0)
      → ((w : ℕ) (lt : w < setting.workers) → P w (done_pairs (keep.workers w lt).history))
      → (w : ℕ) → w < setting.workers → P w (own w)
  each_own P h w lt = go (decide w)
    where
      go : (e : (w < setting.workers) ⊎ (setting.workers ≤ w)) → P w (own_of w e)
      go (inl less) = h w less
      go (inr le) = absurd (omega arith)

  history_sent : (w : ℕ) (lt : w < setting.workers) (p : Pair)
      → In p (done_pairs (keep.workers w lt).history)
      → (s : ℕ) × (s < setting.sessions) × In p (pairs_in (rings.answered w s))
  history_sent w lt p i =
      let history : List Done = (keep.workers w lt).history in
      let back = In-map-back (λ (d : Done). d.pair) p history i in
      let is = All-In (λ (d : Done). d.session < setting.sessions) back.0 history
      (keep.workers w lt).known back.2 in
      let kept = In-filter (λ (d : Done). nat_eq d.session back.0.session) back.0 history
      (eq_self back.0.session) back.2 in
      let there : In p (done_for back.0.session history) =
      subst (λ q. In q (done_for back.0.session history)) back.1
      (In-map (λ (d : Done). d.pair) back.0
      (filter (λ (d : Done). nat_eq d.session back.0.session) history) kept) in
      (back.0.session, is, subst (In p) (sym ((keep.workers w lt).parts back.0.session is)) there)

  pub owns : Owns setting before own ranges
  owns = record {
    counted = each_own (λ w ps. (t : ℕ) → count t (stamps ps) ≤ among t (ranges w))
        (λ w lt. count-within (λ t. among t (ranges w)) (stamps (done_pairs (keep.workers w
        lt).history))
        (keep.workers w lt).rising (keep.workers w lt).drawn);
    replies = each_own (λ w ps. AllByRecursion (λ pair. IsAnswer setting.told setting.layout
        (before w ++ writes ps) pair.request pair.reply) ps)
        (λ w lt. (keep.workers w lt).right.replies);
    owned = each_own (λ w ps. AllByRecursion (λ pair. IsOwned setting.workers w pair.request) ps)
        (λ w lt. (keep.workers w lt).owned);
    apart = keep.apart;
    above = each_own (λ w ps. AllByRecursion (λ t. (setting.floor < t) × (t < 2 ^ 62)) (stamps ps))
        (λ w lt. (keep.workers w lt).right.above);
  }

  -- what was answered to a session is the worker's own
  in_own : (w s : ℕ) (p : Pair) → w < setting.workers → s < setting.sessions
      → In p (pairs_in (rings.answered w s)) → In p (own w)
  in_own w s p lt less = each_own (λ w ps. In p (pairs_in (rings.answered w s)) → In p ps)
      (λ w lt i.
      let history : List Done = (keep.workers w lt).history in
      let there : In p (done_for s history) = subst (In p) ((keep.workers w lt).parts s less) i in
      let back = In-map-back (λ (d : Done). d.pair) p
      (filter (λ (d : Done). nat_eq d.session s) history) there in
      let whole = (In-filter-back (λ (d : Done). nat_eq d.session s) back.0 history back.2).1 in
      subst (λ q. In q (done_pairs history)) back.1
      (In-map (λ (d : Done). d.pair) back.0 history whole)) w lt

  -- and what is the worker's own was answered to a session
  out_own : (w : ℕ) (p : Pair) → w < setting.workers → In p (own w)
      → (s : ℕ) × (s < setting.sessions) × In p (pairs_in (rings.answered w s))
  out_own w p lt = each_own (λ w ps. In p ps → (s : ℕ) × (s < setting.sessions)
      × In p (pairs_in (rings.answered w s))) (λ w lt i. history_sent w lt p i) w lt

  -- all that was answered to sessions is no more than the worker's own
  few : (f : Pair → ℕ) (w : ℕ) → w < setting.workers
      → sum_below setting.sessions (λ s. weigh f (pairs_in (rings.answered w s))) ≤ weigh f (own w)
  few f w lt = each_own (λ w ps.
      sum_below setting.sessions (λ s. weigh f (pairs_in (rings.answered w s))) ≤ weigh f ps)
      (λ w lt. omega (
        arith,
        sum_below-same setting.sessions (λ s. weigh f (pairs_in (rings.answered w s)))
            (λ s. weigh f (done_for s (keep.workers w lt).history))
            (λ s low. ap (weigh f) ((keep.workers w lt).parts s low)),
        weigh-done f setting.sessions (keep.workers w lt).history,
      )) w lt

  -- and the worker's own are no more
  pub many : (f : Pair → ℕ) (w : ℕ) → w < setting.workers
      → weigh f (own w) ≤ sum_below setting.sessions (λ s. weigh f (pairs_in (rings.answered w s)))
  many f w lt = each_own (λ w ps.
      weigh f ps ≤ sum_below setting.sessions (λ s. weigh f (pairs_in (rings.answered w s))))
      (λ w lt. omega (
        arith,
        sum_below-same setting.sessions (λ s. weigh f (pairs_in (rings.answered w s)))
            (λ s. weigh f (done_for s (keep.workers w lt).history))
            (λ s low. ap (weigh f) ((keep.workers w lt).parts s low)),
        weigh-known f setting.sessions (keep.workers w lt).history (keep.workers w lt).known,
      )) w lt

  -- so all of the workers' own are no more than what was answered
  pub all_many : (f : Pair → ℕ) → sum_below setting.workers (λ w. weigh f (own w))
      ≤ weigh f (rings_answered setting rings.answered)
  all_many f =
      let of_worker : ℕ → List Pair =
      λ w. row setting.sessions (λ s. pairs_in (rings.answered w s)) in
      omega (
        arith,
        weigh-row f setting.workers of_worker,
        sum_below-le setting.workers (λ w. weigh f (own w)) (λ w. weigh f (of_worker w))
            (λ w lt. omega (
              arith,
              weigh-row f setting.sessions (λ s. pairs_in (rings.answered w s)),
              many f w lt,
            )),
      )

  -- and no fewer
  pub all_few : (f : Pair → ℕ) → weigh f (rings_answered setting rings.answered)
      ≤ sum_below setting.workers (λ w. weigh f (own w))
  all_few f =
      let of_worker : ℕ → List Pair =
      λ w. row setting.sessions (λ s. pairs_in (rings.answered w s)) in
      omega (
        arith,
        weigh-row f setting.workers of_worker,
        sum_below-le setting.workers (λ w. weigh f (of_worker w)) (λ w. weigh f (own w))
            (λ w lt. omega (
              arith,
              weigh-row f setting.sessions (λ s. pairs_in (rings.answered w s)),
              few f w lt,
            )),
      )

  pub all_fit : Fits setting own (rings_answered setting rings.answered)
  all_fit =
      let of_worker : ℕ → List Pair =
      λ w. row setting.sessions (λ s. pairs_in (rings.answered w s)) in
      record {
        each = λ p i.
            let r = In-row-back p setting.workers of_worker i in
            let q = In-row-back p setting.sessions (λ s. pairs_in (rings.answered r.0 s)) r.2 in
            inl (r.0, r.1, in_own r.0 q.0 p r.1 q.1 q.2);
        all = λ w p lt i.
            let o = out_own w p lt i in
            In-row p setting.workers w of_worker lt
            (In-row p setting.sessions o.0 (λ s. pairs_in (rings.answered w s)) o.1 o.2);
        weighs = λ f none. all_few f;
        holds = all_many;
      }

  -- each part of each exchange of a session was answered in order
  ordered_parts : (s : ℕ) (lt : s < setting.sessions) (w : ℕ) → w < setting.workers
      → AllByRecursion (λ exchange. IsOrdered exchange.seen (part_of setting.workers w
      exchange.handled))
      (of_session s lt).exchanges
  ordered_parts s lt w less =
      let tale = of_session s lt in
      let there : List Asked = all_asked setting.workers w tale.exchanges ++ tale.asking w in
      let whole : Answers there (all_parts setting.workers w tale.exchanges ++ tale.coming w less) =
      subst (Answers there) (tale.answers w less)
      (subst (λ a. Answers a (rings.heard s w)) (tale.asks w less)
      (heard_answers setting before rings ranges courses keep s lt w less)) in
      parts_ordered setting.workers w tale.exchanges (tale.asking w)
      (Answers-fewer there (all_parts setting.workers w tale.exchanges) (tale.coming w less) whole)

  pub ordered_groups : (s : ℕ) → s < setting.sessions → RespectsOrder (courses s).groups
  ordered_groups s lt =
      let tale = of_session s lt in
      subst RespectsOrder (sym tale.same) (record {
        across = across_exchanges setting.layout setting.workers base.some_worker
            tale.exchanges tale.seen tale.handled (ordered_parts s lt);
        within = within_exchanges setting.layout setting.workers base.some_worker
            tale.exchanges tale.handled (ordered_parts s lt);
      })

  -- what a session heard is the exchanges' parts, and what comes
  came : (s : ℕ) (lt : s < setting.sessions) (w : ℕ) (less : w < setting.workers)
      → pairs_in (rings.heard s w) ≡ pairs_in (all_parts setting.workers w (of_session s
      lt).exchanges)
      ++ pairs_in ((of_session s lt).coming w less)
  came s lt w less =
      let tale = of_session s lt in
      ap pairs_in (tale.answers w less) ∙ flat_map-append (λ (pairs : List Pair). pairs)
      (all_parts setting.workers w tale.exchanges) (tale.coming w less)

  came-In : (s : ℕ) (lt : s < setting.sessions) (w : ℕ) (less : w < setting.workers) (p : Pair)
      → In p (pairs_in (all_parts setting.workers w (of_session s lt).exchanges))
      → In p (pairs_in (rings.heard s w))
  came-In s lt w less p i =
      let parts : List Pair = pairs_in (all_parts setting.workers w (of_session s lt).exchanges) in
      let more : List Pair = pairs_in ((of_session s lt).coming w less) in
      let whole : pairs_in (rings.heard s w) ≡ parts ++ more = came s lt w less in
      subst (In p) (sym {b = parts ++ more} whole) (In-left p parts more i)

  -- what a worker answered a session is what this has heard, and more
  answered-heard : (s : ℕ) (lt : s < setting.sessions) (w : ℕ) (less : w < setting.workers) (p :
      Pair)
      → In p (pairs_in (rings.heard s w)) → In p (pairs_in (rings.answered w s))
  answered-heard s lt w less p i =
      let back = keep.answers s w lt less in
      subst (In p) (sym (flat_map-append (λ (pairs : List Pair). pairs) (rings.heard s w) back.0)
      ∙ ap pairs_in back.1)
      (In-left p (pairs_in (rings.heard s w)) (pairs_in back.0) i)

  pub session_fits : (s : ℕ) (lt : s < setting.sessions) (p : Pair)
      → In p (pairs_in (courses s).groups)
      → ((w : ℕ) × (w < setting.workers) × In p (own w)) ⊎ IsHere setting.layout p
  session_fits s lt p i =
      let tale = of_session s lt in
      let g = In-flat_map-back (λ (pairs : List Pair). pairs) p (courses s).groups i in
      let there : In g.0 (map exchange_pairs tale.exchanges) = subst (In g.0) tale.same g.2 in
      let r = In-map-back exchange_pairs g.0 tale.exchanges there in
      let h = In-map-back (λ (x : Handled). x.pair) p r.0.handled (subst (In p) (sym r.1) g.1) in
      let all = All-In (λ (x : Exchange). AllByRecursion (IsGiven setting.layout)
      x.handled)
      r.0 tale.exchanges tale.handled r.2 in
      let is = All-In (IsGiven setting.layout) h.0 r.0.handled all h.2 in
      (elim h.0.routed as (λ b. h.0.routed ≡ b → ((w : ℕ) × (w < setting.workers) × In p (own w))
      ⊎ IsHere setting.layout p) [
        | true ↦ λ e.
            let to = routed_to_owner setting.layout setting.workers base.some_worker
            h.0 is e in
            let w : ℕ = owner_of to.0 setting.workers in
            let less : w < setting.workers =
            owner-lt setting.layout setting.workers base.some_worker to.0 in
            let came_in : In h.0.pair (pairs_in (all_parts setting.workers w tale.exchanges)) =
            in_answered setting.layout setting.workers base.some_worker w h.0 r.0
            tale.exchanges r.2 h.2 to.2 in
            let heard : In p (pairs_in (rings.heard s w)) = came-In s lt w less p
            (subst (λ q. In q (pairs_in (all_parts setting.workers w tale.exchanges))) h.1
            came_in) in
            inl (w, less, in_own w s p less lt (answered-heard s lt w less p heard))
        | false ↦ λ e. inr (subst (IsHere setting.layout) h.1
            (here setting.layout setting.workers base.some_worker h.0 is e))
      ]) refl

  -- a number of the counter that a session tells is above what it had seen
  counter_above : (s : ℕ) (lt : s < setting.sessions) (r : Exchange)
      → In r (of_session s lt).exchanges → (number : ℕ)
      → In number (counter_numbers (exchange_pairs r)) → r.seen < number
  counter_above s lt r j number i =
      let tale = of_session s lt in
      let made = In-filter_map-back (λ (p : Pair). counter_by p.request p.reply) number
      (exchange_pairs r) i in
      let p : Pair = made.0 in
      ⊎_elim
      (λ (all : AllByRecursion (IsHandled setting.layout) r.handled).
      let h = In-map-back (λ (x : Handled). x.pair) p r.handled made.2 in
      let is = All-In (IsHandled setting.layout) h.0 r.handled all h.2 in
      let none : counter_by p.request p.reply ≡ None = keyed-counts p.request p.reply
      (subst (λ (q : Pair). IsSome (key_of q.request)) h.1 is.keyed) in
      let some = made.1 in
      absurd (cc))
      (λ (look : IsLook r).
      let alone : exchange_pairs r ≡ look.pair ∷ [] =
      ap (λ (hs : List Handled). map (λ (x : Handled). x.pair) hs) look.alone in
      let only : look.pair ≡ p = one_of p look.pair (subst (In p) alone made.2) in
      subst (λ (o : Option ℕ). IfSome o (λ number. r.seen < number))
      (ap (λ (q : Pair). counter_by q.request q.reply) only ∙ made.1) look.above)
      (All-In (IsExchange setting.layout) r tale.exchanges tale.kinds j)
    where
      one_of : (p q : Pair) → In p (q ∷ []) → q ≡ p
      one_of p q (inl e) = e
      one_of p q (inr i) = absurd i

  pub counted_groups : (s : ℕ) → s < setting.sessions → Pairwise IsCountedAfter (courses s).groups
  counted_groups s lt =
      let tale = of_session s lt in
      subst (Pairwise IsCountedAfter) (sym tale.same)
      (counted_exchanges setting.layout setting.workers base.some_worker tale.exchanges tale.seen
      (λ r i number k. counter_above s lt r i number k))

  module _ (quiet : IsQuiet setting rings courses) where
    came_all : (s : ℕ) (lt : s < setting.sessions) (w : ℕ) → w < setting.workers
        → pairs_in (rings.answered w s) ≡ pairs_in (all_parts setting.workers w (of_session s
        lt).exchanges)
    came_all s lt w less =
        let tale = of_session s lt in
        let none : tale.coming w less ≡ [] = tale.none (quiet.waits s lt) w less in
        ap pairs_in (sym (quiet.heard s w lt less)) ∙ (came s lt w less
        ∙ (ap (λ c. pairs_in (all_parts setting.workers w tale.exchanges) ++ pairs_in c) none
        ∙ append-nil (pairs_in (all_parts setting.workers w tale.exchanges))))

    pub sessions_fit : Fits setting own (courses_pairs setting courses)
    sessions_fit = record {
      each = λ p i. let r = In-row-back p setting.sessions (λ s. pairs_in (courses s).groups) i in
          session_fits r.0 r.1 p r.2;
      all = λ w p lt i.
          let o = out_own w p lt i in
          let tale = of_session o.0 o.1 in
          let exchanges_have : In p (pairs_in (all_parts setting.workers w tale.exchanges)) =
          subst (In p) (came_all o.0 o.1 w lt) o.2 in
          let grouped : In p (pairs_in (courses o.0).groups) =
          subst (λ g. In p (pairs_in g)) (sym tale.same)
          (out_answered setting.layout setting.workers base.some_worker w p
          tale.exchanges exchanges_have) in
          In-row p setting.sessions o.0 (λ s. pairs_in (courses s).groups) o.1 grouped;
      weighs = λ f none. omega (
        arith,
        weigh-row f setting.sessions (λ s. pairs_in (courses s).groups),
        sum_below-le setting.sessions (λ s. weigh f (pairs_in (courses s).groups))
            (λ s. sum_below setting.workers (λ w. weigh f (pairs_in (rings.answered w s))))
            (λ s lt.
            let tale = of_session s lt in
            omega (
              arith,
              ap (λ g. weigh f (pairs_in g)) tale.same,
              weigh-exchanges setting.layout setting.workers base.some_worker f none
                  tale.exchanges tale.handled,
              sum_below-same setting.workers (λ w. weigh f (pairs_in (rings.answered w s)))
                  (λ w. weigh f (pairs_in (all_parts setting.workers w tale.exchanges)))
                  (λ w less. ap (weigh f) (came_all s lt w less)),
            )),
        sum_below-swap setting.sessions setting.workers
            (λ s w. weigh f (pairs_in (rings.answered w s))),
        sum_below-le setting.workers
            (λ w. sum_below setting.sessions (λ s. weigh f (pairs_in (rings.answered w s))))
            (λ w. weigh f (own w)) (few f),
      );
      holds = λ f. omega (
        arith,
        weigh-row f setting.sessions (λ s. pairs_in (courses s).groups),
        sum_below-le setting.workers (λ w. weigh f (own w))
            (λ w. sum_below setting.sessions (λ s. weigh f (pairs_in (rings.answered w s))))
            (many f),
        sum_below-swap setting.sessions setting.workers
            (λ s w. weigh f (pairs_in (rings.answered w s))),
        sum_below-le setting.sessions
            (λ s. sum_below setting.workers (λ w. weigh f (pairs_in (rings.answered w s))))
            (λ s. weigh f (pairs_in (courses s).groups))
            (λ s lt.
            let tale = of_session s lt in
            omega (
              arith,
              ap (λ g. weigh f (pairs_in g)) tale.same,
              exchanges-weigh setting.layout setting.workers base.some_worker f tale.exchanges,
              sum_below-same setting.workers (λ w. weigh f (pairs_in (rings.answered w s)))
                  (λ w. weigh f (pairs_in (all_parts setting.workers w tale.exchanges)))
                  (λ w less. ap (weigh f) (came_all s lt w less)),
            )),
      );
    }
