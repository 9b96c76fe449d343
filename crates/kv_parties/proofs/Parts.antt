-- The workers' parts of a session's groups.
use Rattle.std.proofs.Common.{◌≡◌, ◌⊎◌, inl, inr, ⊎_elim, ℕ, ◌+◌, ◌<◌, ◌≤◌, List}
use Rattle.std.proofs.Common.{[], ◌∷◌, ◌++◌, map, Option, None, Some, true, false, cond, refl}
use Rattle.std.proofs.Common.{sym, ap, ◌∙◌, subst, arith}
use Rattle.std.specs.Prelude.{nat_eq, MatchOption, ⊤, ◌&&◌, IsSome}
use Rattle.std.specs.List.{AllByRecursion, filter, flat_map, cons_option}
use Rattle.std.proofs.Math.Nat.{mod-lt}
use Rattle.kv_base.specs.Partition.{owner_of, hash_of}
use Rattle.kv_model.specs.Pairwise.{Pairwise}
use Rattle.kv_model.specs.Layout.{Layout}
use Rattle.kv_model.specs.Pairs.{Pair, stamps, seen_in, counter_numbers, key_of, stamp_of}
use Rattle.kv_model.specs.Pairs.{pairs_in}
use Rattle.kv_model.specs.Order.{IsAfter, IsCountedAfter, Rises, RisesForKey}
use Rattle.kv_parties.specs.Rows.{sum_below}
use Rattle.kv_parties.specs.Setting.{owns}
use Rattle.kv_parties.specs.Groups.{Asked, Answers}
use Rattle.kv_parties.specs.Sessions.{Handled, Exchange, exchange_pairs, goes_to}
use Rattle.kv_parties.specs.Sessions.{part_of}
use Rattle.kv_parties.specs.Sessions.{asked_by, all_asked}
use Rattle.kv_parties.proofs.Lists.{In, eq_self, In-left, In-right, In-append, All-In, In-All}
use Rattle.kv_parties.proofs.Lists.{In-filter, In-filter-back, In-map, In-map-back}
use Rattle.kv_parties.proofs.Lists.{In-filter_map-back, sum_below-same, sum_below-add, at_least}
use Rattle.kv_parties.proofs.Lists.{sum_below-zero, sum_below-one}
use Rattle.kv_parties.proofs.Owned.{IsHere, IsGiven, stampless}
use Rattle.kv_parties.proofs.Agreeing.{weigh, weigh-append, stamp-In}

some-of : {X : Type 0} (o : Option X) → IsSome o → (x : X) × (o ≡ Some x)
some-of None s = absurd (cc)
some-of (Some x) s = (x, refl)

-- the answer to this part, unless the part is empty
abbrev pub answered_by : List Pair → List (List Pair)
answered_by [] = []
answered_by (pair ∷ pairs) = (pair ∷ pairs) ∷ []

-- what this worker, of so many, answered in all exchanges
abbrev pub all_parts : ℕ → ℕ → List Exchange → List (List Pair)
all_parts n w exchanges = flat_map (λ exchange. answered_by (part_of n w exchange.handled))
    exchanges

-- what the worker's part of a exchange keeps
abbrev pub IsOrdered : ℕ → List Pair → Type 0
IsOrdered seen pairs = AllByRecursion (λ stamp. seen < stamp) (stamps pairs) × Pairwise ◌<◌ (stamps
    pairs)

-- each exchange's part is answered in order
pub parts_ordered : (n w : ℕ) (exchanges : List Exchange) (asking : List Asked)
    → Answers (all_asked n w exchanges ++ asking) (all_parts n w exchanges)
    → AllByRecursion (λ exchange. IsOrdered exchange.seen (part_of n w exchange.handled)) exchanges
parts_ordered n w [] asking h = tt
parts_ordered n w (r ∷ exchanges) asking h =
    let later_asks : List Asked = all_asked n w exchanges in
    let later_answers : List (List Pair) = all_parts n w exchanges in
    let rest : Answers (later_asks ++ asking) later_answers
    → AllByRecursion (λ exchange. IsOrdered exchange.seen (part_of n w exchange.handled))
    exchanges =
    parts_ordered n w exchanges asking in
    (elim (part_of n w r.handled) as (λ part.
    Answers ((asked_by r.seen part ++ later_asks) ++ asking) (answered_by part ++ later_answers)
    → IsOrdered r.seen part
    × AllByRecursion (λ exchange. IsOrdered exchange.seen (part_of n w exchange.handled))
    exchanges) [
      | [] ↦ λ g. ((tt, tt), rest g)
      | pair ∷ pairs ↦ λ g. ((g.0.later, g.0.rising), rest g.1)
    ]) h

rises : (p q : Pair) → ((s o : ℕ) → stamp_of p.reply ≡ Some s → stamp_of q.reply ≡ Some o → s < o)
    → Rises p q
rises p q h =
    (elim (stamp_of p.reply) as (λ a. stamp_of p.reply ≡ a → MatchOption a ⊤ (λ stamp.
    MatchOption (stamp_of q.reply) ⊤ (λ other. stamp < other))) [
      | None ↦ λ e. tt
      | Some s ↦ λ e. (elim (stamp_of q.reply) as (λ b. stamp_of q.reply ≡ b
          → MatchOption b ⊤ (λ other. s < other)) [
            | None ↦ λ f. tt
            | Some o ↦ λ f. h s o e f
          ]) refl
    ]) refl

module _ (layout : Layout) (n : ℕ) (some : 1 ≤ n) where
  pub owner-lt : (key : List ℕ) → owner_of key n < n
  owner-lt key = mod-lt (hash_of key) some

  goes-by : (h : Handled) (key : List ℕ) → h.routed ≡ true → key_of h.pair.request ≡ Some key
      → (w : ℕ) → goes_to n w h ≡ nat_eq (owner_of key n) w
  goes-by h key r e w = ap (λ b. b && owns n w (key_of h.pair.request)) r ∙ ap (owns n w) e

  -- a pair that was routed went to the owner of its key
  pub routed_to_owner : (h : Handled) → IsGiven layout h → h.routed ≡ true
      → (key : List ℕ) × (key_of h.pair.request ≡ Some key) × (goes_to n (owner_of key n) h ≡ true)
  routed_to_owner h is r =
      let k = some-of (key_of h.pair.request) (is.keyed r) in
      (k.0, k.1, goes-by h k.0 r k.1 (owner_of k.0 n) ∙ eq_self (owner_of k.0 n))

  -- a pair that wasn't routed is the session's own
  pub here : (h : Handled) → IsGiven layout h → h.routed ≡ false → IsHere layout h.pair
  here h is r = is.here r

  -- a pair with a stamp was routed
  stamped_routed : (h : Handled) (t : ℕ) → IsGiven layout h → stamp_of h.pair.reply ≡ Some t
      → h.routed ≡ true
  stamped_routed h t is e =
      (elim h.routed as (λ b. h.routed ≡ b → b ≡ true) [
        | true ↦ λ r. refl
        | false ↦ λ r.
            let none : None ≡ Some t = sym (stampless layout h.pair (here h is r)) ∙ e in
            absurd (cc)
      ]) refl

  in_part : (h : Handled) (w : ℕ) (handled : List Handled) → goes_to n w h ≡ true → In h handled
      → In h.pair (part_of n w handled)
  in_part h w handled e i = In-map (λ (x : Handled). x.pair) h (filter (goes_to n w) handled)
      (In-filter (goes_to n w) h handled e i)

  -- within a group stamps rise for each key
  within_group : (handled : List Handled) → AllByRecursion (IsGiven layout) handled
      → ((w : ℕ) → w < n → Pairwise ◌<◌ (stamps (part_of n w handled)))
      → Pairwise RisesForKey (map (λ (h : Handled). h.pair) handled)
  within_group [] is parts = tt
  within_group (h ∷ handled) is parts = (
    In-All _ (map (λ (x : Handled). x.pair) handled) (λ q j same.
        let back = In-map-back (λ (x : Handled). x.pair) q handled j in
        let g : Handled = back.0 in
        rises h.pair q (λ s o e f.
        let of_h = routed_to_owner h is.0 (stamped_routed h s is.0 e) in
        let w : ℕ = owner_of of_h.0 n in
        let f_g : stamp_of g.pair.reply ≡ Some o = ap (λ (x : Pair). stamp_of x.reply) back.1 ∙ f
        in
        let is_g : IsGiven layout g = All-In (IsGiven layout) g handled is.1 back.2
        in
        let key_g : key_of g.pair.request ≡ Some of_h.0 =
        ap (λ (x : Pair). key_of x.request) back.1 ∙ (sym same ∙ of_h.1) in
        let to_g : goes_to n w g ≡ true =
        goes-by g of_h.0 (stamped_routed g o is_g f_g) key_g w ∙ eq_self w in
        let opened : Pairwise ◌<◌ (stamps (h.pair ∷ part_of n w handled)) =
        subst (λ b. Pairwise ◌<◌ (stamps (map (λ (x : Handled). x.pair)
        (cond b (h ∷ filter (goes_to n w) handled) (filter (goes_to n w) handled))))) of_h.2
        (parts w (owner-lt of_h.0)) in
        let first : Pairwise ◌<◌ (s ∷ stamps (part_of n w handled)) =
        subst (λ a. Pairwise ◌<◌ (cons_option a (stamps (part_of n w handled)))) e opened in
        All-In (λ z. s < z) o (stamps (part_of n w handled)) first.0
        (stamp-In o g.pair (part_of n w handled) f_g (in_part g w handled to_g back.2)))),
    within_group handled is.1 (λ w lt. smaller w (parts w lt)),
  )
    where
      tail : (a : Option ℕ) (xs : List ℕ) → Pairwise ◌<◌ (cons_option a xs) → Pairwise ◌<◌ xs
      tail None xs p = p
      tail (Some x) xs p = p.1

      smaller : (w : ℕ) → Pairwise ◌<◌ (stamps (part_of n w (h ∷ handled)))
          → Pairwise ◌<◌ (stamps (part_of n w handled))
      smaller w p =
          (elim (goes_to n w h) as (λ b. Pairwise ◌<◌ (stamps (map (λ (x : Handled). x.pair)
          (cond b (h ∷ filter (goes_to n w) handled) (filter (goes_to n w) handled))))
          → Pairwise ◌<◌ (stamps (part_of n w handled))) [
            | true ↦ λ q. tail (stamp_of h.pair.reply) (stamps (part_of n w handled)) q
            | false ↦ λ q. q
          ]) p

  -- whether a worker got a pair, where it is no key's
  goes-none : (h : Handled) (w : ℕ) → key_of h.pair.request ≡ None → goes_to n w h ≡ false
  goes-none h w e = ap (λ o. h.routed && owns n w o) e
      ∙ (elim h.routed as (λ b. (b && false) ≡ false) [
        | true ↦ refl
        | false ↦ refl
      ])

  module _ (f : Pair → ℕ) where
    weigh-part : (h : Handled) (handled : List Handled) (w : ℕ)
        → weigh f (part_of n w (h ∷ handled))
        ≡ cond (goes_to n w h) (f h.pair) 0 + weigh f (part_of n w handled)
    weigh-part h handled w =
        elim (goes_to n w h) as (λ b. weigh f (map (λ (x : Handled). x.pair)
        (cond b (h ∷ filter (goes_to n w) handled) (filter (goes_to n w) handled)))
        ≡ cond b (f h.pair) 0 + weigh f (part_of n w handled)) [
          | true ↦ refl
          | false ↦ omega arith
        ]

    weigh-answered : (part : List Pair) (later : List (List Pair))
        → weigh f (pairs_in (answered_by part ++ later)) ≡ weigh f part + weigh f (pairs_in later)
    weigh-answered [] later = omega arith
    weigh-answered (p ∷ ps) later = weigh-append f (p ∷ ps) (pairs_in later)

    -- a pair of a group counts in one worker's part at most
    counts-no-more : (h : Handled) → sum_below n (λ w. cond (goes_to n w h) (f h.pair) 0) ≤ f h.pair
    counts-no-more h =
        (elim h.routed as (λ b. h.routed ≡ b
        → sum_below n (λ w. cond (goes_to n w h) (f h.pair) 0) ≤ f h.pair) [
          | true ↦ λ r. (elim (key_of h.pair.request) as (λ o. key_of h.pair.request ≡ o
              → sum_below n (λ w. cond (goes_to n w h) (f h.pair) 0) ≤ f h.pair) [
                | None ↦ λ k. omega (
                  arith,
                  sum_below-same n (λ w. cond (goes_to n w h) (f h.pair) 0) (λ w. 0)
                      (λ w lt. ap (λ b. cond b (f h.pair) 0) (goes-none h w k)),
                  sum_below-zero n,
                )
                | Some key ↦ λ k. omega (
                  arith,
                  sum_below-same n (λ w. cond (goes_to n w h) (f h.pair) 0)
                      (λ w. cond (nat_eq (owner_of key n) w) (f h.pair) 0)
                      (λ w lt. ap (λ b. cond b (f h.pair) 0) (goes-by h key r k w)),
                  sum_below-one n (owner_of key n) (f h.pair),
                )
              ]) refl
          | false ↦ λ r. omega (
            arith,
            sum_below-same n (λ w. cond (goes_to n w h) (f h.pair) 0) (λ w. 0)
                (λ w lt. ap (λ b. cond (b && owns n w (key_of h.pair.request)) (f h.pair) 0) r),
            sum_below-zero n,
          )
        ]) refl

    -- the workers' parts are no more than the pairs of the group
    parts-weigh : (handled : List Handled) → sum_below n (λ w. weigh f (part_of n w handled))
        ≤ weigh f (map (λ (x : Handled). x.pair) handled)
    parts-weigh [] = omega (arith, sum_below-zero n)
    parts-weigh (h ∷ handled) = omega (
      arith,
      sum_below-same n (λ w. weigh f (part_of n w (h ∷ handled)))
          (λ w. cond (goes_to n w h) (f h.pair) 0 + weigh f (part_of n w handled))
          (λ w lt. weigh-part h handled w),
      sum_below-add n (λ w. cond (goes_to n w h) (f h.pair) 0)
          (λ w. weigh f (part_of n w handled)),
      counts-no-more h,
      parts-weigh handled,
    )

    pub exchanges-weigh : (exchanges : List Exchange)
        → sum_below n (λ w. weigh f (pairs_in (all_parts n w exchanges)))
        ≤ weigh f (pairs_in (map exchange_pairs exchanges))
    exchanges-weigh [] = omega (arith, sum_below-zero n)
    exchanges-weigh (r ∷ exchanges) =
        let later : ℕ → List (List Pair) = λ w. all_parts n w exchanges in
        omega (
          arith,
          weigh-append f (exchange_pairs r) (pairs_in (map exchange_pairs exchanges)),
          parts-weigh r.handled,
          exchanges-weigh exchanges,
          sum_below-same n
              (λ w. weigh f (pairs_in (answered_by (part_of n w r.handled) ++ later w)))
              (λ w. weigh f (part_of n w r.handled) + weigh f (pairs_in (later w)))
              (λ w lt. weigh-answered (part_of n w r.handled) (later w)),
          sum_below-add n (λ w. weigh f (part_of n w r.handled))
              (λ w. weigh f (pairs_in (later w))),
        )

  module _ (f : Pair → ℕ) (none : (p : Pair) → IsHere layout p → f p ≡ 0) where
    -- a pair of a group counts in a worker's part, or not at all
    counts-once : (h : Handled) → IsGiven layout h
        → f h.pair ≤ sum_below n (λ w. cond (goes_to n w h) (f h.pair) 0)
    counts-once h is =
        (elim h.routed as (λ b. h.routed ≡ b
        → f h.pair ≤ sum_below n (λ w. cond (goes_to n w h) (f h.pair) 0)) [
          | true ↦ λ r.
              let k = routed_to_owner h is r in
              let some_part : f h.pair
              ≤ sum_below n (λ w. cond (nat_eq (owner_of k.0 n) w) (f h.pair) 0) =
              at_least n (owner_of k.0 n) (f h.pair) (owner-lt k.0) in
              omega (
                arith,
                some_part,
                sum_below-same n (λ w. cond (goes_to n w h) (f h.pair) 0)
                    (λ w. cond (nat_eq (owner_of k.0 n) w) (f h.pair) 0)
                    (λ w lt. ap (λ b. cond b (f h.pair) 0) (goes-by h k.0 r k.1 w)),
              )
          | false ↦ λ r. omega (arith, none h.pair (here h is r))
        ]) refl

    -- the pairs of a group are those of the workers' parts, and the session's own
    weigh-parts : (handled : List Handled) → AllByRecursion (IsGiven layout) handled
        → weigh f (map (λ (x : Handled). x.pair) handled)
        ≤ sum_below n (λ w. weigh f (part_of n w handled))
    weigh-parts [] is = omega arith
    weigh-parts (h ∷ handled) is =
        omega (
          arith,
          sum_below-same n (λ w. weigh f (part_of n w (h ∷ handled)))
              (λ w. cond (goes_to n w h) (f h.pair) 0 + weigh f (part_of n w handled))
              (λ w lt. weigh-part f h handled w),
          sum_below-add n (λ w. cond (goes_to n w h) (f h.pair) 0)
              (λ w. weigh f (part_of n w handled)),
          counts-once h is.0,
          weigh-parts handled is.1,
        )

    pub weigh-exchanges : (exchanges : List Exchange)
        → AllByRecursion (λ exchange. AllByRecursion (IsGiven layout) exchange.handled) exchanges
        → weigh f (pairs_in (map exchange_pairs exchanges))
        ≤ sum_below n (λ w. weigh f (pairs_in (all_parts n w exchanges)))
    weigh-exchanges [] is = omega arith
    weigh-exchanges (r ∷ exchanges) is =
        let later : ℕ → List (List Pair) = λ w. all_parts n w exchanges in
        omega (
          arith,
          weigh-append f (exchange_pairs r) (pairs_in (map exchange_pairs exchanges)),
          weigh-parts r.handled is.0,
          weigh-exchanges exchanges is.1,
          sum_below-same n
              (λ w. weigh f (pairs_in (answered_by (part_of n w r.handled) ++ later w)))
              (λ w. weigh f (part_of n w r.handled) + weigh f (pairs_in (later w)))
              (λ w lt. weigh-answered f (part_of n w r.handled) (later w)),
          sum_below-add n (λ w. weigh f (part_of n w r.handled))
              (λ w. weigh f (pairs_in (later w))),
        )

  -- a stamp of a exchange is above what its session had seen
  stamp_after : (r : Exchange) (o : ℕ) → AllByRecursion (IsGiven layout) r.handled
      → ((w : ℕ) → w < n → IsOrdered r.seen (part_of n w r.handled)) → In o (stamps (exchange_pairs
      r))
      → r.seen < o
  stamp_after r o is parts i =
      let made = In-filter_map-back (λ (p : Pair). stamp_of p.reply) o (exchange_pairs r) i in
      let back = In-map-back (λ (x : Handled). x.pair) made.0 r.handled made.2 in
      let h : Handled = back.0 in
      let e : stamp_of h.pair.reply ≡ Some o = ap (λ (x : Pair). stamp_of x.reply) back.1 ∙ made.1
      in
      let is_h : IsGiven layout h = All-In (IsGiven layout) h r.handled is back.2 in
      let to = routed_to_owner h is_h (stamped_routed h o is_h e) in
      let w : ℕ = owner_of to.0 n in
      All-In (λ z. r.seen < z) o (stamps (part_of n w r.handled)) (parts w (owner-lt to.0)).0
      (stamp-In o h.pair (part_of n w r.handled) e (in_part h w r.handled to.2 back.2))

  pub across_exchanges : (exchanges : List Exchange)
      → Pairwise (λ exchange next. AllByRecursion (λ seen. seen ≤ next.seen)
      (seen_in (exchange_pairs exchange))) exchanges
      → AllByRecursion (λ exchange. AllByRecursion (IsGiven layout) exchange.handled)
      exchanges
      → ((w : ℕ) → w < n
      → AllByRecursion (λ exchange. IsOrdered exchange.seen (part_of n w exchange.handled))
      exchanges)
      → Pairwise IsAfter (map exchange_pairs exchanges)
  across_exchanges [] seen is parts = tt
  across_exchanges (r ∷ exchanges) seen is parts = (
    In-All _ (map exchange_pairs exchanges) (λ q j.
        let back = In-map-back exchange_pairs q exchanges j in
        let g : Exchange = back.0 in
        let saw = All-In (λ (next : Exchange). AllByRecursion (λ seen. seen ≤ next.seen)
        (seen_in (exchange_pairs r))) g exchanges seen.0 back.2 in
        In-All _ (seen_in (exchange_pairs r)) (λ t i. In-All _ (stamps q) (λ o k.
        let low : t ≤ g.seen = All-In (λ z. z ≤ g.seen) t (seen_in (exchange_pairs r)) saw i in
        let in_g : In o (stamps (exchange_pairs g)) = subst (λ ps. In o (stamps ps)) (sym back.1)
        k
        in
        let high : g.seen < o = stamp_after g o (All-In (λ (x : Exchange).
        AllByRecursion (IsGiven layout) x.handled) g exchanges is.1 back.2)
        (λ w lt. All-In (λ (x : Exchange). IsOrdered x.seen (part_of n w x.handled)) g
        exchanges
        (parts w lt).1 back.2) in_g in
        omega (arith, low, high)))),
    across_exchanges exchanges seen.1 is.1 (λ w lt. (parts w lt).1),
  )

  -- a number of the counter that a session tells is above what its earlier groups have seen
  pub counted_exchanges : (exchanges : List Exchange)
      → Pairwise (λ exchange next. AllByRecursion (λ seen. seen ≤ next.seen)
      (seen_in (exchange_pairs exchange))) exchanges
      → ((r : Exchange) → In r exchanges → (number : ℕ)
      → In number (counter_numbers (exchange_pairs r)) → r.seen < number)
      → Pairwise IsCountedAfter (map exchange_pairs exchanges)
  counted_exchanges [] seen above = tt
  counted_exchanges (r ∷ exchanges) seen above = (
    In-All _ (map exchange_pairs exchanges) (λ q j.
        let back = In-map-back exchange_pairs q exchanges j in
        let g : Exchange = back.0 in
        let saw = All-In (λ (next : Exchange). AllByRecursion (λ seen. seen ≤ next.seen)
        (seen_in (exchange_pairs r))) g exchanges seen.0 back.2 in
        In-All _ (seen_in (exchange_pairs r)) (λ t i. In-All _ (counter_numbers q) (λ number k.
        let low : t ≤ g.seen = All-In (λ z. z ≤ g.seen) t (seen_in (exchange_pairs r)) saw i in
        let high : g.seen < number = above g (inr back.2) number
        (subst (λ ps. In number (counter_numbers ps)) (sym back.1) k) in
        omega (arith, low, high)))),
    counted_exchanges exchanges seen.1 (λ g i. above g (inr i)),
  )

  pub within_exchanges : (exchanges : List Exchange)
      → AllByRecursion (λ exchange. AllByRecursion (IsGiven layout) exchange.handled)
      exchanges
      → ((w : ℕ) → w < n
      → AllByRecursion (λ exchange. IsOrdered exchange.seen (part_of n w exchange.handled))
      exchanges)
      → AllByRecursion (λ group. Pairwise RisesForKey group) (map exchange_pairs exchanges)
  within_exchanges [] is parts = tt
  within_exchanges (r ∷ exchanges) is parts = (
    within_group r.handled is.0 (λ w lt. (parts w lt).0.1),
    within_exchanges exchanges is.1 (λ w lt. (parts w lt).1),
  )

  pub in_answered : (w : ℕ) (h : Handled) (r : Exchange) (exchanges : List Exchange) → In r
      exchanges
      → In h r.handled → goes_to n w h ≡ true → In h.pair (pairs_in (all_parts n w exchanges))
  in_answered w h r [] i j e = absurd i
  in_answered w h r (x ∷ exchanges) (inl i) j e =
      let there : In h.pair (part_of n w x.handled) =
      in_part h w x.handled e (subst (λ (y : Exchange). In h y.handled) (sym i) j) in
      let later : List (List Pair) = all_parts n w exchanges in
      (elim (part_of n w x.handled) as (λ ps. In h.pair ps → In h.pair (pairs_in (answered_by ps ++
      later))) [
        | [] ↦ λ a. absurd a
        | p ∷ ps ↦ λ a. In-left h.pair (p ∷ ps) (pairs_in later) a
      ]) there
  in_answered w h r (x ∷ exchanges) (inr i) j e =
      let rest = in_answered w h r exchanges i j e in
      let later : List (List Pair) = all_parts n w exchanges in
      (elim (part_of n w x.handled) as (λ ps. In h.pair (pairs_in (answered_by ps ++ later))) [
        | [] ↦ rest
        | p ∷ ps ↦ In-right h.pair (p ∷ ps) (pairs_in later) rest
      ])

  pub out_answered : (w : ℕ) (p : Pair) (exchanges : List Exchange)
      → In p (pairs_in (all_parts n w exchanges)) → In p (pairs_in (map exchange_pairs exchanges))
  out_answered w p [] i = absurd i
  out_answered w p (x ∷ exchanges) i =
      let later : List (List Pair) = all_parts n w exchanges in
      let split : In p (part_of n w x.handled) ⊎ In p (pairs_in later) =
      (elim (part_of n w x.handled) as (λ ps. In p (pairs_in (answered_by ps ++ later))
      → In p ps ⊎ In p (pairs_in later)) [
        | [] ↦ λ a. inr a
        | q ∷ qs ↦ λ a. In-append p (q ∷ qs) (pairs_in later) a
      ]) i in
      ⊎_elim
      (λ (a : In p (part_of n w x.handled)).
      let back = In-map-back (λ (h : Handled). h.pair) p (filter (goes_to n w) x.handled) a in
      let whole = In-map (λ (h : Handled). h.pair) back.0 x.handled
      (In-filter-back (goes_to n w) back.0 x.handled back.2).1 in
      In-left p (exchange_pairs x) (pairs_in (map exchange_pairs exchanges))
      (subst (λ q. In q (exchange_pairs x)) back.1 whole))
      (λ (b : In p (pairs_in later)). In-right p (exchange_pairs x) (pairs_in (map exchange_pairs
      exchanges))
      (out_answered w p exchanges b))
      split
