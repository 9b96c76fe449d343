-- The causes of a worker's refusals, over the pairs of all parties.
use Rattle.std.proofs.Common.{◌≡◌, ◌⊎◌, inl, inr, ⊎_elim, ℕ, suc, ◌+◌, ◌-◌, ◌*◌, ◌^◌, ◌<◌}
use Rattle.std.proofs.Common.{◌≤◌, List, [], ◌∷◌, ◌++◌, length, Some, Bool, true, false}
use Rattle.std.proofs.Common.{cond, refl, sym, ap, ◌∙◌, subst, arith, Contains}
use Rattle.std.proofs.Math.Logic.{∥∥₁_map}
use Rattle.std.proofs.lemmas.Bool.Decides.{nat_tests}
use Rattle.std.proofs.lemmas.List.Sums.{sum_by-cons}
use Rattle.std.specs.Prelude.{nat_eq, min, count_by, ◌||◌}
use Rattle.std.specs.List.{AllByRecursion, filter, list_any}
use Rattle.kv_base.specs.Calls.{next_count}
use Rattle.kv_base.specs.Partition.{owner_of}
use Rattle.kv_base.specs.declared.request.Request.{Request}
use Rattle.kv_base.specs.declared.request.Request.TheVariants.{Put, Get, Delete, Flush, After}
use Rattle.kv_base.specs.declared.reply.Reply.{Reply}
use Rattle.kv_base.specs.declared.reply.Reply.TheVariants.{Full}
use Rattle.kv_base.specs.declared.reply.Reply.TheVariants.{Closed, StampsSpent, Noted, Ahead}
use Rattle.kv_stamps.specs.declared.view.Range.{Range}
use Rattle.kv_model.specs.Agreement.{AgreesWithMap, IsAnswer, IsCounterAnswer}
use Rattle.kv_model.specs.Batch.{class_written}
use Rattle.kv_model.specs.History.{Write}
use Rattle.kv_model.specs.Layout.{Layout}
use Rattle.kv_model.specs.Pairs.{Pair, pairs_in, writes, unsure_writes, key_of}
use Rattle.kv_model.proofs.ContainsLemmas.{Contains-cons, Contains-first, Contains-behind}
use Rattle.kv_parties.specs.Begun.{IsBefore, all_before}
use Rattle.kv_parties.specs.Causes.{is_unsure, is_fault, any_unsure, any_fault}
use Rattle.kv_parties.specs.Causes.{faults_behind, IsClosedAt, AreClosedBehind}
use Rattle.kv_parties.specs.Causes.{IsSpentAt, HasNoSlot, IsFullAt, all_writes}
use Rattle.kv_parties.specs.Causes.{KeepsCauses, HasCauses, most_tasks}
use Rattle.kv_parties.specs.Setting.{Setting, IsOwned, owns, owned_pairs, owned_writes}
use Rattle.kv_parties.proofs.Lists.{In, In-left, In-right, In-append, All-In, In-All, In-filter}
use Rattle.kv_parties.proofs.Lists.{In-filter-back, In-row, sum_below-le, sum_below-one}
use Rattle.kv_parties.proofs.Lists.{sum_below-at, eq_self}
use Rattle.kv_parties.proofs.Owned.{IsHere, refuses}
use Rattle.kv_parties.proofs.Parts.{owner-lt}
use Rattle.kv_parties.proofs.Agreeing.{weigh, weigh-append, weigh-le, owner-of, owned-keyed, Owns}
use Rattle.kv_parties.proofs.Agreeing.{Fits}
use Rattle.kv_parties.proofs.Recovering.{of-is, left_by, left-In, In-left_by}

-- 1 where the pair passes the test, and else 0
abbrev mark : (Pair → Bool) → Pair → ℕ
mark test pair = cond (test pair) 1 0

-- the pair tells of a fault, or is unsure
abbrev tells_fault : Pair → Bool
tells_fault pair = is_fault pair.reply

abbrev is_unsure_pair : Pair → Bool
is_unsure_pair pair = is_unsure pair.reply

module _ (test : Pair → Bool) where
  weigh-none : (ps : List Pair) → list_any test ps ≡ false → weigh (mark test) ps ≡ 0
  weigh-none [] e = refl
  weigh-none (p ∷ ps) e =
      (elim (test p) as (λ b. (b || list_any test ps) ≡ false
      → cond b 1 0 + weigh (mark test) ps ≡ 0) [
        | true ↦ λ e. absurd (cc)
        | false ↦ λ e. omega (arith, weigh-none ps e)
      ]) e

  weigh-length : (ps : List Pair) → weigh (mark test) ps ≤ length ps
  weigh-length [] = omega arith
  weigh-length (p ∷ ps) =
      elim (test p) as (λ b. cond b 1 0 + weigh (mark test) ps ≤ suc (length ps)) [
        | true ↦ omega (arith, weigh-length ps)
        | false ↦ omega (arith, weigh-length ps)
      ]

  weigh-some : (ps : List Pair) → list_any test ps ≡ true → 1 ≤ weigh (mark test) ps
  weigh-some [] e = absurd (cc)
  weigh-some (p ∷ ps) e =
      (elim (test p) as (λ b. (b || list_any test ps) ≡ true
      → 1 ≤ cond b 1 0 + weigh (mark test) ps) [
        | true ↦ λ e. omega arith
        | false ↦ λ e. omega (arith, weigh-some ps e)
      ]) e

  any-In : (p : Pair) (ps : List Pair) → In p ps → test p ≡ true → list_any test ps ≡ true
  any-In p [] i e = absurd i
  any-In p (q ∷ ps) (inl i) e = ap (λ b. b || list_any test ps) (ap test i ∙ e)
  any-In p (q ∷ ps) (inr i) e =
      elim (test q) as (λ b. (b || list_any test ps) ≡ true) [
        | true ↦ refl
        | false ↦ any-In p ps i e
      ]

  any-back : (ps : List Pair) → list_any test ps ≡ true → (p : Pair) × (In p ps) × (test p ≡ true)
  any-back [] e = absurd (cc)
  any-back (q ∷ ps) e =
      (elim (test q) as (λ b. test q ≡ b → (b || list_any test ps) ≡ true
      → (p : Pair) × (In p (q ∷ ps)) × (test p ≡ true)) [
        | true ↦ λ is e. (q, inl refl, is)
        | false ↦ λ is e. let r = any-back ps e in (r.0, inr r.1, r.2)
      ]) refl e

  weigh-count : (kept : Pair → Bool) (ps : List Pair)
      → count_by test (filter kept ps) ≡ weigh (λ p. cond (kept p) (mark test p) 0) ps
  weigh-count kept [] = refl
  weigh-count kept (p ∷ ps) =
      elim (kept p) as (λ b. count_by test (cond b (p ∷ filter kept ps) (filter kept ps))
      ≡ cond b (mark test p) 0 + weigh (λ q. cond (kept q) (mark test q) 0) ps) [
        | true ↦ sum_by-cons (λ q. cond (test q) 1 0) p (filter kept ps)
            ∙ ap (λ n. mark test p + n) (weigh-count kept ps)
        | false ↦ omega (arith, weigh-count kept ps)
      ]

below-top : (n m top : ℕ) → min (n + 1) top ≤ m → m < top → min (n + 1) top ≡ n + 1
below-top n m top le lt = omega arith

below-next : (n top : ℕ) → min (n + 1) top ≤ n + 1
below-next n top = omega arith

next-most : (n : ℕ) → next_count n ≤ n + 1
next-most n = below-next n (2 ^ 64 - 1)

-- at most so many replies tell of one rise of the count
faults-few : (batches : List (List Pair)) (n : ℕ)
    → AllByRecursion (λ batch. length batch ≤ most_tasks) batches
    → faults_behind batches n < 2 ^ 64 - 1
    → most_tasks * n + weigh (mark tells_fault) (pairs_in batches)
    ≤ most_tasks * faults_behind batches n
faults-few [] n few lt = omega arith
faults-few (b ∷ batches) n few lt =
    (elim (any_fault b) as (λ c. any_fault b ≡ c
    → faults_behind batches (cond c (next_count n) n) < 2 ^ 64 - 1
    → most_tasks * n + weigh (mark tells_fault) (b ++ pairs_in batches)
    ≤ most_tasks * faults_behind batches (cond c (next_count n) n)) [
      | true ↦ λ e lt.
          let rest = faults-few batches (next_count n) few.1 lt in
          let up : next_count n ≡ n + 1 =
          below-top n (faults_behind batches (next_count n)) (2 ^ 64 - 1) (omega (arith, rest)) lt
          in
          omega (
            arith,
            rest,
            up,
            weigh-append (mark tells_fault) b (pairs_in batches),
            weigh-length tells_fault b,
            few.0,
          )
      | false ↦ λ e lt. omega (
        arith,
        weigh-append (mark tells_fault) b (pairs_in batches),
        weigh-none tells_fault b e,
        faults-few batches n few.1 lt,
      )
    ]) refl lt

-- and the count rises by no more than tell of it
faults-rise : (batches : List (List Pair)) (n : ℕ)
    → faults_behind batches n ≤ n + weigh (mark tells_fault) (pairs_in batches)
faults-rise [] n = omega arith
faults-rise (b ∷ batches) n =
    (elim (any_fault b) as (λ c. any_fault b ≡ c
    → faults_behind batches (cond c (next_count n) n)
    ≤ n + weigh (mark tells_fault) (b ++ pairs_in batches)) [
      | true ↦ λ e. omega (
        arith,
        weigh-append (mark tells_fault) b (pairs_in batches),
        weigh-some tells_fault b e,
        next-most n,
        faults-rise batches (next_count n),
      )
      | false ↦ λ e. omega (
        arith,
        weigh-append (mark tells_fault) b (pairs_in batches),
        faults-rise batches n,
      )
    ]) refl

-- a closed store answers nothing that is unsure
closed-batch : (b : List Pair) → AllByRecursion (IsClosedAt true) b
    → weigh (mark is_unsure_pair) b ≡ 0
closed-batch [] all = refl
closed-batch (p ∷ b) all =
    let none : cond (is_unsure p.reply) 1 0 ≡ 0 =
    ap {B = ℕ} (λ reply. cond (is_unsure reply) 1 0) all.0 in
    omega (arith, none, closed-batch b all.1)

closed-sure : (batches : List (List Pair)) → AreClosedBehind true batches
    → weigh (mark is_unsure_pair) (pairs_in batches) ≡ 0
closed-sure [] closes = refl
closed-sure (b ∷ batches) closes = omega (
  arith,
  weigh-append (mark is_unsure_pair) b (pairs_in batches),
  closed-batch b closes.0,
  closed-sure batches closes.1,
)

unsure-few : (batches : List (List Pair))
    → AllByRecursion (λ batch. length batch ≤ most_tasks) batches → AreClosedBehind false batches
    → weigh (mark is_unsure_pair) (pairs_in batches) ≤ most_tasks
unsure-few [] few closes = omega arith
unsure-few (b ∷ batches) few closes =
    (elim (any_unsure b) as (λ c. any_unsure b ≡ c → AreClosedBehind c batches
    → weigh (mark is_unsure_pair) (b ++ pairs_in batches) ≤ most_tasks) [
      | true ↦ λ e later. omega (
        arith,
        weigh-append (mark is_unsure_pair) b (pairs_in batches),
        weigh-length is_unsure_pair b,
        few.0,
        closed-sure batches later,
      )
      | false ↦ λ e later. omega (
        arith,
        weigh-append (mark is_unsure_pair) b (pairs_in batches),
        weigh-none is_unsure_pair b e,
        unsure-few batches few.1 later,
      )
    ]) refl closes.1

-- Closed comes only behind a reply that is unsure
closed-cause : (batches : List (List Pair)) (p : Pair) → AreClosedBehind false batches
    → In p (pairs_in batches) → p.reply ≡ Closed → any_unsure (pairs_in batches) ≡ true
closed-cause [] p closes i e = absurd i
closed-cause (b ∷ batches) p closes i e = ⊎_elim
    (λ (a : In p b). absurd (All-In (IsClosedAt false) p b closes.0 a e))
    (λ (later : In p (pairs_in batches)).
    (elim (any_unsure b) as (λ c. any_unsure b ≡ c → AreClosedBehind c batches
    → any_unsure (b ++ pairs_in batches) ≡ true) [
      | true ↦ λ is closes.
          let r = any-back is_unsure_pair b is in
          any-In is_unsure_pair r.0 (b ++ pairs_in batches)
          (In-left r.0 b (pairs_in batches) r.1) r.2
      | false ↦ λ is closes.
          let r = any-back is_unsure_pair (pairs_in batches)
          (closed-cause batches p closes later e) in
          any-In is_unsure_pair r.0 (b ++ pairs_in batches)
          (In-right r.0 b (pairs_in batches) r.1) r.2
    ]) refl closes.1)
    (In-append p b (pairs_in batches) i)

pub In-Contains : {X : Type 0} (x : X) (xs : List X) → In x xs → Contains xs x
In-Contains x [] i = absurd i
In-Contains x (y ∷ xs) (inl e) = subst (Contains (y ∷ xs)) e (Contains-first y xs)
In-Contains x (y ∷ xs) (inr i) = Contains-behind y xs x (In-Contains x xs i)

pub Contains-In : {X : Type 0} (x : X) (xs : List X) → Contains xs x → In x xs
Contains-In x [] has = absurd (omega (arith, has.1))
Contains-In x (y ∷ xs) has = ⊎_elim (λ (e : y ≡ x). inl e)
    (λ (later : Contains xs x). inr (Contains-In x xs later)) (Contains-cons y xs x has)

-- an After's reply is sure
looked-sure : (stamp : ℕ) (reply : Reply) → IsCounterAnswer stamp reply → is_unsure reply ≡ true
    → ⊥
looked-sure stamp Noted answer e = cc
looked-sure stamp (Ahead n) answer e = cc
looked-sure stamp reply answer e = absurd answer

-- an answered request that is unsure is about a key
unsure-keyed : (told : Bool) (layout : Layout) (history : List Write) (request : Request)
    (reply : Reply) → IsAnswer told layout history request reply → is_unsure reply ≡ true
    → (key : List ℕ) × (key_of request ≡ Some key)
unsure-keyed told layout history (Put key value) reply answer e = (key, refl)
unsure-keyed told layout history (Get key) reply answer e = (key, refl)
unsure-keyed told layout history (Delete key) reply answer e = (key, refl)
unsure-keyed told layout history Flush reply answer e = absurd answer
unsure-keyed told layout history (After s) reply answer e =
    absurd (looked-sure s reply answer e)

module _ (setting : Setting) (before : ℕ → List Write) (base : IsBefore setting before)
    (own : ℕ → List Pair) (ranges : ℕ → List Range) (owns_all : Owns setting before own ranges)
    (pairs : List Pair) (fits : Fits setting own pairs) where
  -- whether a worker owns the key of a pair tells whether it is the pair's worker
  owned-is : (v w : ℕ) (p : Pair) → v < setting.workers → In p (own v)
      → owns setting.workers w (key_of p.request) ≡ nat_eq v w
  owned-is v w p lt i =
      let owned = All-In (λ (q : Pair). IsOwned setting.workers v q.request) p (own v)
      (owns_all.owned v lt) i in
      let k = owned-keyed setting.workers v p.request owned in
      ap (owns setting.workers w) k.1
      ∙ ap (λ n. nat_eq n w) (owner-of setting.workers v p.request k.0 owned k.1)

  to-owned : (w : ℕ) (p : Pair) → w < setting.workers → In p (own w)
      → In p (owned_pairs setting.workers w pairs)
  to-owned w p lt i = In-filter (λ (q : Pair). owns setting.workers w (key_of q.request)) p pairs
      (owned-is w w p lt i ∙ (grind (arith, nat_tests))) (fits.all w p lt i)

  from-owned : (w : ℕ) (p : Pair) → In p (owned_pairs setting.workers w pairs)
      → In p (own w) ⊎ IsHere setting.layout p
  from-owned w p i =
      let back = In-filter-back (λ (q : Pair). owns setting.workers w (key_of q.request)) p pairs i
      in
      ⊎_elim
      (λ (a : (v : ℕ) × (v < setting.workers) × In p (own v)).
      let yes : nat_eq a.0 w ≡ true = sym (owned-is a.0 w p a.1 a.2) ∙ back.0 in
      let same : a.0 ≡ w = grind (arith, nat_tests) in
      inl (subst (λ v. In p (own v)) same a.2))
      (λ (b : IsHere setting.layout p). inr b) (fits.each p back.1)

  -- a fact on each of the worker's own pairs, and on what sessions answer themselves, is one on all
  -- pairs about its keys
  each-owned : (w : ℕ) (P : Pair → Type 0) → AllByRecursion P (own w)
      → ((p : Pair) → IsHere setting.layout p → P p)
      → AllByRecursion P (owned_pairs setting.workers w pairs)
  each-owned w P all none = In-All P (owned_pairs setting.workers w pairs) (λ p i.
      ⊎_elim (λ (a : In p (own w)). All-In P p (own w) all a)
      (λ (b : IsHere setting.layout p). none p b) (from-owned w p i))

  -- one of the worker's own pairs is unsure exactly where one of all pairs about its keys is
  unsure-owned : (w : ℕ) → w < setting.workers
      → any_unsure (own w) ≡ any_unsure (owned_pairs setting.workers w pairs)
  unsure-owned w lt = both (any_unsure (own w)) (any_unsure (owned_pairs setting.workers w pairs))
      (λ e. let r = any-back is_unsure_pair (own w) e in
      any-In is_unsure_pair r.0 (owned_pairs setting.workers w pairs) (to-owned w r.0 lt r.1) r.2)
      (λ e. let r = any-back is_unsure_pair (owned_pairs setting.workers w pairs) e in ⊎_elim
      (λ (a : In r.0 (own w)). any-In is_unsure_pair r.0 (own w) a r.2)
      (λ (b : IsHere setting.layout r.0).
      let no : is_unsure_pair r.0 ≡ false =
      refuses (λ reply. is_unsure reply ≡ false) refl refl refl refl (λ n. refl) setting.layout r.0 b in
      let never : true ≡ false = sym r.2 ∙ no in absurd (cc))
      (from-owned w r.0 r.1))
    where
      both : (a b : Bool) → (a ≡ true → b ≡ true) → (b ≡ true → a ≡ true) → a ≡ b
      both true b f g = sym (f refl)
      both false true f g = g refl
      both false false f g = refl

  weigh-zero : (ps : List Pair) → weigh (λ p. 0) ps ≡ 0
  weigh-zero [] = refl
  weigh-zero (p ∷ ps) = omega (arith, weigh-zero ps)

  -- the pairs about its keys that pass a test are the worker's own
  count-owned : (w : ℕ) (test : Pair → Bool)
      → ((p : Pair) → IsHere setting.layout p → test p ≡ false) → w < setting.workers
      → count_by test (owned_pairs setting.workers w pairs) ≤ weigh (mark test) (own w)
  count-owned w test none lt =
      let owned : Pair → Bool = λ p. owns setting.workers w (key_of p.request) in
      let f : Pair → ℕ = λ p. cond (owned p) (mark test p) 0 in
      let silent : (p : Pair) → IsHere setting.layout p → f p ≡ 0 =
      λ p h. unmarked (owned p) (test p) (none p h) in
      omega (
        arith,
        weigh-count test owned pairs,
        fits.weighs f silent,
        sum_below-le setting.workers (λ v. weigh f (own v))
            (λ v. cond (nat_eq w v) (weigh (mark test) (own w)) 0) (λ v less. each v less),
        sum_below-one setting.workers w (weigh (mark test) (own w)),
      )
    where
      unmarked : (b c : Bool) → c ≡ false → ◌≡◌ {A = ℕ} (cond b (cond c 1 0) 0) 0
      unmarked true c e = ap {B = ℕ} (λ c. cond c 1 0) e
      unmarked false c e = refl

      at-most : (b : Bool) (n : ℕ) → cond b n 0 ≤ n
      at-most true n = omega arith
      at-most false n = omega arith

      each : (v : ℕ) → v < setting.workers
          → weigh (λ p. cond (owns setting.workers w (key_of p.request)) (mark test p) 0) (own v)
          ≤ cond (nat_eq w v) (weigh (mark test) (own w)) 0
      each v less =
          let f : Pair → ℕ =
          λ p. cond (owns setting.workers w (key_of p.request)) (mark test p) 0 in
          (elim (nat_eq w v) as (λ b. nat_eq w v ≡ b
          → weigh f (own v) ≤ cond b (weigh (mark test) (own w)) 0) [
            | true ↦ λ e.
                let same : v ≡ w = grind (arith, nat_tests) in
                subst (λ u. weigh f (own v) ≤ weigh (mark test) (own u)) same
                (weigh-le f (mark test) (own v)
                (λ p i. at-most (owns setting.workers w (key_of p.request)) (mark test p)))
            | false ↦ λ e.
                let no : nat_eq v w ≡ false = grind (arith, nat_tests) in
                omega (
                  arith,
                  weigh-le f (λ p. 0) (own v) (λ p i. omega (
                    arith,
                    ap {B = ℕ} (λ b. cond b (mark test p) 0) (owned-is v w p less i ∙ no),
                  )),
                  weigh-zero (own v),
                )
          ]) refl

  -- and its own pairs that pass it are among them
  owned-count : (w : ℕ) (test : Pair → Bool) → w < setting.workers
      → weigh (mark test) (own w) ≤ count_by test (owned_pairs setting.workers w pairs)
  owned-count w test lt =
      let owned : Pair → Bool = λ p. owns setting.workers w (key_of p.request) in
      let f : Pair → ℕ = λ p. cond (owned p) (mark test p) 0 in
      omega (
        arith,
        weigh-count test owned pairs,
        fits.holds f,
        sum_below-at setting.workers w (λ v. weigh f (own v)) lt,
        weigh-le (mark test) f (own w) (λ p i. omega (
          arith,
          ap {B = ℕ} (λ b. cond b (mark test p) 0) (owned-is w w p lt i ∙ eq_self w),
        )),
      )

  -- a write that the worker's own pairs or its earlier writes have is one of its keys among all
  own-among : (w : ℕ) (x : Write) → w < setting.workers → In x (all_writes (before w) (own w))
      → In x (owned_writes setting.workers w (all_writes (all_before setting before) pairs))
  own-among w x lt i =
      let all : List Write = all_writes (all_before setting before) pairs in
      let found : (owner_of x.key setting.workers ≡ w) × In x all = ⊎_elim
      (λ (a : In x (before w ++ writes (own w))). ⊎_elim
      (λ (b : In x (before w)). (
        All-In (λ (y : Write). owner_of y.key setting.workers ≡ w) x (before w) (base.owned w lt) b,
        In-left x (all_before setting before ++ writes pairs) (unsure_writes pairs)
            (In-left x (all_before setting before) (writes pairs)
            (In-row x setting.workers w before lt b)),
      ))
      (λ (b : In x (writes (own w))). made (In-left x (writes (own w)) (unsure_writes (own w)) b))
      (In-append x (before w) (writes (own w)) a))
      (λ (a : In x (unsure_writes (own w))).
      made (In-right x (writes (own w)) (unsure_writes (own w)) a))
      (In-append x (before w ++ writes (own w)) (unsure_writes (own w)) i) in
      In-filter (λ (y : Write). nat_eq (owner_of y.key setting.workers) w) x all
      (ap (λ n. nat_eq n w) found.0 ∙ (grind (arith, nat_tests))) found.1
    where
      made : In x (left_by (own w)) → (owner_of x.key setting.workers ≡ w)
          × In x (all_writes (all_before setting before) pairs)
      made b =
          let m = In-left_by x (own w) b in
          let owned = All-In (λ (q : Pair). IsOwned setting.workers w q.request) m.0 (own w)
          (owns_all.owned w lt) m.2 in
          let there = left-In x m.0 pairs m.1 (fits.all w m.0 lt m.2) in (
            owner-of setting.workers w m.0.request x.key owned (of-is m.0 x m.1).1,
            ⊎_elim
                (λ (a : In x (writes pairs)).
                In-left x (all_before setting before ++ writes pairs) (unsure_writes pairs)
                (In-right x (all_before setting before) (writes pairs) a))
                (λ (a : In x (unsure_writes pairs)).
                In-right x (all_before setting before ++ writes pairs) (unsure_writes pairs) a)
                (In-append x (writes pairs) (unsure_writes pairs) there),
          )

  full-all : (w : ℕ) (p : Pair) → w < setting.workers
      → IsFullAt setting.layout setting.slots (all_writes (before w) (own w)) p
      → IsFullAt setting.layout setting.slots (owned_writes setting.workers w
      (all_writes (all_before setting before) pairs)) p
  full-all w p lt full = λ class e. ∥∥₁_map (full class e) (more class)
    where
      more : (class : ℕ)
          → HasNoSlot setting.layout setting.slots (all_writes (before w) (own w)) class
          → HasNoSlot setting.layout setting.slots (owned_writes setting.workers w
          (all_writes (all_before setting before) pairs)) class
      more class none = record {
        count = none.count;
        keys = record {
          keys = none.keys.keys;
          apart = none.keys.apart;
          many = none.keys.many;
          each = In-All _ none.keys.keys (λ key i.
              let k = All-In (λ (key : List ℕ). (write : Write)
              × Contains (all_writes (before w) (own w)) write × (write.key ≡ key)
              × (class_written setting.layout write ≡ Some class)) key none.keys.keys none.keys.each
              i in (
                k.0,
                In-Contains k.0 (owned_writes setting.workers w
                    (all_writes (all_before setting before) pairs))
                    (own-among w k.0 lt (Contains-In k.0 (all_writes (before w) (own w)) k.1)),
                k.2,
                k.3,
              ));
        };
        full = none.full;
      }

  -- what a worker keeps of its batches holds of all pairs about its keys
  pub causes_of : (w : ℕ) (runs : List Range) (faults faults' : ℕ) (closed : Bool)
      (batches : List (List Pair)) → w < setting.workers → pairs_in batches ≡ own w
      → KeepsCauses setting (before w) runs faults faults' closed batches
      → HasCauses setting w (all_before setting before) runs faults faults' closed pairs
  causes_of w runs faults faults' closed batches lt same keeps = record {
    faulty = λ top.
        omega (
          arith,
          count-owned w tells_fault
              (refuses (λ reply. is_fault reply ≡ false) refl refl refl refl (λ n. refl) setting.layout) lt,
          ap (weigh (mark tells_fault)) same,
          faults-few batches faults keeps.few (subst (λ n. n < 2 ^ 64 - 1) keeps.counted top),
          keeps.counted,
        );
    rose = omega (
      arith,
      owned-count w tells_fault lt,
      ap (weigh (mark tells_fault)) same,
      faults-rise batches faults,
      keeps.counted,
    );
    unsure = omega (
      arith,
      count-owned w is_unsure_pair
          (refuses (λ reply. is_unsure reply ≡ false) refl refl refl refl (λ n. refl) setting.layout) lt,
      ap (weigh (mark is_unsure_pair)) same,
      unsure-few batches keeps.few keeps.closes,
    );
    closed_is = keeps.closed_is ∙ (ap any_unsure same ∙ unsure-owned w lt);
    closes = In-All _ (owned_pairs setting.workers w pairs) (λ p i e. ⊎_elim
        (λ (a : In p (own w)).
        let r = any-back is_unsure_pair (pairs_in batches) (closed-cause batches p keeps.closes
        (subst (In p) (sym same) a) e) in
        any-In is_unsure_pair r.0 (owned_pairs setting.workers w pairs)
        (to-owned w r.0 lt (subst (In r.0) same r.1)) r.2)
        (λ (b : IsHere setting.layout p).
        absurd (refuses (λ reply. reply ≡ Closed → ⊥) (λ e. absurd (cc)) (λ e. absurd (cc))
        (λ e. absurd (cc)) (λ e. absurd (cc)) (λ n e. absurd (cc)) setting.layout p b e))
        (from-owned w p i));
    spent = each-owned w (IsSpentAt runs) (subst (AllByRecursion (IsSpentAt runs)) same keeps.spent)
        (λ p b number e. absurd (refuses (λ reply. reply ≡ StampsSpent number → ⊥)
        (λ e. absurd (cc)) (λ e. absurd (cc)) (λ e. absurd (cc)) (λ e. absurd (cc))
        (λ n e. absurd (cc)) setting.layout p b e));
    full = λ told.
        let each : AllByRecursion (IsFullAt setting.layout setting.slots
        (all_writes (before w) (own w))) (own w) =
        subst (λ ps. AllByRecursion (IsFullAt setting.layout setting.slots
        (all_writes (before w) ps)) ps) same (keeps.full told) in
        each-owned w _ (In-All _ (own w) (λ p i. full-all w p lt
        (All-In (IsFullAt setting.layout setting.slots (all_writes (before w) (own w))) p (own w)
        each i)))
        (λ p b class e. absurd (refuses (λ reply. reply ≡ Full class → ⊥) (λ e. absurd (cc))
        (λ e. absurd (cc)) (λ e. absurd (cc)) (λ e. absurd (cc)) (λ n e. absurd (cc))
        setting.layout p b e));
  }

-- a pair about a key is about one that a worker owns
pub some-owner : (setting : Setting) (pairs : List Pair) → 1 ≤ setting.workers → (p : Pair)
    → (key : List ℕ) × (key_of p.request ≡ Some key) → In p pairs
    → (w : ℕ) × (w < setting.workers) × In p (owned_pairs setting.workers w pairs)
some-owner setting pairs some p k i =
    let w : ℕ = owner_of k.0 setting.workers in (
      w,
      owner-lt setting.layout setting.workers some k.0,
      In-filter (λ (q : Pair). owns setting.workers w (key_of q.request)) p pairs
          (ap (owns setting.workers w) k.1 ∙ eq_self w) i,
    )

-- so where one is unsure, one of a worker's keys is
pub unsure-owner : (setting : Setting) (history : List Write) (pairs : List Pair)
    → 1 ≤ setting.workers
    → AgreesWithMap setting.told setting.layout history setting.floor pairs
    → any_unsure pairs ≡ true
    → (w : ℕ) × (w < setting.workers) × (any_unsure (owned_pairs setting.workers w pairs) ≡ true)
unsure-owner setting history pairs some right e =
    let r = any-back is_unsure_pair pairs e in
    let answer = All-In (λ (q : Pair). IsAnswer setting.told setting.layout
    (history ++ writes pairs) q.request q.reply) r.0 pairs right.replies r.1 in
    let k = unsure-keyed setting.told setting.layout (history ++ writes pairs) r.0.request r.0.reply
    answer r.2 in
    let o = some-owner setting pairs some r.0 k r.1 in
    (o.0, o.1, any-In is_unsure_pair r.0 (owned_pairs setting.workers o.0 pairs) o.2 r.2)

pub unsure-among : (workers w : ℕ) (pairs : List Pair)
    → any_unsure (owned_pairs workers w pairs) ≡ true → any_unsure pairs ≡ true
unsure-among workers w pairs e =
    let r = any-back is_unsure_pair (owned_pairs workers w pairs) e in
    let i = In-filter-back (λ (q : Pair). owns workers w (key_of q.request)) r.0 pairs r.1 in
    any-In is_unsure_pair r.0 pairs i.1 r.2
