-- Membership, counts and sums of lists.
use Rattle.std.proofs.Common.{◌≡◌, ◌≢◌, ◌⊎◌, inl, inr, ⊎_elim, ℕ, zero, suc, ◌+◌, ◌<◌, ◌≤◌, List}
use Rattle.std.proofs.Common.{[], ◌∷◌, ◌++◌, map, Option, None, Some, Bool, true, false}
use Rattle.std.proofs.Common.{cond, refl, sym, ap, ◌∙◌, subst, arith, append_assoc}
use Rattle.std.specs.Prelude.{nat_eq}
use Rattle.std.specs.List.{AllByRecursion, filter, filter_map, flat_map, cons_option}
use Rattle.std.proofs.lemmas.Bool.Decides.{nat_tests}
use Rattle.kv_model.specs.Pairwise.{Pairwise}
use Rattle.kv_parties.specs.Rows.{sum_below, row}

-- x is one of the list
abbrev pub In : {X : Type 0} → X → List X → Type 0
In x [] = ⊥
In x (y ∷ ys) = (y ≡ x) ⊎ In x ys

-- how often x is in the list
abbrev pub count : ℕ → List ℕ → ℕ
count x [] = 0
count x (y ∷ ys) = cond (nat_eq y x) 1 0 + count x ys

module _ {X : Type 0} where
  pub In-left : (x : X) (xs ys : List X) → In x xs → In x (xs ++ ys)
  In-left x [] ys h = absurd h
  In-left x (y ∷ xs) ys (inl e) = inl e
  In-left x (y ∷ xs) ys (inr h) = inr (In-left x xs ys h)

  pub In-right : (x : X) (xs ys : List X) → In x ys → In x (xs ++ ys)
  In-right x [] ys h = h
  In-right x (y ∷ xs) ys h = inr (In-right x xs ys h)

  pub In-append : (x : X) (xs ys : List X) → In x (xs ++ ys) → In x xs ⊎ In x ys
  In-append x [] ys h = inr h
  In-append x (y ∷ xs) ys (inl e) = inl (inl e)
  In-append x (y ∷ xs) ys (inr h) =
      ⊎_elim (λ a. inl (inr a)) (λ b. inr b) (In-append x xs ys h)

  pub All-In : (P : X → Type 0) (x : X) (xs : List X) → AllByRecursion P xs → In x xs → P x
  All-In P x [] all h = absurd h
  All-In P x (y ∷ xs) all (inl e) = subst P e all.0
  All-In P x (y ∷ xs) all (inr h) = All-In P x xs all.1 h

  pub In-All : (P : X → Type 0) (xs : List X) → ((x : X) → In x xs → P x) → AllByRecursion P xs
  In-All P [] h = tt
  In-All P (x ∷ xs) h = (h x (inl refl), In-All P xs (λ y i. h y (inr i)))

  pub In-row : (x : X) (n s : ℕ) (f : ℕ → List X) → s < n → In x (f s) → In x (row n f)
  In-row x zero s f lt h = absurd (omega arith)
  In-row x (suc n) s f lt h =
      ⊎_elim (λ (less : s < n). In-left x (row n f) (f n) (In-row x n s f less h))
      (λ (e : s ≡ n). In-right x (row n f) (f n) (subst (λ m. In x (f m)) e h))
      (let e : (s < n) ⊎ (s ≡ n) = grind arith in e)

  pub In-row-back : (x : X) (n : ℕ) (f : ℕ → List X) → In x (row n f) → (s : ℕ) × (s < n) × In x (f
      s)
  In-row-back x zero f h = absurd h
  In-row-back x (suc n) f h =
      ⊎_elim (λ a. let r = In-row-back x n f a in (r.0, omega (arith, r.1), r.2))
      (λ b. (n, omega arith, b)) (In-append x (row n f) (f n) h)

  pub In-filter : (p : X → Bool) (x : X) (xs : List X) → p x ≡ true → In x xs → In x (filter p xs)
  In-filter p x [] e h = absurd h
  In-filter p x (y ∷ xs) good (inl e) =
      let here : p y ≡ true = ap p e ∙ good in
      subst (λ b. In x (cond b (y ∷ filter p xs) (filter p xs))) (sym here) (inl e)
  In-filter p x (y ∷ xs) good (inr h) =
      let rest = In-filter p x xs good h in
      elim (p y) as (λ b. In x (cond b (y ∷ filter p xs) (filter p xs))) [
        | true ↦ inr rest
        | false ↦ rest
      ]

  pub In-filter-back : (p : X → Bool) (x : X) (xs : List X) → In x (filter p xs) → (p x ≡ true) × In
      x xs
  In-filter-back p x [] h = absurd h
  In-filter-back p x (y ∷ xs) h =
      (elim (p y) as (λ b. p y ≡ b → In x (cond b (y ∷ filter p xs) (filter p xs)) → (p x ≡ true) ×
      In x (y ∷ xs)) [
        | true ↦ λ e h. ⊎_elim (λ (s : y ≡ x). (ap p (sym s) ∙ e, inl s)) (λ (r : In x (filter p
            xs)). let b = In-filter-back p x xs r in (b.0, inr b.1)) h
        | false ↦ λ e r. let b = In-filter-back p x xs r in (b.0, inr b.1)
      ]) refl h

module _ {Y : Type 0} where
  in_cons : (y : Y) (o : Option Y) (ys : List Y) → In y ys → In y (cons_option o ys)
  in_cons y None ys h = h
  in_cons y (Some z) ys h = inr h

  cons_in : (y : Y) (o : Option Y) (ys : List Y) → In y (cons_option o ys) → (o ≡ Some y) ⊎ In y ys
  cons_in y None ys h = inr h
  cons_in y (Some z) ys (inl e) = inl (ap Some e)
  cons_in y (Some z) ys (inr h) = inr h

module _ {X Y : Type 0} where
  pub In-map : (f : X → Y) (x : X) (xs : List X) → In x xs → In (f x) (map f xs)
  In-map f x [] h = absurd h
  In-map f x (y ∷ xs) (inl e) = inl (ap f e)
  In-map f x (y ∷ xs) (inr h) = inr (In-map f x xs h)

  pub In-map-back : (f : X → Y) (y : Y) (xs : List X) → In y (map f xs) → (x : X) × (f x ≡ y) × In x
      xs
  In-map-back f y [] h = absurd h
  In-map-back f y (x ∷ xs) (inl e) = (x, e, inl refl)
  In-map-back f y (x ∷ xs) (inr h) = let r = In-map-back f y xs h in (r.0, r.1, inr r.2)

  pub In-filter_map : (h : X → Option Y) (x : X) (y : Y) (xs : List X) → h x ≡ Some y → In x xs → In
      y (filter_map h xs)
  In-filter_map h x y [] e i = absurd i
  In-filter_map h x y (z ∷ xs) e (inl s) =
      subst (λ o. In y (cons_option o (filter_map h xs))) (sym (ap h s ∙ e)) (inl refl)
  In-filter_map h x y (z ∷ xs) e (inr i) = in_cons y (h z) (filter_map h xs) (In-filter_map h x y xs
      e i)

  pub In-filter_map-back : (h : X → Option Y) (y : Y) (xs : List X) → In y (filter_map h xs) → (x :
      X) × (h x ≡ Some y) × In x xs
  In-filter_map-back h y [] i = absurd i
  In-filter_map-back h y (x ∷ xs) i =
      ⊎_elim (λ (e : h x ≡ Some y). (x, e, inl refl))
      (λ (r : In y (filter_map h xs)). let b = In-filter_map-back h y xs r in (b.0, b.1, inr b.2))
      (cons_in y (h x) (filter_map h xs) i)

  pub In-flat_map : (f : X → List Y) (x : X) (y : Y) (xs : List X) → In y (f x) → In x xs → In y
      (flat_map f xs)
  In-flat_map f x y [] h i = absurd i
  In-flat_map f x y (z ∷ xs) h (inl e) = In-left y (f z) (flat_map f xs) (subst (λ v. In y (f v))
      (sym e) h)
  In-flat_map f x y (z ∷ xs) h (inr i) = In-right y (f z) (flat_map f xs) (In-flat_map f x y xs h i)

  pub In-flat_map-back : (f : X → List Y) (y : Y) (xs : List X) → In y (flat_map f xs) → (x : X) ×
      In y (f x) × In x xs
  In-flat_map-back f y [] h = absurd h
  In-flat_map-back f y (x ∷ xs) h =
      ⊎_elim (λ a. (x, a, inl refl)) (λ b. let r = In-flat_map-back f y xs b in (r.0, r.1, inr r.2))
      (In-append y (f x) (flat_map f xs) h)

  pub flat_map-append : (f : X → List Y) (xs ys : List X) → flat_map f (xs ++ ys) ≡ flat_map f xs ++
      flat_map f ys
  flat_map-append f [] ys = refl
  flat_map-append f (x ∷ xs) ys = ap (λ zs. f x ++ zs) (flat_map-append f xs ys) ∙ sym (append_assoc
      (f x) (flat_map f xs) (flat_map f ys))

pub count-append : (x : ℕ) (xs ys : List ℕ) → count x (xs ++ ys) ≡ count x xs + count x ys
count-append x [] ys = omega arith
count-append x (y ∷ xs) ys = omega (arith, count-append x xs ys)

pub count-In : (x : ℕ) (xs : List ℕ) → In x xs → 1 ≤ count x xs
count-In x [] h = absurd h
count-In x (y ∷ xs) (inl e) = grind (arith, nat_tests)
count-In x (y ∷ xs) (inr h) = omega (arith, count-In x xs h)

pub apart-count : (xs : List ℕ) → ((x : ℕ) → count x xs ≤ 1) → Pairwise ◌≢◌ xs
apart-count [] h = tt
apart-count (x ∷ xs) h = (
  In-All _ xs (λ y i e.
      let many : 1 ≤ count y xs = count-In y xs i in
      let most : cond (nat_eq x y) 1 0 + count y xs ≤ 1 = h y in
      absurd (grind (arith, nat_tests))),
  apart-count xs (λ y. omega (arith, h y)),
)

count-above : (x y : ℕ) (xs : List ℕ) → x ≤ y → AllByRecursion (λ z. y < z) xs → count x xs ≡ 0
count-above x y [] le all = refl
count-above x y (z ∷ xs) le all =
    let rest : count x xs ≡ 0 = count-above x y xs le all.1 in
    let far : y < z = all.0 in
    grind (arith, nat_tests)

pub count-rising : (x : ℕ) (xs : List ℕ) → Pairwise ◌<◌ xs → count x xs ≤ 1
count-rising x [] rises = omega arith
count-rising x (y ∷ xs) rises =
    ⊎_elim (λ (le : x ≤ y). let none : count x xs ≡ 0 = count-above x y xs le rises.0 in grind
    (arith, nat_tests))
    (λ (lt : y < x). let rest : count x xs ≤ 1 = count-rising x xs rises.1 in grind (
      arith,
      nat_tests,
    ))
    (let e : (x ≤ y) ⊎ (y < x) = grind arith in e)

pub sum_below-le : (n : ℕ) (f g : ℕ → ℕ) → ((s : ℕ) → s < n → f s ≤ g s) → sum_below n f ≤ sum_below
    n g
sum_below-le zero f g h = omega arith
sum_below-le (suc n) f g h = omega (
  arith,
  sum_below-le n f g (λ s lt. h s (omega arith)),
  h n
      (omega arith),
)

pub sum_below-same : (n : ℕ) (f g : ℕ → ℕ) → ((s : ℕ) → s < n → f s ≡ g s) → sum_below n f ≡
    sum_below n g
sum_below-same zero f g h = refl
sum_below-same (suc n) f g h = omega (
  arith,
  sum_below-same n f g (λ s lt. h s (omega arith)),
  h n
      (omega arith),
)

pub sum_below-zero : (n : ℕ) → sum_below n (λ s. 0) ≡ 0
sum_below-zero zero = refl
sum_below-zero (suc n) = omega (arith, sum_below-zero n)

pub sum_below-add : (n : ℕ) (f g : ℕ → ℕ) → sum_below n (λ s. f s + g s) ≡ sum_below n f + sum_below
    n g
sum_below-add zero f g = refl
sum_below-add (suc n) f g = omega (arith, sum_below-add n f g)

-- the order of two sums doesn't matter
pub sum_below-swap : (n m : ℕ) (f : ℕ → ℕ → ℕ) → sum_below n (λ s. sum_below m (λ w. f s w)) ≡
    sum_below m (λ w. sum_below n (λ s. f s w))
sum_below-swap zero m f = sym (sum_below-zero m)
sum_below-swap (suc n) m f = omega (
  arith,
  sum_below-swap n m f,
  sum_below-add m (λ w. sum_below n
      (λ s. f s w)) (λ w. f n w),
)

-- of all numbers below n one counts
pub sum_below-one : (n s : ℕ) (k : ℕ) → sum_below n (λ t. cond (nat_eq s t) k 0) ≤ k
sum_below-one zero s k = omega arith
sum_below-one (suc n) s k =
    let rest : sum_below n (λ t. cond (nat_eq s t) k 0) ≤ k = sum_below-one n s k in
    ⊎_elim (λ (e : s ≡ n). let none : sum_below n (λ t. cond (nat_eq s t) k 0) ≡ 0 = above n s k
    (omega arith) in grind (arith, nat_tests))
    (λ (ne : s ≢ n). grind (arith, nat_tests))
    (let e : (s ≡ n) ⊎ (s ≢ n) = grind arith in e)
  where
    above : (n s k : ℕ) → n ≤ s → sum_below n (λ t. cond (nat_eq s t) k 0) ≡ 0
    above zero s k le = refl
    above (suc n) s k le = let rest : sum_below n (λ t. cond (nat_eq s t) k 0) ≡ 0 = above n s k
        (omega arith) in grind (arith, nat_tests)

-- what rises and is in ranges has each number no more often than these
pub count-within : (ranges : ℕ → ℕ) (xs : List ℕ) → Pairwise ◌<◌ xs
    → AllByRecursion (λ x. 1 ≤ ranges x) xs → (x : ℕ) → count x xs ≤ ranges x
count-within ranges [] rises all x = omega arith
count-within ranges (y ∷ xs) rises all x =
    let once : count x (y ∷ xs) ≤ 1 = count-rising x (y ∷ xs) rises in
    ⊎_elim (λ (e : y ≡ x). let some : 1 ≤ ranges x = subst (λ z. 1 ≤ ranges z) e all.0 in
    omega (arith, once, some))
    (λ (ne : y ≢ x). let rest : count x xs ≤ ranges x = count-within ranges xs rises.1 all.1 x in
    grind (arith, nat_tests))
    (let e : (y ≡ x) ⊎ (y ≢ x) = grind arith in e)

pub eq_self : (n : ℕ) → nat_eq n n ≡ true
eq_self n = grind (arith, nat_tests)

pub sum_below-at : (n s : ℕ) (f : ℕ → ℕ) → s < n → f s ≤ sum_below n f
sum_below-at zero s f lt = absurd (omega arith)
sum_below-at (suc n) s f lt =
    ⊎_elim (λ (less : s < n). omega (arith, sum_below-at n s f less))
    (λ (e : s ≡ n). omega (arith, ap f e))
    (let e : (s < n) ⊎ (s ≡ n) = grind arith in e)

-- one of the numbers below n counts
pub at_least : (m s k : ℕ) → s < m → k ≤ sum_below m (λ w. cond (nat_eq s w) k 0)
at_least m s k lt =
    let one : cond (nat_eq s s) k 0 ≡ k = ap (λ b. cond b k 0) (eq_self s) in
    omega (arith, sum_below-at m s (λ w. cond (nat_eq s w) k 0) lt, one)
