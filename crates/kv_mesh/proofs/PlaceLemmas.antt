-- Lemmas on places of lists.
use Rattle.std.proofs.Common.{◌≡◌, ◌≢◌, ◌⊎◌, ⊎_elim, ℕ, zero, suc, ◌<◌, List, [], ◌∷◌}
use Rattle.std.proofs.Common.{length, map, get_or, set, refl, sym, ap, ◌∙◌, subst, arith}
use Rattle.std.proofs.lemmas.List.{length-set, length-map, get_or-map}
use Rattle.std.proofs.lemmas.List.{get_or-set_same, get_or-set_other}
use Rattle.kv_mesh.specs.Places.{IsAt, given_at, AtEach}

same-place : (i k : ℕ) → (i ≡ k) ⊎ (i ≢ k)
same-place i k = grind arith

module _ {X : Type 0} where
  -- the element at a place
  pub pick : (xs : List X) (k : ℕ) → k < length xs → (x : X) × IsAt xs k x
  pick [] k lt = absurd (omega arith)
  pick (x ∷ xs) zero lt = (x, (lt, refl))
  pick (x ∷ xs) (suc k) lt =
      let p = pick xs k (omega (arith, lt)) in
      (p.0, (lt, p.1.1))

  -- there is one
  pub one-at : (xs : List X) (k : ℕ) (x y : X) → IsAt xs k x → IsAt xs k y → x ≡ y
  one-at [] k x y a b = absurd (omega (arith, a.0))
  one-at (z ∷ xs) zero x y a b = a.1 ∙ sym b.1
  one-at (z ∷ xs) (suc k) x y a b =
      one-at xs k x y (omega (arith, a.0), a.1) (omega (arith, b.0), b.1)

  pub at-set-here : (xs : List X) (k : ℕ) (y x : X) → k < length xs → IsAt (set xs k y) k x
      → x ≡ y
  at-set-here xs k y x lt a = a.1 ∙ get_or-set_same xs k y x lt

  pub set-here : (xs : List X) (k : ℕ) (y : X) → k < length xs → IsAt (set xs k y) k y
  set-here xs k y lt =
      (omega (arith, length-set xs k y, lt), sym (get_or-set_same xs k y y lt))

  pub at-set-there : (xs : List X) (k j : ℕ) (y x : X) → k ≢ j → IsAt (set xs k y) j x
      → IsAt xs j x
  at-set-there xs k j y x ne a = (
    omega (arith, length-set xs k y, a.0),
    a.1 ∙ get_or-set_other xs k j y x (λ e. ne (sym e)),
  )

  -- what holds of each element, after one was set
  pub each-set : (P : ℕ → X → Type 0) (xs : List X) (k : ℕ) (y : X) → k < length xs → P k y
      → ((j : ℕ) (x : X) → IsAt xs j x → P j x) → (j : ℕ) (x : X) → IsAt (set xs k y) j x → P j x
  each-set P xs k y lt here all j x a = ⊎_elim
      (λ (e : k ≡ j). subst (λ m. P m x) e (subst (P k)
      (sym (at-set-here xs k y x lt (subst (λ m. IsAt (set xs k y) m x) (sym e) a))) here))
      (λ (ne : k ≢ j). all j x (at-set-there xs k j y x ne a)) (same-place k j)

  module _ (R : X → X → Type 0) where
    pub each-same : ((x : X) → R x x) → (xs : List X) → AtEach R xs xs
    each-same same xs k x y a b = subst (R x) (one-at xs k x y a b) (same x)

    -- one was set to one that is so related to it
    pub each-one : ((x : X) → R x x) → (xs : List X) (k : ℕ) (was now : X) → IsAt xs k was
        → R was now → AtEach R xs (set xs k now)
    each-one same xs k was now at related j x y a b =
        each-set (λ m z. (v : X) → IsAt xs m v → R v z) xs k now at.0
        (λ v c. subst (λ u. R u now) (one-at xs k was v at c) related)
        (λ m z c v d. subst (R v) (one-at xs m v z d c) (same v)) j y b x a

    pub each-then : ((x y z : X) → R x y → R y z → R x z) → (xs ys zs : List X)
        → length ys ≡ length xs → AtEach R xs ys → AtEach R ys zs → AtEach R xs zs
    each-then trans xs ys zs same first second k x z a b =
        let p = pick ys k (omega (arith, same, a.0)) in
        trans x p.0 z (first k x p.0 a p.1) (second k p.0 z p.1 b)

module _ {X Y : Type 0} where
  pub given-is : (f : X → Y) (none : Y) (xs : List X) (k : ℕ) (x : X) → IsAt xs k x
      → given_at f none xs k ≡ f x
  given-is f none xs k x a = get_or-map f xs k x none a.0 ∙ ap f (sym a.1)

  -- lists of which f gives the same are as long, and f gives the same at each place
  pub same-length : (f : X → Y) (xs ys : List X) → map f ys ≡ map f xs → length ys ≡ length xs
  same-length f xs ys e = sym (length-map ys f) ∙ ap length e ∙ length-map xs f

  pub same-at : (f : X → Y) (xs ys : List X) (k : ℕ) (x y : X) → map f ys ≡ map f xs
      → IsAt xs k x → IsAt ys k y → f y ≡ f x
  same-at f xs ys k x y e a b = sym (given-is f (f x) ys k y b)
      ∙ ap (λ zs. get_or zs k (f x)) e ∙ given-is f (f x) xs k x a

  -- an element was set to one of which f gives the same
  pub map-one : (f : X → Y) (xs : List X) (k : ℕ) (was now : X) → IsAt xs k was
      → f now ≡ f was → map f (set xs k now) ≡ map f xs
  map-one f [] k was now a same = refl
  map-one f (x ∷ xs) zero was now a same = ap (λ y. y ∷ map f xs) (same ∙ ap f a.1)
  map-one f (x ∷ xs) (suc k) was now a same =
      ap (λ ys. f x ∷ ys) (map-one f xs k was now (omega (arith, a.0), a.1) same)
