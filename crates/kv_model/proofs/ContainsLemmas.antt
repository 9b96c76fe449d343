-- Lemmas on the elements of a list.
use Rattle.std.proofs.Common.{◌≡◌, zero, suc, ◌⊎◌, inl, inr, List, [], ◌∷◌, ◌++◌}
use Rattle.std.proofs.Common.{refl, arith, subst, Contains}
use Rattle.std.specs.List.{AllByRecursion}

-- an element is the first one or in the rest
pub Contains-cons : {X : Type 0} (first : X) (rest : List X) (x : X) → Contains (first ∷ rest) x
    → (first ≡ x) ⊎ Contains rest x
Contains-cons first rest x (zero, inside, is) = inl is
Contains-cons first rest x (suc k, inside, is) = inr (k, omega (arith, inside), is)

pub Contains-first : {X : Type 0} (first : X) (rest : List X) → Contains (first ∷ rest) first
Contains-first first rest = (0, omega arith, refl)

pub Contains-behind : {X : Type 0} (first : X) (rest : List X) (x : X) → Contains rest x
    → Contains (first ∷ rest) x
Contains-behind first rest x has = (suc has.0, omega (arith, has.1), has.2)

-- an element stays one with another behind
pub Contains-before : {X : Type 0} (xs : List X) (last x : X) → Contains xs x
    → Contains (xs ++ last ∷ []) x
Contains-before [] last x has = absurd (omega (arith, has.1))
Contains-before (first ∷ xs) last x has = by (Contains-cons first xs x has)
    (λ later. Contains-before xs last x later)
  where
    by : (first ≡ x) ⊎ Contains xs x → (Contains xs x → Contains (xs ++ last ∷ []) x)
        → Contains (first ∷ xs ++ last ∷ []) x
    by (inl same) more = (0, omega arith, same)
    by (inr later) more = Contains-behind first (xs ++ last ∷ []) x (more later)

-- and no other comes by it
pub Contains-split : {X : Type 0} (xs : List X) (last x : X) → Contains (xs ++ last ∷ []) x
    → Contains xs x ⊎ (last ≡ x)
Contains-split [] last x has = by (Contains-cons last [] x has)
  where
    by : (last ≡ x) ⊎ Contains [] x → Contains [] x ⊎ (last ≡ x)
    by (inl same) = inr same
    by (inr none) = inl none
Contains-split (first ∷ xs) last x has = by (Contains-cons first (xs ++ last ∷ []) x has)
    (λ later. Contains-split xs last x later)
  where
    by : (first ≡ x) ⊎ Contains (xs ++ last ∷ []) x
        → (Contains (xs ++ last ∷ []) x → Contains xs x ⊎ (last ≡ x))
        → Contains (first ∷ xs) x ⊎ (last ≡ x)
    by (inl same) more = inl (0, omega arith, same)
    by (inr later) more = behind (more later)
      where
        behind : Contains xs x ⊎ (last ≡ x) → Contains (first ∷ xs) x ⊎ (last ≡ x)
        behind (inl has) = inl (Contains-behind first xs x has)
        behind (inr same) = inr same

-- what holds of each element holds by recursion
pub All-members : {X : Type 0} (P : X → Type 0) (xs : List X) → ((x : X) → Contains xs x → P x)
    → AllByRecursion P xs
All-members P [] each = tt
All-members P (x ∷ xs) each = (
  each x (Contains-first x xs),
  All-members P xs (λ y has. each y (Contains-behind x xs y has)),
)

pub All-member : {X : Type 0} (P : X → Type 0) (xs : List X) (x : X) → AllByRecursion P xs
    → Contains xs x → P x
All-member P [] x all has = absurd (omega (arith, has.1))
All-member P (first ∷ xs) x all has = by (Contains-cons first xs x has)
    (λ later. All-member P xs x all.1 later)
  where
    by : (first ≡ x) ⊎ Contains xs x → (Contains xs x → P x) → P x
    by (inl same) more = subst P same all.0
    by (inr later) more = more later
