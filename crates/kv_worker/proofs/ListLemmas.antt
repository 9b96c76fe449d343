-- What holds of each element of a list, and of each and each later one.
use Rattle.std.proofs.Common.{◌≡◌, ℕ, zero, suc, ◌<◌, ◌≤◌, List, [], ◌∷◌, Option, None, Some, Bool, true}
use Rattle.std.proofs.Common.{false, cond, subst, arith, slice_get, filter, refl}
use Rattle.std.specs.List.{AllByRecursion}
use Rattle.kv_model.specs.Pairwise.{Pairwise}

pub none-some : {X : Type 0} (x : X) → None ≡ Some x → ⊥
none-some x e = cc

some-same : {X : Type 0} (x y : X) → Some x ≡ Some y → x ≡ y
some-same x y e = cc

-- what holds of each element holds of the one with this number
pub all-at : {X : Type 0} (P : X → Type 0) (xs : List X) (i : ℕ) (x : X) → AllByRecursion P xs
    → slice_get xs i ≡ Some x → P x
all-at P [] i x all is = absurd (none-some x is)
all-at P (first ∷ xs) zero x all is = subst P (some-same first x is) all.0
all-at P (first ∷ xs) (suc i) x all is = all-at P xs i x all.1 is

-- what holds of each element and each later one holds of these two
pub pairwise-at : {X : Type 0} (R : X → X → Type 0) (xs : List X) (i j : ℕ) (x y : X)
    → Pairwise R xs → i < j → slice_get xs i ≡ Some x → slice_get xs j ≡ Some y → R x y
pairwise-at R [] i j x y pairs lt is at = absurd (none-some x is)
pairwise-at R (first ∷ xs) i zero x y pairs lt is at = absurd (omega arith)
pairwise-at R (first ∷ xs) zero (suc j) x y pairs lt is at =
    subst (λ z. R z y) (some-same first x is) (all-at (R first) xs j y pairs.0 at)
pairwise-at R (first ∷ xs) (suc i) (suc j) x y pairs lt is at =
    pairwise-at R xs i j x y pairs.1 (omega arith) is at

-- what a filter keeps passes its test
pub filter-passes : {X : Type 0} (test : X → Bool) (xs : List X)
    → AllByRecursion (λ x. test x ≡ true) (filter test xs)
filter-passes test [] = tt
filter-passes {X} test (x ∷ xs) = by (test x) refl (filter-passes test xs)
  where
    by : (b : Bool) → test x ≡ b → AllByRecursion (λ y. test y ≡ true) (filter test xs)
        → AllByRecursion (λ y. test y ≡ true) (cond b (x ∷ filter test xs) (filter test xs))
    by true e rest = (e, rest)
    by false e rest = rest
