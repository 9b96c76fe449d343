-- Lemmas on lists and options.
use Rattle.std.proofs.Common.{◌≡◌, List, [], ◌∷◌, filter, length, Some, None, Bool, true}
use Rattle.std.proofs.Common.{false, cond, refl, ap, arith}
use Rattle.std.specs.List.{AllByRecursion}

pub same-some : {X : Type 0} (x y : X) → Some x ≡ Some y → x ≡ y
same-some x y e = cc

pub none-some : {X : Type 0} (x : X) → None ≡ Some x → ⊥
none-some x e = cc

pub heads : {X : Type 0} (x y : X) (xs ys : List X) → x ∷ xs ≡ y ∷ ys → x ≡ y
heads x y xs ys e = cc

pub tails : {X : Type 0} (x y : X) (xs ys : List X) → x ∷ xs ≡ y ∷ ys → xs ≡ ys
tails x y xs ys e = cc

pub none-here : {X : Type 0} (x : X) (xs : List X) → x ∷ xs ≡ [] → ⊥
none-here x xs e = omega (arith, ap length e)

-- what is filtered passes the test
pub filtered : {X : Type 0} (test : X → Bool) (xs : List X)
    → AllByRecursion (λ x. test x ≡ true) (filter test xs)
filtered test [] = tt
filtered test (x ∷ xs) = by (test x) refl (filtered test xs)
  where
    by : (b : Bool) → test x ≡ b → AllByRecursion (λ y. test y ≡ true) (filter test xs)
        → AllByRecursion (λ y. test y ≡ true) (cond b (x ∷ filter test xs) (filter test xs))
    by true e rest = (e, rest)
    by false e rest = rest
