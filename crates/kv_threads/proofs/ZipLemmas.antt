-- Two lists of which the elements at each place are related.
use Rattle.std.proofs.Common.{ℕ, zero, suc, List, [], ◌∷◌, ◌++◌, get_or, set}
use Rattle.std.specs.List.{AllZip}

module _ {X : Type 0} (R : X → X → Type 0) where
  pub AllZip-refl : ((x : X) → R x x) → (xs : List X) → AllZip R xs xs
  AllZip-refl same [] = tt
  AllZip-refl same (x ∷ xs) = (same x, AllZip-refl same xs)

  -- the last elements of both
  pub AllZip-pop : (xs ys : List X) (x y : X) → AllZip R (xs ++ x ∷ []) (ys ++ y ∷ [])
      → AllZip R xs ys × R x y
  AllZip-pop [] [] x y a = (tt, a.0)
  AllZip-pop [] (z ∷ []) x y a = absurd a.1
  AllZip-pop [] (z ∷ w ∷ ys) x y a = absurd a.1
  AllZip-pop (w ∷ []) [] x y a = absurd a.1
  AllZip-pop (w ∷ v ∷ xs) [] x y a = absurd a.1
  AllZip-pop (w ∷ xs) (z ∷ ys) x y a =
      let rest = AllZip-pop xs ys x y a.1 in ((a.0, rest.0), rest.1)

  module _ (on : (x y z : X) → R x y → R y z → R x z) where
    pub AllZip-trans : (xs ys zs : List X) → AllZip R xs ys → AllZip R ys zs → AllZip R xs zs
    AllZip-trans [] [] [] a b = tt
    AllZip-trans [] [] (z ∷ zs) a b = absurd b
    AllZip-trans [] (y ∷ ys) zs a b = absurd a
    AllZip-trans (x ∷ xs) [] zs a b = absurd a
    AllZip-trans (x ∷ xs) (y ∷ ys) [] a b = absurd b
    AllZip-trans (x ∷ xs) (y ∷ ys) (z ∷ zs) a b =
        (on x y z a.0 b.0, AllZip-trans xs ys zs a.1 b.1)

    -- one element of the second is written over by one that it is related to
    pub AllZip-set : (xs ys : List X) (place : ℕ) (d v : X) → AllZip R xs ys
        → R (get_or ys place d) v → AllZip R xs (set ys place v)
    AllZip-set [] [] place d v a r = tt
    AllZip-set [] (y ∷ ys) place d v a r = absurd a
    AllZip-set (x ∷ xs) [] place d v a r = absurd a
    AllZip-set (x ∷ xs) (y ∷ ys) zero d v a r = (on x y v a.0 r, a.1)
    AllZip-set (x ∷ xs) (y ∷ ys) (suc place) d v a r = (a.0, AllZip-set xs ys place d v a.1 r)
