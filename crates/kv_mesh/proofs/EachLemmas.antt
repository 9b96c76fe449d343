-- What holds of the elements of lists, place by place.
use Rattle.std.proofs.Common.{◌≡◌, ℕ, zero, suc, List, [], ◌∷◌, length, refl, sym, subst, subst₂}
use Rattle.std.proofs.Common.{arith}
use Rattle.std.proofs.lemmas.List.Elements.{All-cons, All-nil}
use Rattle.std.specs.List.{AllZip}
use Rattle.std.specs.Prelude.{All}
use Rattle.kv_mesh.specs.Places.{IsAt}

module _ {X Y : Type 0} (R : X → Y → Type 0) where
  -- what is so related place by place
  pub zip-at : (xs : List X) (ys : List Y) → AllZip R xs ys → (k : ℕ) (x : X) (y : Y)
      → IsAt xs k x → IsAt ys k y → R x y
  zip-at [] [] h k x y a b = absurd (omega (arith, a.0))
  zip-at [] (v ∷ ys) h k x y a b = absurd h
  zip-at (u ∷ xs) [] h k x y a b = absurd h
  zip-at (u ∷ xs) (v ∷ ys) h zero x y a b = subst₂ R (sym a.1) (sym b.1) h.0
  zip-at (u ∷ xs) (v ∷ ys) h (suc k) x y a b =
      zip-at xs ys h.1 k x y (omega (arith, a.0), a.1) (omega (arith, b.0), b.1)

  pub zip-long : (xs : List X) (ys : List Y) → AllZip R xs ys → length ys ≡ length xs
  zip-long [] [] h = omega arith
  zip-long [] (v ∷ ys) h = absurd h
  zip-long (u ∷ xs) [] h = absurd h
  zip-long (u ∷ xs) (v ∷ ys) h = let rest = zip-long xs ys h.1 in omega (arith, rest)

module _ {X : Type 0} (P : X → Type 0) where
  -- what holds of all holds at each place, and the other way round
  pub all-at : (xs : List X) → All P xs → (k : ℕ) (x : X) → IsAt xs k x → P x
  all-at xs all k x a = subst P (sym a.1) (all k x a.0)

  pub at-all : (xs : List X) → ((k : ℕ) (x : X) → IsAt xs k x → P x) → All P xs
  at-all [] each = All-nil P
  at-all (y ∷ xs) each = All-cons P y xs (each 0 y (omega arith, refl))
      (at-all xs (λ k x a. each (suc k) x (omega (arith, a.0), a.1)))
