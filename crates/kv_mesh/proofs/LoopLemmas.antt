-- Loops over the elements of a list.
use Rattle.std.proofs.Common.{◌≡◌, List, [], ◌∷◌, ◌++◌, length, map, refl, sym, ap, ◌∙◌, subst}
use Rattle.std.proofs.Common.{arith}
use Rattle.std.proofs.lemmas.List.{append-nil, map-append}
use Rattle.std.specs.List.{list_any}
use Rattle.std.specs.Prelude.{Bool, Option, ◌||◌}
use Rattle.kv_session.specs.declared.ending.Ending.{Ending}
use Rattle.kv_session.specs.declared.ending.SessionParts.{SessionParts}
use Rattle.kv_mesh.specs.Places.{IsAt}

module _ {X : Type 0} where
  here : (xs : List X) (x : X) (rest : List X) → IsAt (xs ++ x ∷ rest) (length xs) x
  here [] x rest = (omega arith, refl)
  here (y ∷ xs) x rest = let h = here xs x rest in (omega (arith, h.0), h.1)

  -- the element behind those so far
  pub at-behind : (xs : List X) (x : X) (rest all : List X) → xs ++ x ∷ rest ≡ all
      → IsAt all (length xs) x
  at-behind xs x rest all e = subst (λ ys. IsAt ys (length xs) x) e (here xs x rest)

  -- those so far are all where none is left
  pub all-seen : (xs rest all : List X) → xs ++ rest ≡ all → length rest ≡ 0 → xs ≡ all
  all-seen xs [] all e none = sym (append-nil xs) ∙ e
  all-seen xs (x ∷ rest) all e none = absurd (omega (arith, none))

-- a list that is empty
pub none-left : {X : Type 0} (xs : List X) → length xs ≡ 0 → xs ≡ []
none-left [] e = refl
none-left (x ∷ xs) e = absurd (omega (arith, e))

-- one more was handed out
pub map-more : {X Y : Type 0} (f : X → Y) (xs : List X) (x : X) (ys new : List Y) (y : Y)
    → ys ≡ map f xs → new ≡ ys ++ y ∷ [] → y ≡ f x → new ≡ map f (xs ++ x ∷ [])
map-more f xs x ys new y was is same =
    is ∙ ap (λ zs. zs ++ y ∷ []) was ∙ ap (λ z. map f xs ++ z ∷ []) same
    ∙ sym (map-append f xs (x ∷ []))

-- whether one of the things that g makes passes
pub list_any-map : {X Y : Type 0} (f : Y → Bool) (g : X → Y) (xs : List X)
    → list_any f (map g xs) ≡ list_any (λ x. f (g x)) xs
list_any-map f g [] = refl
list_any-map f g (x ∷ xs) = ap (λ b. f (g x) || b) (list_any-map f g xs)

-- these parts
abbrev parts : {So Si : Type 0} → So → Si → Option Ending → SessionParts So Si
parts source sink ending = record { source = source; sink = sink; ending = ending }

-- the same parts
pub parts-same : {So Si : Type 0} (source source' : So) (sink sink' : Si)
    (ending ending' : Option Ending) → source ≡ source' → sink ≡ sink' → ending ≡ ending'
    → parts source sink ending ≡ parts source' sink' ending'
parts-same source source' sink sink' ending ending' a b c =
    ap (λ z. parts z sink ending) a ∙ ap (λ z. parts source' z ending) b
    ∙ ap (parts source' sink') c
