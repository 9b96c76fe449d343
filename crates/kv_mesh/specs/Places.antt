-- What stands at a place of a list.
use Rattle.std.specs.Prelude.{◌≡◌, ◌<◌, ℕ, List, length, map, slice_index_or}

-- the element stands at this place
abbrev pub IsAt : {X : Type 0} → List X → ℕ → X → Type 0
IsAt xs place x = (place < length xs) × (x ≡ slice_index_or xs place x)

-- what f gives for the element at this place, and something else past the end
abbrev pub given_at : {X Y : Type 0} → (X → Y) → Y → List X → ℕ → Y
given_at f none xs place = slice_index_or (map f xs) place none

-- what stands at a place of both lists is so related
abbrev pub AtEach : {X : Type 0} → (X → X → Type 0) → List X → List X → Type 0
AtEach {X} R xs ys = (place : ℕ) (x y : X) → IsAt xs place x → IsAt ys place y → R x y
