-- Lemmas on bodies that are a number.
use Rattle.std.proofs.Common.{◌≡◌, ℕ, ◌^◌, ◌<◌, List, length, Option, Some, None, inl, inr, arith}
use Rattle.std.proofs.Common.{eqb}
use Rattle.std.specs.Option.{option_and_then, option_map}
use Rattle.std.specs.Int.{w64, from_le_bytes}
use Rattle.std.proofs.lemmas.Bool.{eqb-true, cases_Bool}
use Rattle.kv_frames.specs.Reading.{number_in}
use Rattle.kv_frames.proofs.FramingLemmas.{IsBytes}

-- a number of eight bytes
pub from_le_bytes_8-fits : (bytes : List ℕ) → IsBytes bytes → from_le_bytes w64 bytes < 2 ^ 64
from_le_bytes_8-fits bytes fits =
    omega (arith, fits 0, fits 1, fits 2, fits 3, fits 4, fits 5, fits 6, fits 7)

-- what is read of a body that is a number is read of that number, and it has eight bytes
pub number_back : {X : Type 0} (body : List ℕ) (f : ℕ → Option X) (x : X)
    → option_and_then f (number_in body) ≡ Some x
    → (length body ≡ 8) × (f (from_le_bytes w64 body) ≡ Some x)
number_back body f x e =
    elim (cases_Bool (eqb (length body) 8)) [
      | inl eight ↦ (eqb-true _ _ eight, rw eight at e)
      | inr other ↦
          let none = rw other at e in
          absurd cc
    ]

-- what is made of a body that is a number is made of that number, and it has eight bytes
pub number_made : {X : Type 0} (body : List ℕ) (f : ℕ → X) (x : X)
    → option_map f (number_in body) ≡ Some x
    → (length body ≡ 8) × (Some (f (from_le_bytes w64 body)) ≡ Some x)
number_made body f x e =
    elim (cases_Bool (eqb (length body) 8)) [
      | inl eight ↦ (eqb-true _ _ eight, rw eight at e)
      | inr other ↦
          let none = rw other at e in
          absurd cc
    ]
