-- the end of the slots so far
use Rattle.std.proofs.Common.{◌≡◌, ℕ, ◌+◌, ◌<◌, ◌≤◌, true}
use Rattle.std.specs.List.{list_all}
use Rattle.kv_model.specs.Plain.{image_of, parts_of, is_zeros}
use Rattle.kv_model.proofs.image.end_of.Given as goal

abbrev pub invariant-loop-slot : goal.invariant-loop-slot
invariant-loop-slot l = record {
  within : l.end ≤ l.slot;
  rest : (slot : ℕ) → l.end ≤ slot → slot < l.slot
      → list_all is_zeros (parts_of (image_of l.pages) l.class slot) ≡ true;
  last : (slot : ℕ) → l.end ≡ slot + 1
      → list_all is_zeros (parts_of (image_of l.pages) l.class slot) ≡ true → ⊥;
}
