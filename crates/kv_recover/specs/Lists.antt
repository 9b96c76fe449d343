-- The free list of a class.
use Rattle.std.specs.Prelude.{◌≡◌, ℕ, ◌<◌, ◌-◌, List, slice_get, nat_lt, Option, None, Some}
use Rattle.std.specs.Prelude.{if◌then◌else◌}
use Rattle.kv_model.specs.Slots.{Tombstone}
use Rattle.kv_model.specs.Reading.{Reading}
use Rattle.kv_recover.specs.Freed.{HasKept}

-- the list has the slots below the end that no kept item has, in order
pub record IsFreeList (reading : Reading) (worker workers class end : ℕ) (list : List ℕ) : Type
    0 where
  pub rising : (i j s t : ℕ) → i < j → slice_get list i ≡ Some s → slice_get list j ≡ Some t → s < t
  pub free : (i s : ℕ) → slice_get list i ≡ Some s → (s < end)
      × (HasKept reading worker workers class s → ⊥)
  pub all : (s : ℕ) → s < end → (HasKept reading worker workers class s → ⊥)
      → (i : ℕ) × (slice_get list i ≡ Some s)

-- the slot 64 places before the one at this place of the list, if any
abbrev pub link_at : List ℕ → ℕ → Option ℕ
link_at list place = if nat_lt place 64 then None else slice_get list (place - 64)

-- the tombstone of each slot of the list links to the one 64 places before it, if any
abbrev pub HasLinks : Reading → ℕ → ℕ → List ℕ → Type 0
HasLinks reading class floor list = (place slot : ℕ) → slice_get list place ≡ Some slot
    → reading class slot ≡ Tombstone floor (link_at list place)
