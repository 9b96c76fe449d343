-- What a disk that keeps its pages alone keeps true of its fields.
use Rattle.std.specs.Prelude.{◌≡◌, ℕ, ◌+◌, ◌<◌, ◌≤◌, ◌==◌, ◌&&◌, if◌then◌else◌, Option, None, Some}
use Rattle.std.specs.Prelude.{List, length, slice_index, Vec, vec_len, vec_capacity, IsSome}
use Rattle.std.specs.HashMap.{HashMap, hash_map_len, spare}
use Rattle.std.specs.declared.alloc.Global.{Global}
use Rattle.kv_disk.specs.Plain.{place_of}

-- the room is taken, each page has a place of its own, and a file's length is one past the last page
-- of it that was written
pub record IsPlain {S : Type 0} (places : HashMap (ℕ × ℕ) ℕ S) (contents : Vec (List ℕ) Global)
    (lengths : List ℕ) (room : ℕ) : Type 0 where
  pub room_for_places : room ≤ hash_map_len places + spare places
  pub room_for_contents : room ≤ vec_capacity contents
  pub as_many : hash_map_len places ≡ vec_len contents
  pub in_range : (f p i : ℕ) → place_of places.entries f p ≡ Some i → i < length contents.items
  pub apart : (f p g q i : ℕ) → place_of places.entries f p ≡ Some i → place_of places.entries g q
      ≡ Some i → (f ≡ g) × (p ≡ q)
  pub above : (f p : ℕ) → slice_index lengths f ≤ p → place_of places.entries f p ≡ None
  pub last : (f p : ℕ) → slice_index lengths f ≡ p + 1 → IsSome (place_of places.entries f p)

-- one page more has a place
abbrev pub Places : (ℕ → ℕ → Option ℕ) → (ℕ → ℕ → Option ℕ) → ℕ → ℕ → ℕ → Type 0
Places old new file page place = (f p : ℕ) → new f p ≡ (if (file == f) && (page == p)
    then Some place else old f p)
