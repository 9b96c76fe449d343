-- The reading of an image: what stands in each slot, and what is found, kept and given for a key.
use Rattle.std.specs.Prelude.{◌≡◌, ℕ, ◌*◌, ◌/◌, ◌%◌, ◌<◌, ◌≤◌, ◌⊎◌, List, [], ◌∷◌, take, drop, map}
use Rattle.std.specs.Prelude.{Option, None, Some, Bool, ◌==◌, if◌then◌else◌}
use Rattle.std.specs.List.{AllByRecursion, Contains, list_any, range_with_len}
use Rattle.kv_base.specs.Image.{Image}
use Rattle.kv_base.specs.Partition.{owner_of}
use Rattle.kv_model.specs.Layout.{Layout, is_small, slot_size, slots_in_page, pages_in_slot}
use Rattle.kv_model.specs.Slots.{Slot, Never, Item, read_small, read_large, stamp_field}

-- the page where the slot begins, in the file of its class
abbrev pub page_of : ℕ → ℕ → ℕ
page_of class slot = if is_small class then slot / slots_in_page class
    else slot * pages_in_slot class

-- where in that page the slot begins
abbrev pub offset_of : ℕ → ℕ → ℕ
offset_of class slot = if is_small class then slot % slots_in_page class * slot_size class else 0

-- the bytes of a slot of the classes 1 to 7
abbrev pub small_slot : Image → ℕ → ℕ → List ℕ
small_slot image class slot =
    take (slot_size class) (drop (offset_of class slot) (image class (page_of class slot)))

-- the pages of a slot of the classes 8 to 11
abbrev pub large_slot : Image → ℕ → ℕ → List (List ℕ)
large_slot image class slot =
    map (λ page. image class page) (range_with_len (page_of class slot) (pages_in_slot class))

-- the class is one of the layout
abbrev pub has_class : Layout → ℕ → Bool
has_class layout class = list_any (λ other. other == class) layout.classes

-- what stands in each slot, by class and slot
abbrev pub Reading : Type 0
Reading = ℕ → ℕ → Slot

-- the reading of the image; a class that the layout lacks has no slot in use
unfoldable pub slot_at : Layout → Image → Reading
slot_at layout image class slot =
    if has_class layout class
    then (if is_small class then read_small layout class (small_slot image class slot)
    else read_large layout class (large_slot image class slot))
    else Never 0

-- the numbers at the heads of the slot's pages, the stamp field first
unfoldable pub heads_at : Layout → Image → ℕ → ℕ → List ℕ
heads_at layout image class slot =
    if has_class layout class
    then (if is_small class then stamp_field (small_slot image class slot) ∷ []
    else map stamp_field (large_slot image class slot))
    else []

-- an item of a key: where it stands, its stamp and its value
pub record Copy : Type 0 where
  pub class : ℕ
  pub slot : ℕ
  pub stamp : ℕ
  pub value : List ℕ

-- the copy is an item of the key, which this worker of so many owns
pub record IsFound (reading : Reading) (worker workers : ℕ) (key : List ℕ)
    (copy : Copy) : Type 0 where
  pub stands : reading copy.class copy.slot ≡ Item copy.stamp key copy.value
  pub owned : owner_of key workers ≡ worker

-- the place of the first is not behind that of the second: by class, then slot
abbrev pub IsUpTo : Copy → Copy → Type 0
IsUpTo copy other = (copy.class < other.class) ⊎ ((copy.class ≡ other.class)
    × (copy.slot ≤ other.slot))

-- the first copy is preferred to the second: the greater stamp, and of equal stamps the least place
abbrev pub IsPreferred : Copy → Copy → Type 0
IsPreferred copy other = (other.stamp < copy.stamp) ⊎ ((copy.stamp ≡ other.stamp)
    × IsUpTo copy other)

-- the copy is found, and preferred to each that is found
pub record IsKept (reading : Reading) (worker workers : ℕ) (key : List ℕ)
    (copy : Copy) : Type 0 where
  pub found : IsFound reading worker workers key copy
  pub first : (other : Copy) → IsFound reading worker workers key other → IsPreferred copy other

-- what the reading gives for the key: stamp and value of the copy that is kept, or none where none
-- is found
abbrev pub Gives : Reading → ℕ → ℕ → List ℕ → Option (ℕ × List ℕ) → Type 0
Gives reading worker workers key None = (copy : Copy) → IsFound reading worker workers key copy → ⊥
Gives reading worker workers key (Some answer) = (copy : Copy)
    × IsKept reading worker workers key copy × (copy.stamp ≡ answer.0) × (copy.value ≡ answer.1)

-- the greatest number that stands at the head of any page of a slot, 0 where there is none
pub record IsFloor (heads : ℕ → ℕ → List ℕ) (floor : ℕ) : Type 0 where
  pub above : (class slot : ℕ) → AllByRecursion (λ stamp. stamp ≤ floor) (heads class slot)
  pub one : (floor ≡ 0) ⊎ ((class : ℕ) × (slot : ℕ) × Contains (heads class slot) floor)
