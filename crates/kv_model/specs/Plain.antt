-- What a plain reader answers of an image: by the definitions, slot by slot.
use Rattle.std.specs.Prelude.{◌≡◌, ◌↔◌, ◌⊎◌, ℕ, ◌+◌, ◌<◌, ◌≤◌, List, [], ◌∷◌, map, Bool, not, ◌==◌}
use Rattle.std.specs.Prelude.{◌&&◌, ◌||◌, nat_lt, nat_le, IsTrue, Contains, filter, fold}
use Rattle.std.specs.Prelude.{if◌then◌else◌, slice_index}
use Rattle.std.specs.List.{All, flat_map, list_all, list_any, range_with_len}
use Rattle.std.specs.Str.{bytes_eq}
use Rattle.kv_base.specs.Image.{Image, zero_page, with_page}
use Rattle.kv_base.specs.Partition.{owner_of}
use Rattle.kv_base.specs.declared.place.Place.{Place}
use Rattle.kv_model.specs.declared.page.Page.{Page}
use Rattle.kv_model.specs.declared.stored.Stored.{Stored}
use Rattle.kv_model.specs.FreeSlots.{AreFree}
use Rattle.kv_model.specs.Layout.{all_classes, is_small}
use Rattle.kv_model.specs.Reading.{Copy, IsKept, small_slot, large_slot, slot_at}
use Rattle.kv_model.specs.Slots.{Slot, Never, Item, Tombstone, Bad, Torn, stamp_field}

-- a page that is all zeros, at each place
abbrev pub zero_image : Image
zero_image file page = zero_page

-- the image with these pages, of which the last at a place counts
abbrev pub image_of : List Page → Image
image_of pages =
    fold (λ image page. with_page image page.file page.number page.content) zero_image pages

-- the bytes of a slot: a part of its page, or all its pages
abbrev pub parts_of : Image → ℕ → ℕ → List (List ℕ)
parts_of image class slot = if is_small class then small_slot image class slot ∷ []
    else large_slot image class slot

-- each byte is zero
abbrev pub is_zeros : List ℕ → Bool
is_zeros bytes = list_all (λ byte. byte == 0) bytes

-- one past the last slot of the class that has a byte other than zero, and 0 where there is none
pub record IsEnd (image : Image) (class end : ℕ) : Type 0 where
  pub rest : (slot : ℕ) → end ≤ slot → IsTrue (list_all is_zeros (parts_of image class slot))
  pub last : (slot : ℕ) → end ≡ slot + 1 → IsTrue (list_all is_zeros (parts_of image class slot))
      → ⊥

-- the ends of all classes, by their numbers
abbrev pub AreEnds : Image → List ℕ → Type 0
AreEnds image ends = (class : ℕ) → 1 ≤ class → class ≤ 11
    → IsEnd image class (slice_index ends class)

-- a slot of the class
abbrev pub place_at : ℕ → ℕ → Place
place_at class slot = record { class = class; slot = slot }

-- the slots of a class below its end
abbrev pub places_in : List ℕ → ℕ → List Place
places_in ends class = map (place_at class) (range_with_len 0 (slice_index ends class))

-- all slots below the ends, by class and then slot
abbrev pub places_of : List ℕ → List Place
places_of ends = flat_map (places_in ends) (range_with_len 1 11)

-- the item of a slot, if this worker of so many owns its key
abbrev pub item_in : ℕ → ℕ → Place → Slot → List Stored
item_in worker workers place (Never stamp) = []
item_in worker workers place (Item stamp key value) = if owner_of key workers == worker
    then record { key = key; stamp = stamp; value = value; place = place } ∷ [] else []
item_in worker workers place (Tombstone stamp link) = []
item_in worker workers place (Bad stamp) = []
item_in worker workers place (Torn stamp) = []

-- the items that are found in these slots, in their order
abbrev pub found_in : Image → ℕ → ℕ → List Place → List Stored
found_in image worker workers places = flat_map (λ place. item_in worker workers place
    (slot_at all_classes image place.class place.slot)) places

-- the numbers at the heads of all pages of these slots
abbrev pub heads_in : Image → List Place → List ℕ
heads_in image places = flat_map (λ place. map stamp_field
    (parts_of image place.class place.slot)) places

-- the greatest of the numbers, 0 where there is none
pub record IsGreatest (numbers : List ℕ) (most : ℕ) : Type 0 where
  pub above : (number : ℕ) → Contains numbers number → number ≤ most
  pub one : (most ≡ 0) ⊎ Contains numbers most

-- each slot has a class that exists, and a number below this one
abbrev pub AreBelow : ℕ → List Place → Type 0
AreBelow most places = All (λ place. (1 ≤ place.class) × (place.class ≤ 11) × (place.slot < most))
    places

-- the item with its value
abbrev pub copy_of : Stored → Copy
copy_of item = record {
  class = item.place.class;
  slot = item.place.slot;
  stamp = item.stamp;
  value = item.value;
}

-- the first place is not behind the second: by class, then slot
abbrev pub is_up_to : Place → Place → Bool
is_up_to place other = nat_lt place.class other.class
    || ((place.class == other.class) && nat_le place.slot other.slot)

-- the first item is preferred to the second, if both are of one key
abbrev pub is_first : Stored → Stored → Bool
is_first item other = not (bytes_eq other.key item.key) || (nat_lt other.stamp item.stamp
    || ((item.stamp == other.stamp) && is_up_to item.place other.place))

-- of each key the item that is preferred to all others, in their order
abbrev pub kept_of : List Stored → List Stored
kept_of found = filter (λ item. list_all (is_first item) found) found

-- the item is in the slot
abbrev pub is_at : ℕ → ℕ → Stored → Bool
is_at class slot item = (item.place.class == class) && (item.place.slot == slot)

-- the slots of the class below the end where none of the items is
abbrev pub free_in : ℕ → List Stored → ℕ → List ℕ
free_in class kept end = filter (λ slot. not (list_any (is_at class slot) kept))
    (range_with_len 0 end)

-- the items that are kept in the image, by class and then slot
pub record AreKept (image : Image) (worker workers : ℕ) (kept : List Stored) : Type 0 where
  pub ends : List ℕ
  pub ends_are : AreEnds image ends
  pub list : kept ≡ kept_of (found_in image worker workers (places_of ends))
  pub each : (item : Stored) → Contains kept item
      ↔ IsKept (slot_at all_classes image) worker workers item.key (copy_of item)

-- the slot has the item that is kept of some key
pub record HasKept (image : Image) (worker workers class slot : ℕ) : Type 0 where
  pub item : Stored
  pub kept : IsKept (slot_at all_classes image) worker workers item.key (copy_of item)
  pub class_is : item.place.class ≡ class
  pub slot_is : item.place.slot ≡ slot

-- the slots below the class's end where nothing is kept, by rising number
pub record AreFreeSlots (image : Image) (worker workers class : ℕ) (slots : List ℕ) : Type
    0 where
  pub end : ℕ
  pub end_is : IsEnd image class end
  pub free : AreFree (HasKept image worker workers class) (record { list = slots; end = end })
