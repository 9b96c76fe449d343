-- What stands in a slot: how its bytes read under a layout.
use Rattle.std.specs.Prelude.{ℕ, ◌-◌, List, [], ◌∷◌, ◌++◌, take, drop, Option, None, Some, Bool}
use Rattle.std.specs.Prelude.{true, false, ◌==◌, if◌then◌else◌}
use Rattle.std.specs.List.{flat_map, list_all}
use Rattle.std.specs.Int.{w16, w32, w64, from_le_bytes}
use Rattle.kv_model.specs.Layout.{Layout, class_of}

-- what stands in a slot; each case begins with the number in the slot's stamp field
pub data Slot : Type 0 where
  Never : (stamp : ℕ) → Slot
  Item : (stamp : ℕ) (key value : List ℕ) → Slot
  Tombstone : (stamp : ℕ) (link : Option ℕ) → Slot
  Bad : (stamp : ℕ) → Slot
  Torn : (stamp : ℕ) → Slot

-- the number in the slot's stamp field
abbrev pub stamp_of_slot : Slot → ℕ
stamp_of_slot (Never stamp) = stamp
stamp_of_slot (Item stamp key value) = stamp
stamp_of_slot (Tombstone stamp link) = stamp
stamp_of_slot (Bad stamp) = stamp
stamp_of_slot (Torn stamp) = stamp

-- the stamp field of a header, also the number at the head of any page of a large slot
abbrev pub stamp_field : List ℕ → ℕ
stamp_field header = from_le_bytes w64 (take 8 header)

-- the kind field of a header
abbrev pub kind_field : List ℕ → ℕ
kind_field header = from_le_bytes w16 (take 2 (drop 8 header))

-- the field of the key's length
abbrev pub key_length_field : List ℕ → ℕ
key_length_field header = from_le_bytes w16 (take 2 (drop 10 header))

-- the last field: an item's value length, or a tombstone's link
abbrev pub last_field : List ℕ → ℕ
last_field header = from_le_bytes w32 (take 4 (drop 12 header))

-- the slot that a link field names: none for 0, else the number below
abbrev pub link_named : ℕ → Option ℕ
link_named number = if number == 0 then None else Some (number - 1)

-- the class is there and is this one
abbrev pub is_class : Option ℕ → ℕ → Bool
is_class None class = false
is_class (Some found) class = found == class

-- a slot of kind item reads so: an item where its lengths make this class, torn where its pages
-- differ in their stamps
abbrev pub read_item : Layout → ℕ → ℕ → ℕ → ℕ → List ℕ → Bool → Slot
read_item layout class stamp key_length value_length content whole =
    if is_class (class_of layout key_length value_length) class
    then (if whole
    then Item stamp (take key_length content) (take value_length (drop key_length content))
    else Torn stamp)
    else Bad stamp

-- a slot with this header and content reads so; whole tells whether all its pages have the header's
-- stamp
abbrev pub read_parts : Layout → ℕ → List ℕ → List ℕ → Bool → Slot
read_parts layout class header content whole =
    if kind_field header == 0 then Never (stamp_field header)
    else (if kind_field header == 1 then read_item layout class (stamp_field header)
    (key_length_field header) (last_field header) content whole
    else (if kind_field header == 2
    then Tombstone (stamp_field header) (link_named (last_field header))
    else Bad (stamp_field header)))

-- a slot of the classes 1 to 7 with these bytes reads so
unfoldable pub read_small : Layout → ℕ → List ℕ → Slot
read_small layout class bytes = read_parts layout class (take 16 bytes) (drop 16 bytes) true

-- a slot of the classes 8 to 11 with these pages reads so
unfoldable pub read_large : Layout → ℕ → List (List ℕ) → Slot
read_large layout class [] = Never 0
read_large layout class (first ∷ later) =
    read_parts layout class (take 16 first) (drop 16 first ++ flat_map (λ page. drop 8 page) later)
    (list_all (λ page. stamp_field page == stamp_field first) later)
