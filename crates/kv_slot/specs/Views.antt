-- What the answers of the readers mean.
use Rattle.std.specs.Prelude.{ℕ, List, true, take, drop, length, if◌then◌else◌}
use Rattle.kv_slot.specs.declared.small.Slot as answer
use Rattle.kv_slot.specs.declared.small.Slot.TheVariants as answers
use Rattle.kv_slot.specs.declared.large.Large as large_answer
use Rattle.kv_slot.specs.declared.large.Large.TheVariants as large_answers
use Rattle.kv_model.specs.Layout.{all_classes, class_of}
use Rattle.kv_model.specs.Slots.{Slot, Never, Item, Tombstone, Bad, Torn, is_class, read_parts}

-- what stands in the slot, by the answer
abbrev pub what_stands : answer.Slot → Slot
what_stands (answers.Never stamp) = Never stamp
what_stands (answers.Item stamp key value) = Item stamp key.now value.now
what_stands (answers.Tombstone stamp link) = Tombstone stamp link
what_stands (answers.Bad stamp) = Bad stamp

-- what stands in a slot with all classes: an item is one only where this is its class
abbrev pub of_least_class : ℕ → Slot → Slot
of_least_class class (Never stamp) = Never stamp
of_least_class class (Item stamp key value) =
    if is_class (class_of all_classes (length key) (length value)) class then Item stamp key value
    else Bad stamp
of_least_class class (Tombstone stamp link) = Tombstone stamp link
of_least_class class (Bad stamp) = Bad stamp
of_least_class class (Torn stamp) = Torn stamp

-- what stands in the slot of several pages, by the answer
abbrev pub what_stands_large : large_answer.Large → Slot
what_stands_large (large_answers.Never stamp) = Never stamp
what_stands_large (large_answers.Item stamp key value) = Item stamp key value
what_stands_large (large_answers.Tombstone stamp link) = Tombstone stamp link
what_stands_large (large_answers.Bad stamp) = Bad stamp
what_stands_large (large_answers.Torn stamp) = Torn stamp

-- what the first page of a slot of several pages says: of an item all of its key, and of its value
-- what lies in this page
abbrev pub read_front : ℕ → List ℕ → Slot
read_front class page = read_parts all_classes class (take 16 page) (drop 16 page) true

-- an item stands in the slot
abbrev pub IsItem : Slot → Type 0
IsItem (Never stamp) = ⊥
IsItem (Item stamp key value) = Unit {0}
IsItem (Tombstone stamp link) = ⊥
IsItem (Bad stamp) = ⊥
IsItem (Torn stamp) = ⊥
