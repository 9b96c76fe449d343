-- A batch of changes in the words of the plain map's batches.
use Rattle.std.specs.Prelude.{◌≡◌, ℕ, List, Some, count_by, map}
use Rattle.std.specs.Option.{option_map}
use Rattle.kv_index.specs.declared.entry.Entry.{Entry}
use Rattle.kv_model.specs.Batch.{Start, takes_slot}
use Rattle.kv_model.specs.FreeSlots.{free_after}
use Rattle.kv_model.specs.History.{Write}
use Rattle.kv_model.specs.Layout.{all_classes}
use Rattle.kv_slab.specs.Rooms.{Rooms, needed, rooms_after}
use Rattle.kv_slab.specs.Rounds.{Index}
use Rattle.kv_slab.specs.declared.change.Change.{Change}

-- the write of a change
abbrev pub write_of : Change → Write
write_of change = record { stamp = change.stamp; key = change.key; value = change.value }

-- the batch finds each key in the class and in the slot of its entry
pub record FindsEntries (index : Index) (start : Start) (slot_of_key : List ℕ → ℕ) : Type 0 where
  pub layout : start.layout ≡ all_classes
  pub class : (key : List ℕ) → start.class key
      ≡ option_map (λ entry. entry.place.class) (index key)
  pub slot : (key : List ℕ) (entry : Entry) → index key ≡ Some entry
      → slot_of_key key ≡ entry.place.slot

-- changes take as many new slots of a class as the batch of their writes does
abbrev pub ChangesTakeSlots : Type 0
ChangesTakeSlots = (index : Index) (changes : List Change) (start : Start)
    (slot_of_key : List ℕ → ℕ) (class : ℕ) → FindsEntries index start slot_of_key
    → needed index changes class ≡ count_by (takes_slot start class) (map write_of changes)

-- changes leave the lists and the ends that the batch of their writes does
abbrev pub ChangesLeaveFree : Type 0
ChangesLeaveFree = (index : Index) (changes : List Change) (rooms : Rooms) (start : Start)
    (slot_of_key : List ℕ → ℕ) (class : ℕ) → FindsEntries index start slot_of_key
    → rooms_after index changes rooms class
    ≡ free_after start slot_of_key class (rooms class) (map write_of changes)
