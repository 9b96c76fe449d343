-- What a store keeps in memory beside its index: the free slots and the end of each class.
use Rattle.std.specs.Prelude.{◌≡◌, ℕ, ◌+◌, ◌-◌, ◌^◌, ◌<◌, ◌≤◌, ◌==◌, List, [], ◌∷◌, Option, Some}
use Rattle.std.specs.Prelude.{count_by, length, if◌then◌else◌}
use Rattle.std.specs.List.{slice_get}
use Rattle.std.specs.FinMap as finite
use Rattle.kv_free.specs.FreeList.{Tail}
use Rattle.kv_index.specs.Entries.{Entries}
use Rattle.kv_index.specs.declared.entry.Entry.{Entry}
use Rattle.kv_base.specs.declared.place.Place.{Place}
use Rattle.kv_model.specs.Slots.{is_class}
use Rattle.kv_slab.specs.Rooms.{slots_of}
use Rattle.kv_slab.specs.declared.room.Room.{Room}

-- how many items of the class the entries name
abbrev pub items_in : Entries → ℕ → ℕ
items_in entries class = count_by (λ pair. pair.1.place.class == class) (finite.entries entries)

-- what is kept for each class, from the tails of the lists and from the ends, both by class from 0
-- on
abbrev pub rooms_of : List Tail → List ℕ → List Room
rooms_of [] ends = []
rooms_of (tail ∷ tails) [] = []
rooms_of (tail ∷ tails) (end ∷ ends) = record { stack = tail; end = end } ∷ rooms_of tails ends

-- an end is the number of the class's entries and of its free slots together
abbrev pub AreFilled : Entries → List Room → Type 0
AreFilled entries kept = (class : ℕ) (room : Room) → slice_get kept class ≡ Some room
    → room.end ≡ items_in entries class + room.stack.count

-- on every disk each entry's slot is below its class's end, and the slots below an end are counted
pub record AreCounted (entries : Entries) (kept : List Room) : Type 0 where
  pub inside : (key : List ℕ) (e : Entry) (room : Room) → finite.get entries key ≡ Some e
      → slice_get kept e.place.class ≡ Some room → e.place.slot < room.end
  pub filled : AreFilled entries kept

-- so many slots of a class were taken, first free ones and then those at the end, and then so many
-- were given back
pub record HasLength (taken left : ℕ) (old new : Room) : Type 0 where
  pub list : new.stack.count ≡ (old.stack.count - taken) + left
  pub end : new.end ≡ old.end + (taken - old.stack.count)

-- of each class
abbrev pub HaveLengths : (ℕ → ℕ) → (ℕ → ℕ) → List Room → List Room → Type 0
HaveLengths taken left old new = (class : ℕ) (room now : Room) → slice_get old class ≡ Some room
    → slice_get new class ≡ Some now → HasLength (taken class) (left class) room now

-- where a slot is taken in a class, one is free there, or the slab can grow by one
abbrev pub HasSpace : Option ℕ → List Room → Type 0
HasSpace taken kept = (class : ℕ) (room : Room) → taken ≡ Some class
    → slice_get kept class ≡ Some room → room.stack.count ≡ 0 → room.end < 2 ^ 24

-- in each class so many slots can be taken
abbrev pub HaveSpace : (ℕ → ℕ) → List Room → Type 0
HaveSpace taken kept = (class : ℕ) (room : Room) → 1 ≤ class → class ≤ 11
    → slice_get kept class ≡ Some room → room.end + taken class ≤ room.stack.count + 2 ^ 24

-- where a place is left, its class's list can grow by one
abbrev pub HasGap : Option Place → List Room → Type 0
HasGap left kept = (place : Place) (room : Room) → left ≡ Some place
    → slice_get kept place.class ≡ Some room → room.stack.count < 2 ^ 24

-- each list can grow by so many
abbrev pub HaveGaps : (ℕ → ℕ) → List Room → Type 0
HaveGaps left kept = (class : ℕ) (room : Room) → slice_get kept class ≡ Some room
    → room.stack.count + left class ≤ 2 ^ 24

-- whether a new slot is taken in the class, as a number
abbrev pub new_in : Option ℕ → ℕ → ℕ
new_in taken class = if is_class taken class then 1 else 0

-- whether a slot of the class is left, as a number
abbrev pub left_in : Option Place → ℕ → ℕ
left_in left class = length (slots_of left class)
