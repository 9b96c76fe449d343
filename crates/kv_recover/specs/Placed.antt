-- What an index has on every disk: who owns its keys, where its entries are, and how many there are
-- of each class.
use Rattle.std.specs.Prelude.{◌≡◌, ℕ, ◌+◌, ◌-◌, ◌^◌, ◌<◌, ◌≤◌, ◌==◌, List, length, slice_get, slice_index, Option, None, Some}
use Rattle.std.specs.Prelude.{if◌then◌else◌}
use Rattle.std.specs.FinMap as finite
use Rattle.kv_base.specs.Partition.{owner_of}
use Rattle.kv_index.specs.declared.entry.Entry.{Entry}
use Rattle.kv_free.specs.FreeList.{Tail}
use Rattle.kv_index.specs.Entries.{Entries}
use Rattle.kv_slab.specs.Memory.{items_in}

-- one for an entry of the class
abbrev pub one_of : Option Entry → ℕ → ℕ
one_of None class = 0
one_of (Some entry) class = if entry.place.class == class then 1 else 0

-- the numbers are those of the entries of each class
pub record HasCounts (entries : Entries) (counts : List ℕ) : Type 0 where
  pub size : length counts ≡ 12
  pub within : (key : List ℕ) (entry : Entry) → finite.get entries key ≡ Some entry
      → entry.place.class < 12
  pub count : (class : ℕ) → class < 12 → slice_index counts class ≡ items_in entries class

-- the entry has a slot of a class that exists, below that class's end, and a stamp up to the floor
pub record IsPlaced (floor : ℕ) (ends : ℕ → ℕ) (entry : Entry) : Type 0 where
  pub low : 1 ≤ entry.place.class
  pub high : entry.place.class ≤ 11
  pub below : entry.place.slot < ends entry.place.class
  pub stamp : entry.stamp ≤ floor

-- each entry is so
abbrev pub ArePlaced : Entries → ℕ → (ℕ → ℕ) → Type 0
ArePlaced entries floor ends = (key : List ℕ) (entry : Entry) → finite.get entries key ≡ Some entry
    → IsPlaced floor ends entry

-- each key is one that the worker owns
abbrev pub AreOwned : Entries → ℕ → ℕ → Type 0
AreOwned entries worker workers = (key : List ℕ) (entry : Entry)
    → finite.get entries key ≡ Some entry → owner_of key workers ≡ worker

-- the ends with that of one class
abbrev pub with_end : (ℕ → ℕ) → ℕ → ℕ → ℕ → ℕ
with_end ends class end c = if c == class then end else ends c

-- what is opened on every disk: the entries are placed, the stamps go on behind the floor, and each
-- end is the number of its class's entries and free slots together
pub record HasRooms (entries : Entries) (floor : ℕ) (ends : List ℕ) (stacks : List Tail) : Type
    0 where
  pub spare : floor < 2 ^ 62 - 1
  pub placed : ArePlaced entries floor (λ class. slice_index ends class)
  pub small : (class : ℕ) → slice_index ends class ≤ 2 ^ 24
  pub zero : slice_index ends 0 ≡ 0
  pub count : length stacks ≡ 12
  pub filled : (class : ℕ) (stack : Tail) → slice_get stacks class ≡ Some stack
      → slice_index ends class ≡ items_in entries class + stack.count
