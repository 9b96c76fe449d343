-- A list of free slots of which only the end stands in memory.
use Rattle.std.specs.Prelude.{◌≡◌, ℕ, ◌-◌, nat_lt, List, length, drop, Option, None, Some}
use Rattle.std.specs.Prelude.{slice_get, slice_set, if◌then◌else◌}

-- the numbers that stand in memory, and how many the list has
pub record Tail : Type 0 where
  pub kept : List ℕ
  pub count : ℕ

-- what is kept is the last 64 numbers of the list, or all of fewer, and how many it has
pub record StandsFor (tail : Tail) (list : List ℕ) : Type 0 where
  pub kept : tail.kept ≡ drop (length list - 64) list
  pub count : tail.count ≡ length list

-- the last number, if there is one
abbrev pub last_of : List ℕ → Option ℕ
last_of list = slice_get list (length list - 1)

-- what the tombstone of a slot that is appended links to: the number 64 places before it, if any
abbrev pub link_of : List ℕ → Option ℕ
link_of list = if nat_lt (length list) 64 then None else slice_get list (length list - 64)

-- the list with the link, if it is there, as its 64th number from the end
abbrev pub relinked : List ℕ → Option ℕ → List ℕ
relinked list None = list
relinked list (Some link) = slice_set list (length list - 64) link
