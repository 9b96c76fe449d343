-- The numbers of calls that fail, and counts of calls.
use Rattle.std.specs.Prelude.{ℕ, ◌+◌, ◌-◌, ◌^◌, min, List, [], Option, None, Some, Vec}
use Rattle.std.specs.declared.alloc.Global.{Global}

-- the numbers, none where there is no vector
abbrev pub numbers_of : Option (Vec ℕ Global) → List ℕ
numbers_of None = []
numbers_of (Some numbers) = numbers.items

-- the count after one more; it stays at the greatest number of its type
abbrev pub next_count : ℕ → ℕ
next_count count = min (count + 1) (2 ^ 64 - 1)
