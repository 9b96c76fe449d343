-- Ranges of numbers, and which numbers they have.
use Rattle.std.specs.Prelude.{ℕ, ◌+◌, ◌^◌, ◌<◌, ◌≤◌, nat_lt, List, sum_by, if◌then◌else◌}
use Rattle.kv_stamps.specs.declared.view.Range.{Range}

-- so many numbers from the first on
abbrev pub range : ℕ → ℕ → Range
range first count = record { first = first; count = count }

-- 1 where the number is below the end, else 0
abbrev pub below : ℕ → ℕ → ℕ
below number end = if nat_lt number end then 1 else 0

-- 1 where the number is at least the start and below the end, else 0
abbrev pub between : ℕ → ℕ → ℕ → ℕ
between number start end = if nat_lt number start then 0 else below number end

-- 1 where the range has the number, else 0
abbrev pub within : ℕ → Range → ℕ
within number r = between number r.first (r.first + r.count)

-- how many of the ranges have the number
abbrev pub among : ℕ → List Range → ℕ
among number ranges = sum_by (within number) ranges

-- all numbers of the range are below the end
abbrev pub EndsBy : ℕ → Range → Type 0
EndsBy end r = r.first + r.count ≤ end

-- the range is one of stamps: it has one, and all are at least the start and at most 2^62 - 1
abbrev pub IsOfStamps : ℕ → Range → Type 0
IsOfStamps start r = (start ≤ r.first) × (1 ≤ r.count) × EndsBy (2 ^ 62) r

-- the range has a number above the last stamp, and is no longer than a batch
abbrev pub PassesLimit : Range → Type 0
PassesLimit r = (2 ^ 62 < r.first + r.count) × (r.count ≤ 512)
