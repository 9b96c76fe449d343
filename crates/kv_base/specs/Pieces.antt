-- Pieces of bytes that go to a sink one behind the other.
use Rattle.std.specs.Prelude.{◌≡◌, ℕ, zero, suc, ◌<◌, ◌≤◌, List, [], ◌∷◌, take, Option}
use Rattle.std.specs.Prelude.{nat_lt, if◌then◌else◌}
use Rattle.std.specs.Io.KnownBytes.{Appends}
use Rattle.kv_base.specs.Calls.{next_count}
use Rattle.kv_base.specs.Stream.{Takes}

-- where the pieces end that begin here: each has a byte at least, and the last one the last of so
-- many bytes
abbrev pub AreEnds : ℕ → List ℕ → ℕ → Type 0
AreEnds from [] size = from ≡ size
AreEnds from (end ∷ ends) size = (from < end) × (end ≤ size) × AreEnds end ends size

-- so many bytes are the first pieces, as many as are said, and a proper part of the next one
abbrev pub IsUpTo : ℕ → List ℕ → ℕ → ℕ → Type 0
IsUpTo from [] zero sent = sent ≡ from
IsUpTo from [] (suc whole) sent = ⊥
IsUpTo from (end ∷ ends) zero sent = (from ≤ sent) × (sent < end)
IsUpTo from (end ∷ ends) (suc whole) sent = IsUpTo end ends whole sent

-- so many pieces were appended whole to what a sink holds, and a proper part of the next one
abbrev pub TakesPieces : Option (List ℕ) → Option (List ℕ) → List ℕ → List ℕ → ℕ → Type 0
TakesPieces before after bytes ends whole = (sent : ℕ) × Takes before after (take sent bytes)
    × IsUpTo 0 ends whole sent

-- the same of the bytes that a writer of std tells
abbrev pub AppendsPieces : Option (List ℕ) → Option (List ℕ) → List ℕ → List ℕ → ℕ → Type 0
AppendsPieces before after bytes ends whole = (sent : ℕ) × Appends before after (take sent bytes)
    × IsUpTo 0 ends whole sent

-- one fault is counted where fewer pieces than all were taken, and none else
abbrev pub CountedPieces : ℕ → ℕ → ℕ → ℕ → Type 0
CountedPieces before now whole pieces = now ≡ (if nat_lt whole pieces then next_count before
    else before)
