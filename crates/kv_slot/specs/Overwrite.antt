-- Bytes that are put over others.
use Rattle.std.specs.Prelude.{ℕ, ◌+◌, List, ◌++◌, length, take, drop}

-- the page with these bytes at the offset, and all bytes outside them as they were
abbrev pub overwritten : List ℕ → ℕ → List ℕ → List ℕ
overwritten page offset bytes = take offset page ++ bytes ++ drop (offset + length bytes) page
