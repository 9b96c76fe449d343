-- Bytes that pass through a source or a sink.
use Rattle.std.specs.Prelude.{◌≡◌, ℕ, List, [], ◌++◌, Option, None, Some, ⊤}

-- the bytes that were taken from a source so far, and those that are left
pub record Stream : Type 0 where
  pub taken : List ℕ
  pub left : List ℕ

-- these bytes passed from what was left to what is taken; nothing is told, or both ends are
abbrev pub Passes : Option Stream → Option Stream → List ℕ → Type 0
Passes None None bytes = ⊤
Passes None (Some after) bytes = ⊥
Passes (Some before) None bytes = ⊥
Passes (Some before) (Some after) bytes = (after.taken ≡ before.taken ++ bytes)
    × (before.left ≡ bytes ++ after.left)

-- where the source tells its bytes, none is left
abbrev pub IsSpent : Option Stream → Type 0
IsSpent None = ⊤
IsSpent (Some now) = now.left ≡ []

-- these bytes were appended to what a sink holds; nothing is told, or both ends are
abbrev pub Takes : Option (List ℕ) → Option (List ℕ) → List ℕ → Type 0
Takes None None bytes = ⊤
Takes None (Some after) bytes = ⊥
Takes (Some before) None bytes = ⊥
Takes (Some before) (Some after) bytes = after ≡ before ++ bytes
