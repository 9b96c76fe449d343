-- Sums and lists over the numbers below a bound.
use Rattle.std.specs.Prelude.{ℕ, zero, suc, ◌+◌, List, [], ◌++◌}

-- what f gives for each number below n, added up
abbrev pub sum_below : ℕ → (ℕ → ℕ) → ℕ
sum_below zero f = 0
sum_below (suc n) f = sum_below n f + f n

-- what f gives for each number below n, in a row
abbrev pub row : {X : Type 0} → ℕ → (ℕ → List X) → List X
row zero f = []
row (suc n) f = row n f ++ f n
