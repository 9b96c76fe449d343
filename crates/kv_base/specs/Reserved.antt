-- A list with room that was taken ahead.
use Rattle.std.specs.Prelude.{ℕ, List}

-- the items in order, and how many more can be appended without taking memory
pub record Reserved (T : Type 0) : Type 0 where
  pub items : List T
  pub spare : ℕ
