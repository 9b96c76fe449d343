-- The pages of a file of std, as their callers see them.
use Rattle.std.specs.Prelude.{ℕ, Bool, false}

-- whether all that was written is durable, and how often it failed
pub record FileMarks : Type 0 where
  pub synced : Bool
  pub faults : ℕ

-- a file that was opened: it counts as written
abbrev pub just_opened : FileMarks
just_opened = record { synced = false; faults = 0 }
