-- A source over a reader or a sink over a writer, as its callers see it.
use Rattle.std.specs.Prelude.{ℕ}

-- the reader or the writer, and how often it failed
pub record Adapter (T : Type 0) : Type 0 where
  pub inner : T
  pub faults : ℕ
