-- Seats, as contracts see them.
use Rattle.std.specs.Prelude.{ℕ, List, [], ◌∷◌, Option, Some, None}
use Rattle.atomic_table.specs.Seated.{TableId}
use Rattle.kv_stamps.specs.declared.view.Range.{Range}
use Rattle.kv_stamps.specs.declared.view.View.{View}
use Rattle.kv_stamps.specs.Rule.{first_view}

-- a seat: the counter that it is one of, and what it knows
pub record Seat : Type 0 where
  pub counter : TableId
  pub view : View

-- the number of the first StampsSpent, if there was one
abbrev pub first_spent : List Range → Option ℕ
first_spent [] = None
first_spent (r ∷ _) = Some r.first

-- each seat that a new counter gives: it has seen the start, and has weight 1
abbrev pub new_seat : TableId → ℕ → ℕ → Seat
new_seat counter start seats = record {
  counter = counter;
  view = record (first_view (record { start = start; seats = seats })) { weight = 1 };
}
