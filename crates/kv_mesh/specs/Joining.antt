-- Seats of the counter that are joined, one behind the other.
use Rattle.std.specs.Prelude.{ℕ, List, [], ◌∷◌, Option, None, Some}
use Rattle.kv_stamps.specs.Seats.{Seat}
use Rattle.kv_stamps.specs.Steps.{joined_view, Looks}
use Rattle.kv_stamps.specs.declared.view.View.{View}

-- the view of the seats that were joined so far, if any were, and of one more
abbrev pub joined_with : Option View → View → View
joined_with None view = view
joined_with (Some all) view = joined_view all view

-- the view of the seats that were joined so far and of all of these
abbrev pub joined_from : Option View → List Seat → Option View
joined_from all [] = all
joined_from all (seat ∷ seats) = joined_from (Some (joined_with all seat.view)) seats

-- a look at the counter was made with this view
pub record HasLooked (view : View) : Type 0 where
  pub next : ℕ
  pub after : View
  pub looks : Looks view next after
