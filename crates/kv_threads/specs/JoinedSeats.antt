-- What several seats of one counter have together.
use Rattle.std.specs.Prelude.{ℕ, List, sum_by}
use Rattle.kv_stamps.specs.Rule.{times_in}
use Rattle.kv_stamps.specs.Seats.{Seat}

-- in how many ranges, gaps and runs of the seats the number is
abbrev pub times_among : ℕ → List Seat → ℕ
times_among number seats = sum_by (λ seat. times_in number seat.view) seats

-- the seats' share of the seats that were made
abbrev pub weight_of : List Seat → ℕ
weight_of seats = sum_by (λ seat. seat.view.weight) seats
