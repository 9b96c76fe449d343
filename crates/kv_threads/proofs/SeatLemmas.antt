-- Seats that are joined, one behind the other.
use Rattle.std.proofs.Common.{◌≡◌, ℕ, ◌+◌, ◌≤◌, List, [], ◌∷◌, ◌++◌, refl, sym, ap, ◌∙◌, subst}
use Rattle.std.proofs.Common.{arith}
use Rattle.std.proofs.lemmas.List.Sums.{sum_by-append, sum_by_push}
use Rattle.kv_stamps.specs.Ranges.{between, within}
use Rattle.kv_stamps.specs.Rule.{times_in}
use Rattle.kv_stamps.specs.Seats.{Seat}
use Rattle.kv_stamps.specs.Steps.{joined_view, Looks}
use Rattle.kv_stamps.specs.declared.view.View.{View}
use Rattle.kv_threads.specs.JoinedSeats.{times_among, weight_of}

pub times_in-joined : (number : ℕ) (view other : View)
    → times_in number (joined_view view other) ≡ times_in number view + times_in number other
times_in-joined number view other =
    let drawn = sum_by-append (within number) view.drawn other.drawn in
    let gaps = sum_by-append (within number) view.gaps other.gaps in
    let spent = sum_by-append (within number) view.spent other.spent in
    omega (arith, drawn, gaps, spent)

-- one seat has what so many seats had
pub record HasAll (seat : Seat) (first : Seat) (others : List Seat) : Type 0 where
  pub times : (number : ℕ) → times_in number seat.view ≡ times_among number (first ∷ others)
  pub weight : seat.view.weight ≡ weight_of (first ∷ others)
  pub start : seat.view.start ≡ first.view.start
  pub seats : seat.view.seats ≡ first.view.seats

pub HasAll-one : (seat : Seat) → HasAll seat seat []
HasAll-one seat = record {
  times = λ number. omega arith;
  weight = omega arith;
  start = refl;
  seats = refl;
}

-- one seat more is joined
pub HasAll-more : (seat first new other : Seat) (others : List Seat) → HasAll seat first others
    → new.view ≡ joined_view seat.view other.view → HasAll new first (others ++ other ∷ [])
HasAll-more seat first new other others all joined = record {
  times = λ number. ap (times_in number) joined
      ∙ (times_in-joined number seat.view other.view
      ∙ (ap (λ n. n + times_in number other.view) (all.times number)
      ∙ sym (sum_by_push (λ (s : Seat). times_in number s.view) (first ∷ others) other)));
  weight = ap (λ (v : View). v.weight) joined
      ∙ (ap (λ n. n + other.view.weight) all.weight
      ∙ sym (sum_by_push (λ (s : Seat). s.view.weight) (first ∷ others) other));
  start = ap (λ (v : View). v.start) joined ∙ all.start;
  seats = ap (λ (v : View). v.seats) joined ∙ all.seats;
}

-- what a look with the joined seat tells
module _ (seat first new : Seat) (others : List Seat) (next : ℕ) (all : HasAll seat first others)
    (looks : Looks seat.view next new.view) where
  times-looks : (number : ℕ) → times_in number new.view ≡ times_among number (first ∷ others)
  times-looks number = ap (times_in number) looks.view ∙ all.times number

  pub apart-looks : (number : ℕ) → times_among number (first ∷ others) ≤ 1
  apart-looks number = subst (λ n. n ≤ 1) (times-looks number) (looks.once number)

  pub all-looks : weight_of (first ∷ others) ≡ first.view.seats
      → (n : ℕ) × ((number : ℕ) → times_among number (first ∷ others)
      ≡ between number first.view.start n)
  all-looks whole =
      let weight : new.view.weight ≡ new.view.seats =
      ap (λ (v : View). v.weight) looks.view ∙ (all.weight ∙ (whole ∙ (sym all.seats
      ∙ sym (ap (λ (v : View). v.seats) looks.view)))) in
      let start : new.view.start ≡ first.view.start =
      ap (λ (v : View). v.start) looks.view ∙ all.start in (
        next,
        λ number. sym (times-looks number) ∙ ((looks.all weight).numbers number
            ∙ ap (λ n. between number n next) start),
      )
