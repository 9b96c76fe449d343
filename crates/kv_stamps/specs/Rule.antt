-- The rule of the counter, over its next number and the views of all seats that were made.
use Rattle.std.specs.Prelude.{◌≡◌, ℕ, ◌+◌, ◌*◌, ◌^◌, ◌≤◌, List, [], ◌∷◌, All, length, sum_by}
use Rattle.kv_stamps.specs.declared.view.Origin.{Origin}
use Rattle.kv_stamps.specs.declared.view.View.{View}
use Rattle.kv_stamps.specs.Ranges.{among, between, EndsBy, IsOfStamps, PassesLimit}

-- in how many of a seat's ranges, gaps and runs the number is
abbrev pub times_in : ℕ → View → ℕ
times_in number view =
    among number view.drawn + (among number view.gaps + among number view.spent)

-- how many StampsSpent a seat met
abbrev pub refusals : View → ℕ
refusals view = length view.spent

-- a seat's share of the seats that were made
abbrev pub weight : View → ℕ
weight view = view.weight

-- where the counter began, and for how many seats
abbrev pub origin_of : View → Origin
origin_of view = record { start = view.start; seats = view.seats }

-- the view of the first seat, whose weight is the number of all
abbrev pub first_view : Origin → View
first_view origin = record {
  start = origin.start;
  seats = origin.seats;
  weight = origin.seats;
  seen = origin.start;
  raised = 0;
  drawn = [];
  gaps = [];
  spent = [];
}

-- the view that a seat leaves which was joined to another: one of no counter, without weight
abbrev pub left_view : View
left_view = first_view (record { start = 0; seats = 0 })

-- the rule as it speaks of one seat
pub record IsLive (next : ℕ) (view : View) : Type 0 where
  -- what it drew are stamps, below what it has seen
  pub drawn : All (IsOfStamps view.start) view.drawn
  pub below : All (EndsBy view.seen) view.drawn
  -- each run of a StampsSpent that it met passes the last stamp
  pub spent : All PassesLimit view.spent
  -- the next number is at least each that was seen or raised to
  pub started : view.start ≤ view.seen
  pub seen : view.seen ≤ next
  pub raised : view.raised ≤ next
  -- each gap ends at or below the greatest number that was raised to
  pub gaps : All (EndsBy view.raised) view.gaps
  -- the weight is at least 1, and at least the number of StampsSpent
  pub share : 1 ≤ view.weight
  pub few : length view.spent ≤ view.weight

-- a seat: a live one of this origin, or one that was joined to another and has no weight
pub record IsSeat (origin : Origin) (next : ℕ) (view : View) : Type 0 where
  pub live : 1 ≤ view.weight → (origin_of view ≡ origin) × IsLive next view
  pub left : view.weight ≡ 0 → view ≡ left_view

-- the rule: what holds of the counter between any two steps
pub record PartitionsNumbers (origin : Origin) (words : List ℕ) (views : List View) : Type 0 where
  pub next : ℕ
  pub word : words ≡ next ∷ []
  -- each number from the start up to the next one is in just one range, gap or run of a seat,
  -- and these have no other numbers
  pub numbers : (number : ℕ) → sum_by (times_in number) views ≡ between number origin.start next
  pub start : origin.start ≤ next
  pub seats : All (IsSeat origin next) views
  -- the next number passes the limit only by what StampsSpent took
  pub limit : next ≤ 2 ^ 62 + 512 * sum_by refusals views
  -- the weights of all seats add up to the number of seats
  pub weights : sum_by weight views ≡ origin.seats
  pub few : origin.seats ≤ 24

-- what the rule says of a seat that has the weight of all: its ranges, gaps and runs have each
-- number from the start up to the next one just once, and no other
pub record HasAllNumbers (next : ℕ) (view : View) : Type 0 where
  pub numbers : (number : ℕ) → times_in number view ≡ between number view.start next
  pub limit : next ≤ 2 ^ 62 + 512 * length view.spent
