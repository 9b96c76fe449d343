-- On ranges of numbers.
use Rattle.std.proofs.Common.{◌≡◌, ℕ, ◌+◌, ◌-◌, ◌<◌, ◌≤◌, max, List, [], ◌++◌, arith, ap}
use Rattle.std.proofs.Common.{⊎_elim}
use Rattle.std.specs.Prelude.{All}
use Rattle.std.proofs.lemmas.Bool.{cases_lt, lt-ltb, le-ltb}
use Rattle.std.proofs.lemmas.Bool.Decides.{nat_tests}
use Rattle.std.proofs.lemmas.List.Elements.{All-nil, All-cons, All-append, All-weaker}
use Rattle.kv_stamps.specs.declared.view.Range.{Range}
use Rattle.kv_stamps.specs.Ranges.{range, below, between, within, among, EndsBy}
use Rattle.kv_stamps.specs.Steps.{gap_to}

-- what is below the start and what is between make up what is below the end
pub between-below : (number start end : ℕ) → start ≤ end
    → between number start end + below number start ≡ below number end
between-below number start end le = grind (arith, nat_tests)

-- a number is between two others at most once
pub between-le : (number start end : ℕ) → between number start end ≤ 1
between-le number start end = grind (arith, nat_tests)

-- a range of so many numbers from the first on
pub within-range : (number first count : ℕ)
    → within number (range first count) + below number first ≡ below number (first + count)
within-range number first count = between-below number first (first + count) (omega arith)

-- what a raise passes over
pub among-gap_to : (number to next : ℕ)
    → among number (gap_to to next) + below number next ≡ below number (max next to)
among-gap_to number to next =
    ⊎_elim
    (λ (lt : next < to). rw (lt-ltb next to lt)
    (let r = within-range number next (to - next) in
    let e : below number (next + (to - next)) ≡ below number to =
    ap (below number) (omega arith) in
    let m : below number (max next to) ≡ below number to = ap (below number) (omega arith) in
    omega arith))
    (λ (ge : to ≤ next). rw (le-ltb next to ge)
    (let m : below number (max next to) ≡ below number next =
    ap (below number) (omega arith) in
    omega arith))
    (cases_lt next to)

-- the gap of a raise ends at or below what was raised to
pub gap_to-EndsBy : (to next : ℕ) → All (EndsBy to) (gap_to to next)
gap_to-EndsBy to next =
    let P : Range → Type 0 = EndsBy to in
    ⊎_elim
    (λ (lt : next < to). rw (lt-ltb next to lt)
    (All-cons P (range next (to - next)) [] (omega arith) (All-nil P)))
    (λ (ge : to ≤ next). rw (le-ltb next to ge) (All-nil P))
    (cases_lt next to)

-- ranges that end by a number end by each greater one
pub EndsBy-later : (a b : ℕ) (ranges : List Range) → a ≤ b → All (EndsBy a) ranges
    → All (EndsBy b) ranges
EndsBy-later a b ranges le all = All-weaker (EndsBy a) (EndsBy b) (λ r h. omega arith) ranges all

-- the ranges of two lists end by the greater of what each ends by
pub EndsBy-append : (a b : ℕ) (ranges others : List Range) → All (EndsBy a) ranges
    → All (EndsBy b) others → All (EndsBy (max a b)) (ranges ++ others)
EndsBy-append a b ranges others all them =
    All-append (EndsBy (max a b)) ranges others
    (EndsBy-later a (max a b) ranges (omega arith) all)
    (EndsBy-later b (max a b) others (omega arith) them)
