-- What a look with a joined seat tells of all seats.
use Rattle.std.proofs.Common.{◌≡◌, ◌⊎◌, inl, inr, ⊎_elim, ℕ, ◌+◌, ◌^◌, ◌<◌, ◌≤◌, List, [], ◌∷◌}
use Rattle.std.proofs.Common.{◌++◌, sum_by, Option, Some, None, refl, sym, ap, ◌∙◌, subst}
use Rattle.std.proofs.Common.{arith, All, append_assoc}
use Rattle.std.proofs.lemmas.Bool.Decides.{nat_tests}
use Rattle.std.proofs.lemmas.List.{append-nil}
use Rattle.std.proofs.lemmas.List.Elements.{All-head, All-tail}
use Rattle.std.proofs.lemmas.List.Sums.{sum_by-append, sum_by-cons}
use Rattle.std.specs.Prelude.{IfSome}
use Rattle.kv_stamps.specs.Ranges.{among, below, between, within, IsOfStamps}
use Rattle.kv_stamps.specs.Rule.{times_in}
use Rattle.kv_stamps.specs.Seats.{Seat}
use Rattle.kv_stamps.specs.Steps.{joined_view, Looks}
use Rattle.kv_stamps.specs.declared.view.Range.{Range}
use Rattle.kv_stamps.specs.declared.view.View.{View}
use Rattle.kv_mesh.specs.Joining.{joined_with, joined_from, HasLooked}

-- in how many ranges, gaps and runs of the seats the number is
abbrev pub times_among : ℕ → List Seat → ℕ
times_among number seats = sum_by (λ seat. times_in number seat.view) seats

-- the seats' share of the seats that were made
abbrev pub weight_of : List Seat → ℕ
weight_of seats = sum_by (λ seat. seat.view.weight) seats

-- in how many ranges that the seats drew the number is
abbrev pub drawn_among : ℕ → List Seat → ℕ
drawn_among number seats = sum_by (λ seat. among number seat.view.drawn) seats

times_in-joined : (number : ℕ) (view other : View)
    → times_in number (joined_view view other) ≡ times_in number view + times_in number other
times_in-joined number view other =
    let drawn = sum_by-append (within number) view.drawn other.drawn in
    let gaps = sum_by-append (within number) view.gaps other.gaps in
    let spent = sum_by-append (within number) view.spent other.spent in
    omega (arith, drawn, gaps, spent)

-- one seat has what so many seats had
record HasAll (all first : View) (seats : List Seat) : Type 0 where
  times : (number : ℕ) → times_in number all ≡ times_among number seats
  drawn : (number : ℕ) → among number all.drawn ≡ drawn_among number seats
  weight : all.weight ≡ weight_of seats
  start : all.start ≡ first.start
  seats_are : all.seats ≡ first.seats

has-one : (seat : Seat) → HasAll seat.view seat.view (seat ∷ [])
has-one seat = record {
  times = λ number. omega (arith, sum_by-cons (λ (s : Seat). times_in number s.view) seat []);
  drawn = λ number. omega (
    arith,
    sum_by-cons (λ (s : Seat). among number s.view.drawn) seat
        [],
  );
  weight = omega (arith, sum_by-cons (λ (s : Seat). s.view.weight) seat []);
  start = refl;
  seats_are = refl;
}

one-more : (f : Seat → ℕ) (seats : List Seat) (seat : Seat)
    → sum_by f (seats ++ seat ∷ []) ≡ sum_by f seats + f seat
one-more f seats seat =
    omega (arith, sum_by-append f seats (seat ∷ []), sum_by-cons f seat [])

has-more : (all first : View) (seats : List Seat) (seat : Seat) → HasAll all first seats
    → HasAll (joined_view all seat.view) first (seats ++ seat ∷ [])
has-more all first seats seat h = record {
  times = λ number.
      let joined = times_in-joined number all seat.view in
      let more = one-more (λ (s : Seat). times_in number s.view) seats seat in
      let had = h.times number in
      omega (arith, joined, more, had);
  drawn = λ number.
      let joined = sum_by-append (within number) all.drawn seat.view.drawn in
      let more = one-more (λ (s : Seat). among number s.view.drawn) seats seat in
      let had = h.drawn number in
      omega (arith, joined, more, had);
  weight =
      let more = one-more (λ (s : Seat). s.view.weight) seats seat in
      let had = h.weight in
      omega (arith, more, had);
  start = h.start;
  seats_are = h.seats_are;
}

has-from : (all first : View) (seats others : List Seat) → HasAll all first seats
    → (last : View) × (joined_from (Some all) others ≡ Some last)
    × HasAll last first (seats ++ others)
has-from all first seats [] h =
    (all, refl, subst (HasAll all first) (sym (append-nil seats)) h)
has-from all first seats (seat ∷ others) h =
    let rest = has-from (joined_view all seat.view) first (seats ++ seat ∷ []) others
    (has-more all first seats seat h) in
    (rest.0, rest.1, subst (HasAll rest.0 first) (append_assoc seats (seat ∷ []) others) rest.2)

-- the seats of two lists, the first of which isn't empty
has-both : (first : Seat) (seats others : List Seat) → (last : View)
    × (joined_from (joined_from None (first ∷ seats)) others ≡ Some last)
    × HasAll last first.view ((first ∷ seats) ++ others)
has-both first seats others =
    let a = has-from first.view first.view (first ∷ []) seats (has-one first) in
    let b = has-from a.0 first.view (first ∷ seats) others a.2 in
    (b.0, ap (λ o. joined_from o others) a.1 ∙ b.1, b.2)

-- what the look tells
pub record Tells (start seats : ℕ) (all : List Seat) : Type 0 where
  pub once : (number : ℕ) → times_among number all ≤ 1
  pub low : start ≤ 2 ^ 62 → (number : ℕ)
      → drawn_among number all + below number start ≤ below number (2 ^ 62)
  pub whole : weight_of all ≡ seats → (next : ℕ)
      × ((number : ℕ) → times_among number all ≡ between number start next)

within-none : (number start limit : ℕ) (r : Range) → start ≤ r.first → r.first + r.count ≤ limit
    → (number < start) ⊎ (limit ≤ number) → within number r ≡ 0
within-none number start limit r from to (inl low) =
    let less : number < r.first = omega arith in grind (arith, nat_tests)
within-none number start limit r from to (inr high) =
    let past : r.first + r.count ≤ number = omega arith in grind (arith, nat_tests)

-- a number outside of the stamps from the start on is in no range
among-none : (number start : ℕ) (ranges : List Range) → All (IsOfStamps start) ranges
    → (number < start) ⊎ (2 ^ 62 ≤ number) → among number ranges ≡ 0
among-none number start [] all out = refl
among-none number start (r ∷ ranges) all out =
    let here = All-head (IsOfStamps start) r ranges all in
    let none = within-none number start (2 ^ 62) r here.0 here.2 out in
    let rest = among-none number start ranges (All-tail (IsOfStamps start) r ranges all) out in
    omega (arith, sum_by-cons (within number) r ranges, none, rest)

among-low : (number start : ℕ) (ranges : List Range) → All (IsOfStamps start) ranges
    → start ≤ 2 ^ 62 → among number ranges ≤ 1
    → among number ranges + below number start ≤ below number (2 ^ 62)
among-low number start ranges all most once = ⊎_elim
    (λ (low : number < start).
    let none = among-none number start ranges all (inl low) in
    let under : number < 2 ^ 62 = omega (arith, low, most) in
    let a : below number start ≡ 1 = below-yes number start low in
    let b : below number (2 ^ 62) ≡ 1 = below-yes number (2 ^ 62) under in
    omega (arith, none, a, b))
    (λ (from : start ≤ number). ⊎_elim
    (λ (under : number < 2 ^ 62).
    let a : below number start ≡ 0 = below-no number start from in
    let b : below number (2 ^ 62) ≡ 1 = below-yes number (2 ^ 62) under in
    omega (arith, once, a, b))
    (λ (past : 2 ^ 62 ≤ number).
    let none = among-none number start ranges all (inr past) in
    let a : below number start ≡ 0 = below-no number start from in
    omega (arith, none, a))
    (either number (2 ^ 62)))
    (either number start)
  where
    either : (n m : ℕ) → (n < m) ⊎ (m ≤ n)
    either n m = grind arith

    below-yes : (n m : ℕ) → n < m → below n m ≡ 1
    below-yes n m lt = grind (arith, nat_tests)

    below-no : (n m : ℕ) → m ≤ n → below n m ≡ 0
    below-no n m le = grind (arith, nat_tests)

-- a look with the seat that all were joined to
tells : (last first : View) (seats : List Seat) (next : ℕ) (after : View)
    → HasAll last first seats → Looks last next after → Tells first.start first.seats seats
tells last first seats next after h looks =
    let same : (number : ℕ) → times_in number after ≡ times_among number seats =
    λ number. ap (times_in number) looks.view ∙ h.times number in
    let drew : after.drawn ≡ last.drawn = ap (λ (v : View). v.drawn) looks.view in
    let began : after.start ≡ first.start = ap (λ (v : View). v.start) looks.view ∙ h.start in
    record {
      once = λ number. subst (λ n. n ≤ 1) (same number) (looks.once number);
      low = λ most number.
          let twice = looks.once number in
          let one : among number after.drawn ≤ 1 = omega (arith, twice) in
          let stamps = subst (λ s. All (IsOfStamps s) after.drawn) began looks.rule.drawn in
          let fits = among-low number first.start after.drawn stamps most one in
          let is = ap (among number) drew ∙ h.drawn number in
          omega (arith, fits, is);
      whole = λ weight.
          let all : after.weight ≡ after.seats = ap (λ (v : View). v.weight) looks.view
          ∙ h.weight ∙ weight ∙ sym h.seats_are ∙ sym (ap (λ (v : View). v.seats) looks.view) in (
            next,
            λ number. sym (same number) ∙ (looks.all all).numbers number
                ∙ ap (λ n. between number n next) began,
          );
    }

-- the seats of all parties, where a look was made with all of them joined
pub looked-tells : (first : Seat) (seats others : List Seat)
    → IfSome (joined_from (joined_from None (first ∷ seats)) others) HasLooked
    → Tells first.view.start first.view.seats ((first ∷ seats) ++ others)
looked-tells first seats others looked =
    let b = has-both first seats others in
    let l : HasLooked b.0 = subst (λ o. IfSome o HasLooked) b.1 looked in
    tells b.0 first.view ((first ∷ seats) ++ others) l.next l.after b.2 l.looks

joined-push : (o : Option View) (seats : List Seat) (seat : Seat)
    → joined_from o (seats ++ seat ∷ []) ≡ Some (joined_with (joined_from o seats) seat.view)
joined-push o [] seat = refl
joined-push o (s ∷ seats) seat = joined-push (Some (joined_with o s.view)) seats seat

-- one seat more is joined
pub joined-more : (o before : Option View) (seats : List Seat) (next : View) (other seat : Seat)
    → before ≡ joined_from o seats → next ≡ joined_with before other.view → other ≡ seat
    → Some next ≡ joined_from o (seats ++ seat ∷ [])
joined-more o before seats next other seat was is same =
    ap Some (is ∙ ap (λ (s : Seat). joined_with before s.view) same
    ∙ ap (λ (p : Option View). joined_with p seat.view) was) ∙ sym (joined-push o seats seat)
