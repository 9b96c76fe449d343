-- On the rule of the counter.
use Rattle.std.proofs.Common.{◌≡◌, ℕ, ◌+◌, ◌*◌, ◌^◌, ◌<◌, ◌≤◌, List, [], ◌∷◌, set}
use Rattle.std.proofs.Common.{refl, ap, arith, ⊎_elim}
use Rattle.std.specs.Prelude.{All, sum_by}
use Rattle.std.proofs.lemmas.Bool.{cases_lt}
use Rattle.std.proofs.lemmas.List.Elements.{All-set, All-weaker}
use mathlib.Core.Option.{some}
use lib.ListN.{get_elem?}
use Rattle.atomic_table.specs.Table.{State}
use Rattle.kv_stamps.specs.declared.view.Origin.{Origin}
use Rattle.kv_stamps.specs.declared.view.View.{View}
use Rattle.kv_stamps.specs.Ranges.{below, between}
use Rattle.kv_stamps.specs.Rule.{times_in, refusals, weight, origin_of, left_view, IsLive, IsSeat}
use Rattle.kv_stamps.specs.Rule.{PartitionsNumbers, HasAllNumbers}
use Rattle.kv_stamps.proofs.RangeLemmas.{between-below, between-le}
use Rattle.kv_stamps.proofs.Sums.{all_at, sum_set, sum_has, sum_le, sum_alone, GivesByWeight}

-- the rule, as a table sees it
abbrev pub Kept : {S : Type 0} → Origin → State S View → Type 0
Kept origin state = PartitionsNumbers origin state.words state.views

-- a seat stays one while the next number rises
pub IsSeat-later : (origin : Origin) (a b : ℕ) (view : View) → a ≤ b → IsSeat origin a view
    → IsSeat origin b view
IsSeat-later origin a b view le seat = record {
  live = λ has.
      let l = (seat.live has).1 in (
        (seat.live has).0,
        record {
          drawn = l.drawn;
          below = l.below;
          spent = l.spent;
          started = l.started;
          seen = omega (arith, l.seen);
          raised = omega (arith, l.raised);
          gaps = l.gaps;
          share = l.share;
          few = l.few;
        },
      );
  left = seat.left;
}

-- a live seat
pub live_seat : (origin : Origin) (next : ℕ) (view : View) → origin_of view ≡ origin
    → IsLive next view → IsSeat origin next view
live_seat origin next view same live = record {
  live = λ has. (same, live);
  left = λ none. absurd (omega (arith, live.share));
}

-- the view at a place, where it has a weight
pub live_at : (origin : Origin) (words : List ℕ) (views : List View) (id : ℕ) (view : View)
    (h : PartitionsNumbers origin words views) → get_elem? views id ≡ some view → 1 ≤ view.weight
    → (origin_of view ≡ origin) × IsLive h.next view
live_at origin words views id view h at has =
    (all_at (IsSeat origin h.next) views id view at h.seats).live has

-- the view of one seat changes, and the next number doesn't fall
pub changes : (origin : Origin) (words : List ℕ) (views : List View) (id : ℕ) (old new : View)
    (next : ℕ) (h : PartitionsNumbers origin words views)
    → get_elem? views id ≡ some old → h.next ≤ next → IsSeat origin next new
    → ((number : ℕ)
    → times_in number new + below number h.next ≡ times_in number old + below number next)
    → new.weight ≡ old.weight
    → ((others : ℕ) → h.next ≤ 2 ^ 62 + 512 * (others + refusals old)
    → next ≤ 2 ^ 62 + 512 * (others + refusals new))
    → PartitionsNumbers origin (next ∷ []) (set views id new)
changes origin words views id old new next h at le seat moved same room =
    let others : ℕ = sum_by refusals (set views id left_view) in
    let without : others + refusals old ≡ sum_by refusals views + 0 =
    sum_set refusals views id old left_view at in
    let with' = sum_set refusals views id old new at in
    let before : h.next ≤ 2 ^ 62 + 512 * (others + refusals old) = omega (arith, h.limit) in
    let after = room others before in
    record {
      next = next;
      word = refl;
      numbers = λ number.
          let start = between-below number origin.start h.next h.start in
          let end = between-below number origin.start next (omega (arith, h.start)) in
          let sum = sum_set (times_in number) views id old new at in
          omega (arith, h.numbers number, moved number);
      start = omega (arith, h.start);
      seats = All-set (IsSeat origin next) views id new seat
          (All-weaker (IsSeat origin h.next) (IsSeat origin next)
          (λ view was. IsSeat-later origin h.next next view le was) views h.seats);
      limit = omega arith;
      weights = omega (arith, h.weights, sum_set weight views id old new at);
      few = h.few;
    }

-- no seat met more StampsSpent than it has weight
refusals-le-weight : (origin : Origin) (next : ℕ) (view : View) → IsSeat origin next view
    → refusals view ≤ weight view
refusals-le-weight origin next view seat =
    ⊎_elim
    (λ (has : 0 < view.weight). ((seat.live has).1).few)
    (λ (none : view.weight ≤ 0). rw (seat.left (omega arith)) (omega arith))
    (cases_lt 0 view.weight)

-- the next number is far below the end of its type
pub next-le : (origin : Origin) (words : List ℕ) (views : List View)
    (h : PartitionsNumbers origin words views) → h.next ≤ 2 ^ 62 + 512 * 24
next-le origin words views h =
    let fewer = sum_le refusals weight views (All-weaker (IsSeat origin h.next)
    (λ view. refusals view ≤ weight view) (refusals-le-weight origin h.next) views h.seats) in
    omega (arith, h.limit, h.weights, h.few)

-- a seat without weight is one that was joined to another
by_weight : (f : View → ℕ) (origin : Origin) (next : ℕ) → f left_view ≡ 0 → (view : View)
    → IsSeat origin next view → GivesByWeight f view
by_weight f origin next nothing view seat none = rw (seat.left none) nothing

-- a seat with the weight of all has all numbers
pub has_all_numbers : (origin : Origin) (words : List ℕ) (views : List View) (id : ℕ) (view : View)
    (h : PartitionsNumbers origin words views) → get_elem? views id ≡ some view → 1 ≤ view.weight
    → view.weight ≡ view.seats → HasAllNumbers h.next view
has_all_numbers origin words views id view h at has whole =
    let same = (live_at origin words views id view h at has).0 in
    let start : view.start ≡ origin.start = ap (λ (o : Origin). o.start) same in
    let seats : view.seats ≡ origin.seats = ap (λ (o : Origin). o.seats) same in
    let sum : sum_by weight views ≡ view.weight = omega (arith, h.weights) in
    let gives : (f : View → ℕ) → f left_view ≡ 0 → All (GivesByWeight f) views = λ f nothing.
    All-weaker (IsSeat origin h.next) (GivesByWeight f)
    (by_weight f origin h.next nothing) views h.seats in
    record {
      numbers = λ number.
          let all = gives (times_in number) refl in
          let alone = sum_alone (times_in number) views id view at all sum in
          let moved : between number view.start h.next ≡ between number origin.start h.next =
          ap (λ (s : ℕ). between number s h.next) start in
          omega (arith, h.numbers number);
      limit =
          let alone = sum_alone refusals views id view at (gives refusals refl) sum in
          omega (arith, h.limit);
    }

-- no number is twice in one seat
pub times_in-le : (origin : Origin) (words : List ℕ) (views : List View) (id : ℕ) (view : View)
    (h : PartitionsNumbers origin words views) → get_elem? views id ≡ some view
    → (number : ℕ) → times_in number view ≤ 1
times_in-le origin words views id view h at number =
    omega (
      arith,
      h.numbers number,
      sum_has (times_in number) views id view at,
      between-le number origin.start h.next,
    )
