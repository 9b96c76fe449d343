use Rattle.std.proofs.Common.{◌≤◌, ◌==◌, ℕ, List, [], ◌∷◌, map, count_by, ap, arith}
use Rattle.std.specs.Prelude.{All, cond}
use Rattle.std.proofs.lemmas.Bool.Decides.{nat_tests}
use Rattle.std.proofs.lemmas.List.Elements.{All-head, All-tail}
use Rattle.std.proofs.lemmas.List.Sums.{sum_by-cons}
use Rattle.kv_stamps.specs.declared.view.Range.{Range}
use Rattle.kv_stamps.specs.declared.view.View.{View}
use Rattle.kv_stamps.specs.Ranges.{within, among, IsOfStamps}
use Rattle.kv_ring_tests.proofs.stamps.drawer.Drawer.into_numbers.Goals as goal

-- a range of stamps has its first number
has_first : (start number : ℕ) (r : Range) → IsOfStamps start r
    → cond (r.first == number) 1 0 ≤ within number r
has_first start number r of = grind (arith, nat_tests)

-- so ranges have no fewer of a number than they begin with
firsts-le : (start number : ℕ) (ranges : List Range) → All (IsOfStamps start) ranges
    → count_by (λ first. first == number) (map (λ (r : Range). r.first) ranges)
    ≤ among number ranges
firsts-le start number [] all = omega arith
firsts-le start number (r ∷ ranges) all =
    let firsts : List ℕ = map (λ (r : Range). r.first) ranges in
    omega (
      arith,
      has_first start number r (All-head (IsOfStamps start) r ranges all),
      firsts-le start number ranges (All-tail (IsOfStamps start) r ranges all),
      sum_by-cons (within number) r ranges,
      sum_by-cons (λ first. cond (first == number) 1 0) r.first firsts,
    )

pub returns : goal.returns
returns c number =
    let looks = c.look.ensures.value.2 in
    let drawn = ap (λ (v : View). v.drawn) looks.view in
    rw (c.args.self.noted, ← drawn)
    (omega (arith, looks.once number, firsts-le _ number _ looks.rule.drawn))
