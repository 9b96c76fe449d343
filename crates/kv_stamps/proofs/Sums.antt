-- Sums over the views of all seats, and what a change of one view does to them.
use Rattle.std.proofs.Common.{◌≡◌, ℕ, zero, suc, ◌+◌, ◌≤◌, List, [], ◌∷◌, set, refl, sym, ap}
use Rattle.std.proofs.Common.{subst, arith}
use Rattle.std.specs.Prelude.{All, sum_by}
use Rattle.std.proofs.lemmas.List.Elements.{All-head, All-tail}
use Rattle.std.proofs.lemmas.List.Sums.{sum_by-cons}
use mathlib.Core.Option.{some, some-ne-none, some-injective}
use lib.ListN.{get_elem?}
use Rattle.kv_stamps.specs.declared.view.View.{View}
use Rattle.kv_stamps.specs.Rule.{weight}

-- what holds of all views holds of the view at a place
pub all_at : (P : View → Type 0) (views : List View) (id : ℕ) (view : View)
    → get_elem? views id ≡ some view → All P views → P view
all_at P [] id view at all = absurd (some-ne-none view (sym at))
all_at P (x ∷ xs) zero view at all = subst P (some-injective x view at) (All-head P x xs all)
all_at P (x ∷ xs) (suc id) view at all = all_at P xs id view at (All-tail P x xs all)

-- where one view is set, the sum loses what the old one gave, and gains what the new one gives
pub sum_set : (f : View → ℕ) (views : List View) (id : ℕ) (old new : View)
    → get_elem? views id ≡ some old
    → sum_by f (set views id new) + f old ≡ sum_by f views + f new
sum_set f [] id old new at = absurd (some-ne-none old (sym at))
sum_set f (x ∷ xs) zero old new at =
    let same : f x ≡ f old = ap f (some-injective x old at) in
    omega (arith, sum_by-cons f x xs, sum_by-cons f new xs)
sum_set f (x ∷ xs) (suc id) old new at =
    omega (
      arith,
      sum_set f xs id old new at,
      sum_by-cons f x xs,
      sum_by-cons f x (set xs id new),
    )

-- a sum is at least what one view gives
pub sum_has : (f : View → ℕ) (views : List View) (id : ℕ) (view : View)
    → get_elem? views id ≡ some view → f view ≤ sum_by f views
sum_has f [] id view at = absurd (some-ne-none view (sym at))
sum_has f (x ∷ xs) zero view at =
    let same : f x ≡ f view = ap f (some-injective x view at) in
    omega (arith, sum_by-cons f x xs)
sum_has f (x ∷ xs) (suc id) view at =
    omega (arith, sum_has f xs id view at, sum_by-cons f x xs)

-- where each view gives no more by one function than by another, so do all
pub sum_le : (f g : View → ℕ) (views : List View) → All (λ view. f view ≤ g view) views
    → sum_by f views ≤ sum_by g views
sum_le f g [] all = omega arith
sum_le f g (x ∷ xs) all =
    let P : View → Type 0 = λ view. f view ≤ g view in
    let here : f x ≤ g x = All-head P x xs all in
    omega (arith, sum_le f g xs (All-tail P x xs all), sum_by-cons f x xs, sum_by-cons g x xs)

-- views without weight give nothing
abbrev pub GivesByWeight : (View → ℕ) → View → Type 0
GivesByWeight f view = view.weight ≡ 0 → f view ≡ 0

-- where no view has weight, none gives anything
none_gives : (f : View → ℕ) (views : List View) → All (GivesByWeight f) views
    → sum_by weight views ≡ 0 → sum_by f views ≡ 0
none_gives f [] all sum = refl
none_gives f (x ∷ xs) all sum =
    let weights = sum_by-cons weight x xs in
    let here = All-head (GivesByWeight f) x xs all (omega arith) in
    let rest = none_gives f xs (All-tail (GivesByWeight f) x xs all) (omega arith) in
    omega (arith, sum_by-cons f x xs)

-- a view that has the weight of all gives all
pub sum_alone : (f : View → ℕ) (views : List View) (id : ℕ) (view : View)
    → get_elem? views id ≡ some view → All (GivesByWeight f) views
    → sum_by weight views ≡ view.weight → sum_by f views ≡ f view
sum_alone f [] id view at all sum = absurd (some-ne-none view (sym at))
sum_alone f (x ∷ xs) zero view at all sum =
    let same : x ≡ view = some-injective x view at in
    let whole : x.weight ≡ view.weight = ap weight same in
    let weights = sum_by-cons weight x xs in
    let rest = none_gives f xs (All-tail (GivesByWeight f) x xs all) (omega arith) in
    let here : f x ≡ f view = ap f same in
    omega (arith, sum_by-cons f x xs)
sum_alone f (x ∷ xs) (suc id) view at all sum =
    let has = sum_has weight xs id view at in
    let weights = sum_by-cons weight x xs in
    let here = All-head (GivesByWeight f) x xs all (omega arith) in
    let rest = sum_alone f xs id view at (All-tail (GivesByWeight f) x xs all) (omega arith) in
    omega (arith, sum_by-cons f x xs)
