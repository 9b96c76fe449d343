-- Lemmas on the first element that passes a test, in a list that rises.
use Rattle.std.proofs.Common.{◌≡◌, ℕ, ◌<◌, ◌≤◌, ◌⊎◌, inl, inr, Bool, true, false}
use Rattle.std.proofs.Common.{cond, List, [], ◌∷◌, None, Some, refl, ap, sym, ◌∙◌}
use Rattle.std.proofs.Common.{subst, arith, is_some, true≢false, Contains}
use Rattle.std.specs.List.{AllByRecursion, find}
use Rattle.kv_model.specs.Pairwise.{Pairwise}
use Rattle.kv_model.proofs.ContainsLemmas.{Contains-cons, Contains-behind}

above-first : (first : ℕ) (rest : List ℕ) (x : ℕ) → AllByRecursion (λ next. first < next) rest
    → Contains rest x → first < x
above-first first [] x above has = absurd (omega (arith, has.1))
above-first first (next ∷ rest) x above has = by (Contains-cons next rest x has)
    (λ later. above-first first rest x above.1 later)
  where
    by : (next ≡ x) ⊎ Contains rest x → (Contains rest x → first < x) → first < x
    by (inl is) later = subst (λ y. first < y) is above.0
    by (inr behind) later = later behind

same-some : (a b : ℕ) → Some a ≡ Some b → a ≡ b
same-some a b e = cc

no-some : (a : ℕ) → None ≡ Some a → ⊥
no-some a e = absurd (true≢false (sym (ap is_some e)))

-- what was found is in the list, and passes
pub find-holds : (test : ℕ → Bool) (xs : List ℕ) (x : ℕ) → find test xs ≡ Some x
    → Contains xs x × (test x ≡ true)
find-holds test [] x is = absurd (no-some x is)
find-holds test (first ∷ rest) x is = by (test first) refl is (λ later. find-holds test rest x
    later)
  where
    by : (passes : Bool) → test first ≡ passes → cond passes (Some first) (find test rest) ≡ Some x
        → (find test rest ≡ Some x → Contains rest x × (test x ≡ true))
        → Contains (first ∷ rest) x × (test x ≡ true)
    by true e is later = (
      (0, omega arith, same-some first x is),
      subst (λ y. test y ≡ true) (same-some first x is) e,
    )
    by false e is later = (Contains-behind first rest x (later is).0, (later is).1)

-- and no other that passes is less
pub find-least : (test : ℕ → Bool) (xs : List ℕ) (x other : ℕ)
    → Pairwise (λ first next. first < next) xs → find test xs ≡ Some x → Contains xs other
    → test other ≡ true → x ≤ other
find-least test [] x other rising is has passes = absurd (no-some x is)
find-least test (first ∷ rest) x other rising is has passes =
    by (test first) refl is (Contains-cons first rest other has)
    (λ later behind. find-least test rest x other rising.1 later behind passes)
  where
    by : (first_passes : Bool) → test first ≡ first_passes
        → cond first_passes (Some first) (find test rest) ≡ Some x
        → (first ≡ other) ⊎ Contains rest other
        → (find test rest ≡ Some x → Contains rest other → x ≤ other) → x ≤ other
    by true e is (inl same) later = subst (λ y. y ≤ other) (same-some first x is)
        (omega (arith, same))
    by true e is (inr behind) later = subst (λ y. y ≤ other) (same-some first x is)
        (let above = above-first first rest other rising.0 behind in omega (arith, above))
    by false e is (inl same) later =
        absurd (true≢false (sym passes ∙ ap test (sym same) ∙ e))
    by false e is (inr behind) later = later is behind

-- the least one that passes is found
pub find-is : (test : ℕ → Bool) (xs : List ℕ) (x : ℕ)
    → Pairwise (λ first next. first < next) xs → Contains xs x → test x ≡ true
    → ((other : ℕ) → Contains xs other → test other ≡ true → x ≤ other) → find test xs ≡ Some x
find-is test [] x rising has passes least = absurd (omega (arith, has.1))
find-is test (first ∷ rest) x rising has passes least =
    by (test first) refl (Contains-cons first rest x has)
    (λ behind. find-is test rest x rising.1 behind passes
    (λ other there good. least other (Contains-behind first rest other there) good))
  where
    by : (first_passes : Bool) → test first ≡ first_passes → (first ≡ x) ⊎ Contains rest x
        → (Contains rest x → find test rest ≡ Some x)
        → cond first_passes (Some first) (find test rest) ≡ Some x
    by true e (inl same) later = ap Some same
    by true e (inr behind) later =
        let above = above-first first rest x rising.0 behind in
        let not_above = least first (0, omega arith, refl) e in
        absurd (omega (arith, above, not_above))
    by false e (inl same) later = absurd (true≢false (sym passes ∙ ap test (sym same) ∙ e))
    by false e (inr behind) later = later behind
