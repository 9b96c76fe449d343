-- What the finite map of a list whose keys rise has at a place, and what an edit there does to it.
use Rattle.std.proofs.Common.{◌≡◌, ℕ, zero, suc, ◌+◌, ◌<◌, ◌≤◌, T, Bool, true, false, cond, not}
use Rattle.std.proofs.Common.{◌&&◌, List, [], ◌∷◌, length, get_or, set, Some, None, Result, Ok, Err}
use Rattle.std.proofs.Common.{IfOk, IfErr, Ordering, Less, Equal, Greater, refl, sym, ap, ◌∙◌}
use Rattle.std.proofs.Common.{subst, arith}
use Rattle.std.specs.List.{insert, remove}
use Rattle.std.specs.Ordering.{is_lt, is_eq, is_le, eq_by_cmp, ordering_reverse, ordering_index}
use Rattle.std.specs.Cmp.{IsTotalOrder, alike_right, tied_itself}
use Rattle.std.specs.List.Sorted.{IsBinarySearchResult, IsSearchInRange, IsNonDecreasingBy}
use Rattle.std.proofs.lemmas.List.{get_or_default}
use Rattle.std.proofs.lemmas.List.Sorted.{searchable_from_sorted}
use Rattle.std.specs.FinMap.{find, is_sorted}
use Rattle.std.specs.FinMap.Entries.{put, where_key, below_all}
use Rattle.kv_index.specs.Places.{IsAt, IsGap}

pub both : (a b : Bool) → T a → T b → T (a && b)
both true b p q = q
both false b p q = p

pub first : (a b : Bool) → T (a && b) → T a
first true b p = tt
first false b p = p

pub second : (a b : Bool) → T (a && b) → T b
second true b p = p
second false b p = absurd p

pub less : (r : Ordering) → T (is_lt r) → r ≡ Less
less Less p = refl
less Equal p = absurd p
less Greater p = absurd p

pub is_less : (r : Ordering) → r ≡ Less → T (is_lt r)
is_less r e = subst (λ x. T (is_lt x)) (sym e) tt

up_to : (r s : Ordering) → T (is_le s) → r ≡ s → T (is_le r)
up_to r s p e = subst (λ x. T (is_le x)) (sym e) p

-- a pair is looked at, kept or put by how a key compares with its own
abbrev looked : {A : Type 0} → Ordering → A → A → A
looked r a b = cond (is_eq r) a b

abbrev pub kept : {A : Type 0} → Ordering → A → List A → List A
kept r a b = cond (not (is_eq r)) (a ∷ b) b

abbrev pub by : {A : Type 0} → Ordering → A → A → A → A
by Less a b c = a
by Equal a b c = b
by Greater a b c = c

module _ {K : Type 0} (R : K → K → Ordering) where
  abbrev other_than : K → K → Bool
  other_than q x = not (eq_by_cmp R q x)

module _ {K X : Type 0} {R : K → K → Ordering} (o : IsTotalOrder R) where
  -- a key below the first of rising keys, or equal to it, is below the rest
  below_rest : (q x : K) (es : List (K × X)) → T (is_le (R q x)) → T (below_all R x es)
      → T (below_all R q es)
  below_rest q x [] p h = tt
  below_rest q x (e ∷ es) p h =
      let here : R x e.0 ≡ Less = less _ (first (is_lt (R x e.0)) (below_all R x es) h) in
      let there : R q e.0 ≡ Less = elim (R q x) as (λ r. R q x ≡ r → T (is_le r) → R q e.0 ≡ Less) [
        | Less ↦ λ is _. o.trans q x e.0 is here
        | Equal ↦ λ is _. o.congr q x e.0 is ∙ here
        | Greater ↦ λ is no. absurd no
      ] refl p in
      both _ _ (is_less _ there)
      (below_rest q x es p (second (is_lt (R x e.0)) (below_all R x es) h))

  find_below : (q : K) (es : List (K × X)) → T (below_all R q es) → find R q es ≡ None
  find_below q [] h = refl
  find_below q (e ∷ es) h =
      ap (λ r. looked r (Some e.1) (find R q es)) {x = R q e.0}
      (less _ (first (is_lt (R q e.0)) (below_all R q es) h))
      ∙ find_below q es (second (is_lt (R q e.0)) (below_all R q es) h)

  kept_below : (q : K) (es : List (K × X)) → T (below_all R q es)
      → where_key R (other_than R q) es ≡ es
  kept_below q [] h = refl
  kept_below q (e ∷ es) h =
      ap (λ r. kept r e (where_key R (other_than R q) es)) {x = R q e.0}
      (less _ (first (is_lt (R q e.0)) (below_all R q es) h))
      ∙ ap (λ rest. e ∷ rest) (kept_below q es (second (is_lt (R q e.0)) (below_all R q es) h))

  -- a key before the first is below all
  below_first : (q : K) (e : K × X) (es : List (K × X)) → T (is_sorted R (e ∷ es)) → R q e.0 ≡ Less
      → T (below_all R q (e ∷ es))
  below_first q e es s h =
      both _ _ (is_less _ h)
      (below_rest q e.0 es (up_to _ Less tt h) (first (below_all R e.0 es) (is_sorted R es) s))

  -- at the place of a key stands its value
  pub find_at : (q : K) (es : List (K × X)) (i : ℕ) → IsAt R q es i → (d : K × X)
      → find R q es ≡ Some (get_or es i d).1
  find_at q [] i h d = absurd h
  find_at q (e ∷ es) zero h d = ap (λ r. looked r (Some e.1) (find R q es)) {x = R q e.0} h
  find_at q (e ∷ es) (suc i) h d =
      ap (λ r. looked r (Some e.1) (find R q es)) {x = R q e.0} h.0 ∙ find_at q es i h.1 d

  pub find_gap : (q : K) (es : List (K × X)) (i : ℕ) → T (is_sorted R es) → IsGap R q es i
      → find R q es ≡ None
  find_gap q [] i s h = refl
  find_gap q (e ∷ es) zero s h = find_below q (e ∷ es) (below_first q e es s h)
  find_gap q (e ∷ es) (suc i) s h =
      ap (λ r. looked r (Some e.1) (find R q es)) {x = R q e.0} h.0
      ∙ find_gap q es i (second (below_all R e.0 es) (is_sorted R es) s) h.1

  pub at-lt : (q : K) (es : List (K × X)) (i : ℕ) → IsAt R q es i → i < length es
  at-lt q [] i h = absurd h
  at-lt q (e ∷ es) zero h = omega arith
  at-lt q (e ∷ es) (suc i) h = omega (arith, at-lt q es i h.1)

  pub gap-le : (q : K) (es : List (K × X)) (i : ℕ) → IsGap R q es i → i ≤ length es
  gap-le q [] i h = omega arith
  gap-le q (e ∷ es) zero h = omega arith
  gap-le q (e ∷ es) (suc i) h = omega (arith, gap-le q es i h.1)

  -- an edit at the place of a key, or at its gap, is the map's
  pub put_at : (q : K) (v : X) (es : List (K × X)) (i : ℕ) (d : K × X) → IsAt R q es i
      → put R q v es ≡ set es i ((get_or es i d).0, v)
  put_at q v [] i d h = absurd h
  put_at q v (e ∷ es) zero d h =
      ap (λ r. by r ((q, v) ∷ e ∷ es) ((e.0, v) ∷ es) (e ∷ put R q v es)) {x = R q e.0} h
  put_at q v (e ∷ es) (suc i) d h =
      ap (λ r. by r ((q, v) ∷ e ∷ es) ((e.0, v) ∷ es) (e ∷ put R q v es)) {x = R q e.0} h.0
      ∙ ap (λ rest. e ∷ rest) (put_at q v es i d h.1)

  pub put_gap : (q : K) (v : X) (es : List (K × X)) (i : ℕ) → IsGap R q es i
      → put R q v es ≡ insert es i (q, v)
  put_gap q v [] i h = rw h
  put_gap q v (e ∷ es) zero h =
      ap (λ r. by r ((q, v) ∷ e ∷ es) ((e.0, v) ∷ es) (e ∷ put R q v es)) {x = R q e.0} h
  put_gap q v (e ∷ es) (suc i) h =
      ap (λ r. by r ((q, v) ∷ e ∷ es) ((e.0, v) ∷ es) (e ∷ put R q v es)) {x = R q e.0} h.0
      ∙ ap (λ rest. e ∷ rest) (put_gap q v es i h.1)

  pub without_at : (q : K) (es : List (K × X)) (i : ℕ) → T (is_sorted R es) → IsAt R q es i
      → where_key R (other_than R q) es ≡ remove es i
  without_at q [] i s h = absurd h
  without_at q (e ∷ es) zero s h =
      ap (λ r. kept r e (where_key R (other_than R q) es)) {x = R q e.0} h
      ∙ kept_below q es
      (below_rest q e.0 es (up_to _ Equal tt h)
      (first (below_all R e.0 es) (is_sorted R es) s))
  without_at q (e ∷ es) (suc i) s h =
      ap (λ r. kept r e (where_key R (other_than R q) es)) {x = R q e.0} h.0
      ∙ ap (λ rest. e ∷ rest)
      (without_at q es i (second (below_all R e.0 es) (is_sorted R es) s) h.1)

  pub without_gap : (q : K) (es : List (K × X)) (i : ℕ) → T (is_sorted R es) → IsGap R q es i
      → where_key R (other_than R q) es ≡ es
  without_gap q [] i s h = refl
  without_gap q (e ∷ es) zero s h = kept_below q (e ∷ es) (below_first q e es s h)
  without_gap q (e ∷ es) (suc i) s h =
      ap (λ r. kept r e (where_key R (other_than R q) es)) {x = R q e.0} h.0
      ∙ ap (λ rest. e ∷ rest)
      (without_gap q es i (second (below_all R e.0 es) (is_sorted R es) s) h.1)

  -- a key that is at or after one that was searched for, and before what stands at its place, has
  -- no value
  pub find_between : (q k : K) (es : List (K × X)) (i : ℕ) (d : K × X) → T (is_sorted R es)
      → IsGap R q es i → T (is_le (R q k)) → (i < length es → R k (get_or es i d).0 ≡ Less)
      → find R k es ≡ None
  find_between q k [] i d s h up low = refl
  find_between q k (e ∷ es) zero d s h up low =
      find_below k (e ∷ es) (below_first k e es s (low (omega arith)))
  find_between q k (e ∷ es) (suc i) d s h up low =
      let after : R e.0 k ≡ Less = elim (R q k) as (λ r. R q k ≡ r → T (is_le r) → R e.0 k ≡ Less) [
        | Less ↦ λ is _. o.trans e.0 q k (o.antisymm e.0 q ∙ ap ordering_reverse h.0) is
        | Equal ↦ λ is _. sym (alike_right o q k e.0 is) ∙ o.antisymm e.0 q
            ∙ ap ordering_reverse h.0
        | Greater ↦ λ is no. absurd no
      ] refl up in
      ap (λ r. looked r (Some e.1) (find R k es)) {x = R k e.0}
      (o.antisymm k e.0 ∙ ap ordering_reverse after)
      ∙ find_between q k es i d (second (below_all R e.0 es) (is_sorted R es) s) h.1 up
      (λ lt. low (omega arith))

  pub below_get : (x : K) (es : List (K × X)) (i : ℕ) (d : K × X) → T (below_all R x es) → i < length es
      → R x (get_or es i d).0 ≡ Less
  below_get x [] i d h lt = absurd (omega arith)
  below_get x (e ∷ es) zero d h lt = less _ (first (is_lt (R x e.0)) (below_all R x es) h)
  below_get x (e ∷ es) (suc i) d h lt =
      below_get x es i d (second (is_lt (R x e.0)) (below_all R x es) h) (omega arith)

  adjacent : (es : List (K × X)) (k j : ℕ) (d : K × X) → T (is_sorted R es) → j ≡ suc k
      → j < length es → is_lt (R (get_or es j d).0 (get_or es k d).0) ≡ false
  adjacent [] k j d s is lt = absurd (omega arith)
  adjacent (e ∷ es) k zero d s is lt = absurd (omega arith)
  adjacent (e ∷ es) zero (suc j) d s is lt =
      ap is_lt
      (o.antisymm (get_or es j d).0 e.0
      ∙ ap ordering_reverse
      (below_get e.0 es j d (first (below_all R e.0 es) (is_sorted R es) s)
      (omega arith)))
  adjacent (e ∷ es) (suc k) (suc j) d s is lt =
      adjacent es k j d (second (below_all R e.0 es) (is_sorted R es) s) (omega arith) (omega arith)

  -- the comparisons with a key rise along rising keys, as a binary search asks
  comparisons_rise : (q : K) (es : List (K × X)) → T (is_sorted R es)
      → IsNonDecreasingBy (λ e. ordering_index (R e.0 q)) es
  comparisons_rise q es s =
      searchable_from_sorted o (λ e. e.0) es q
      (λ k d _ lt. adjacent es k (k + 1) d s (omega arith) lt)

  at_from : (q : K) (es : List (K × X)) (i : ℕ) → T (is_sorted R es) → i < length es
      → ((d : K × X) → R (get_or es i d).0 q ≡ Equal) → IsAt R q es i
  at_from q [] i s lt h = absurd (omega arith)
  at_from q (e ∷ es) zero s lt h = o.antisymm q e.0 ∙ ap ordering_reverse (h e)
  at_from q (e ∷ es) (suc i) s lt h =
      let below =
      below_get e.0 es i e (first (below_all R e.0 es) (is_sorted R es) s) (omega arith) in (
        o.antisymm q e.0
            ∙ ap ordering_reverse
            (sym (alike_right o (get_or es i e).0 q e.0 (h e)) ∙ below),
        at_from q es i
            (second (below_all R e.0 es) (is_sorted R es) s) (omega arith) h,
      )

  gap_from : (q : K) (es : List (K × X)) (i : ℕ) → i ≤ length es
      → ((k : ℕ) (d : K × X) → k < i → R (get_or es k d).0 q ≡ Less)
      → ((k : ℕ) (d : K × X) → i ≤ k → k < length es → R (get_or es k d).0 q ≡ Greater)
      → IsGap R q es i
  gap_from q [] i le low high = omega arith
  gap_from q (e ∷ es) zero le low high =
      o.antisymm q e.0 ∙ ap ordering_reverse (high 0 e (omega arith) (omega arith))
  gap_from q (e ∷ es) (suc i) le low high = (
    o.antisymm q e.0
        ∙ ap ordering_reverse (low 0 e (omega arith)),
    gap_from q es i (omega arith)
        (λ k d lt. low (suc k) d (omega arith))
        (λ k d ge lt. high (suc k) d (omega arith) (omega arith)),
  )

  -- a binary search ends at the key's place, or at its gap
  pub searched : (q : K) (es : List (K × X)) (r : Result ℕ ℕ) → T (is_sorted R es)
      → IsSearchInRange r (length es) → IsBinarySearchResult (λ e. R e.0 q) es r
      → record { found : IfOk r (IsAt R q es); absent : IfErr r (IsGap R q es) }
  searched q es (Ok i) s range h = record { found = at_from q es i s range h; absent = tt }
  searched q es (Err i) s range h =
      let parts = h (comparisons_rise q es s) in
      record {
        found = tt;
        absent = gap_from q es i range (λ k d lt. parts.0 k d (omega arith) lt)
            (λ k d ge lt. parts.1 k d ge lt);
      }

  -- each place is that of its key
  pub at_own : (es : List (K × X)) (i : ℕ) (d : K × X) → T (is_sorted R es) → i < length es
      → IsAt R (get_or es i d).0 es i
  at_own es i d s lt =
      at_from (get_or es i d).0 es i s lt
      (λ e. ap (λ (pair : K × X). R pair.0 (get_or es i d).0) (get_or_default es i e d lt)
      ∙ tied_itself o (get_or es i d).0)

  pub at_ties : (q : K) (es : List (K × X)) (i : ℕ) (d : K × X) → IsAt R q es i
      → R q (get_or es i d).0 ≡ Equal
  at_ties q [] i d h = absurd h
  at_ties q (e ∷ es) zero d h = h
  at_ties q (e ∷ es) (suc i) d h = at_ties q es i d h.1

  pub gap_below : (q : K) (es : List (K × X)) (i : ℕ) (d : K × X) → T (is_sorted R es)
      → IsGap R q es i → i < length es → R q (get_or es i d).0 ≡ Less
  gap_below q [] i d s h lt = absurd (omega arith)
  gap_below q (e ∷ es) zero d s h lt = h
  gap_below q (e ∷ es) (suc i) d s h lt =
      gap_below q es i d (second (below_all R e.0 es) (is_sorted R es) s) h.1 (omega arith)
