-- Where a key stands among pairs, from how many of them are before it.
use Rattle.std.proofs.Common.{◌≡◌, ℕ, zero, suc, ◌+◌, ◌<◌, ◌≤◌, List, [], ◌∷◌, length, get_or, take}
use Rattle.std.proofs.Common.{Ordering, Less, Equal, Greater, refl, sym, ap, ◌∙◌, subst, arith}
use Rattle.std.specs.Ordering.{ordering_reverse}
use Rattle.std.specs.FinMap.{is_sorted}
use Rattle.std.specs.FinMap.Entries.{below_all}
use Rattle.std.proofs.lemmas.Cmp.{nat_list_cmp_total}
use Rattle.kv_index.specs.Places.{HasRisingKeys, IsAt, IsGap}
use Rattle.kv_index.proofs.PlacesLemmas.{below_get, first, second}
use Rattle.kv_tree.specs.Subtree.{Pair}
use Rattle.kv_tree.proofs.WeaveLemmas.{Rises, yes, order, upto_greater}
use Rattle.kv_tree.specs.Subtree.{Past}

-- where a pair is before the key, so are those before it
past_at : (q : List ℕ) (es : List Pair) (i n : ℕ) (d : Pair) → Rises es → i < length es
    → order q (get_or es i d).0 ≡ Greater → n ≤ i + 1
    → Past q (take n es)
past_at q es i zero d s lt is le = tt
past_at q [] i (suc n) d s lt is le = absurd (omega arith)
past_at q (e ∷ es) zero (suc zero) d s lt is le = (is, tt)
past_at q (e ∷ es) zero (suc (suc n)) d s lt is le = absurd (omega arith)
past_at q (e ∷ es) (suc i) (suc n) d s lt is le =
    let rest = second (below_all order e.0 es) (is_sorted order es) s in
    let before : order e.0 (get_or es i d).0 ≡ Less =
    below_get nat_list_cmp_total e.0 es i d (first (below_all order e.0 es) (is_sorted order es) s)
    (omega arith) in (
      upto_greater q (get_or es i d).0 is e.0 before,
      past_at q es i n d rest (omega arith) is
          (omega arith),
    )

-- one more, where one more is before the key
pub more_past : (q : List ℕ) (es : List Pair) (i at more : ℕ) (d : Pair) → HasRisingKeys order es
    → i < length es → at ≤ i → more ≤ 1
    → (more ≡ 1 → order q (get_or es i d).0 ≡ Greater) → Past q (take at es)
    → Past q (take (at + more) es)
more_past q es i at zero d s lt le most is past =
    subst (λ (n : ℕ). Past q (take n es)) (omega arith) past
more_past q es i at (suc zero) d s lt le most is past =
    past_at q es i (at + 1) d (yes _ s) lt (is refl) (omega arith)
more_past q es i at (suc (suc more)) d s lt le most is past = absurd (omega arith)

pub at_place : (q : List ℕ) (es : List Pair) (at : ℕ) (d : Pair) → Past q (take at es)
    → at < length es → order q (get_or es at d).0 ≡ Equal
    → IsAt order q es at
at_place q [] at d past lt is = absurd (omega arith)
at_place q (e ∷ es) zero d past lt is = is
at_place q (e ∷ es) (suc at) d past lt is = (past.0, at_place q es at d past.1 (omega arith) is)

pub gap_place : (q : List ℕ) (es : List Pair) (at : ℕ) (d : Pair) → Past q (take at es)
    → at ≤ length es → (at < length es → order q (get_or es at d).0 ≡ Less)
    → IsGap order q es at
gap_place q [] zero d past le is = refl
gap_place q [] (suc at) d past le is = absurd (omega arith)
gap_place q (e ∷ es) zero d past le is = is (omega arith)
gap_place q (e ∷ es) (suc at) d past le is =
    (past.0, gap_place q es at d past.1 (omega arith) (λ lt. is (omega arith)))

-- an item that a key was compared with, seen from the key
pub turned : (q : List ℕ) (x y : Pair) (r s : Ordering) → x ≡ y → r ≡ order x.0 q → r ≡ s
    → order q y.0 ≡ ordering_reverse s
turned q x y r s same is answer =
    ap (λ (p : Pair). order q p.0) (sym same) ∙ nat_list_cmp_total.antisymm q x.0
    ∙ ap ordering_reverse (sym is ∙ answer)

-- an item that is less than the key is past too
pub past_over : (q : List ℕ) (es : List Pair) (at : ℕ) (x : Pair) (r : Ordering)
    → HasRisingKeys order es → at < length es → x ≡ get_or es at x → r ≡ order x.0 q → r ≡ Less
    → Past q (take at es) → Past q (take (at + 1) es)
past_over q es at x r rising lt same is less past =
    more_past q es at at 1 x rising lt (omega arith) (omega arith)
    (λ one. turned q x (get_or es at x) r Less same is less) past

-- where an item is before the key, so are all up to it
pub past_through : (q : List ℕ) (es : List Pair) (i : ℕ) (x : Pair) → HasRisingKeys order es
    → i < length es → x ≡ get_or es i x → order q x.0 ≡ Greater → Past q (take (i + 1) es)
past_through q es i x rising lt same is =
    past_at q es i (i + 1) x (yes _ rising) lt
    (ap (λ (p : Pair). order q p.0) (sym same) ∙ is) (omega arith)

-- where the last pair is before the key, all are
pub all_past : (q : List ℕ) (es : List Pair) (i : ℕ) (d : Pair) → HasRisingKeys order es
    → i + 1 ≡ length es → order q (get_or es i d).0 ≡ Greater → Past q (take (length es) es)
all_past q es i d s last is = past_at q es i (length es) d (yes _ s) (omega arith) is (omega arith)
