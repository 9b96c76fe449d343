-- Lemmas on the order of keys.
use Rattle.std.proofs.Common.{◌≡◌, ℕ, ◌⊎◌, inl, inr, true, false, List, refl, sym, ap, ◌∙◌}
use Rattle.std.proofs.Common.{subst, Ordering, Less, Equal, Greater, true≢false}
use Rattle.std.specs.Ordering.{nat_cmp, is_le, is_lt, is_eq, ordering_reverse}
use Rattle.std.specs.Cmp.{tied_itself}
use Rattle.std.specs.Cmp.Lexicographic.{slice_cmp}
use Rattle.std.proofs.lemmas.Cmp.{nat_list_cmp_total}
use Rattle.std.proofs.lemmas.Map.Text.{is_eq-slice_cmp}
use Rattle.std.proofs.lemmas.Slice.Eq.{bytes_eq-Decides}
use Rattle.kv_model.specs.Items.{IsLess}
use Rattle.kv_model.specs.Lookup.{IsAtMost}

less-is : (o : Ordering) → is_lt o ≡ true → o ≡ Less
less-is Less e = refl
less-is Equal e = absurd (true≢false (sym e))
less-is Greater e = absurd (true≢false (sym e))

-- keys that compare as equal are one key
pub one_key : (a b : List ℕ) → slice_cmp nat_cmp a b ≡ Equal → a ≡ b
one_key a b e = (bytes_eq-Decides a b).0 (sym (is_eq-slice_cmp a b) ∙ ap is_eq e)

pub less-trans : (a b c : List ℕ) → IsLess a b → IsLess b c → IsLess a c
less-trans a b c first second =
    ap is_lt (nat_list_cmp_total.trans a b c (less-is (slice_cmp nat_cmp a b) first)
    (less-is (slice_cmp nat_cmp b c) second))

pub less-apart : (a : List ℕ) → IsLess a a → ⊥
less-apart a less = true≢false (sym less ∙ ap is_lt (tied_itself nat_list_cmp_total a))

-- a key is up to another, or behind it
pub behind-otherwise : (a b : List ℕ) → is_le (slice_cmp nat_cmp a b) ≡ false → IsLess b a
behind-otherwise a b e = ap is_lt (nat_list_cmp_total.antisymm b a
    ∙ ap ordering_reverse (greater (slice_cmp nat_cmp a b) e))
  where
    greater : (o : Ordering) → is_le o ≡ false → o ≡ Greater
    greater Less h = absurd (true≢false h)
    greater Equal h = absurd (true≢false h)
    greater Greater h = refl

pub up_to-splits : (a b : List ℕ) → IsAtMost a b → (a ≡ b) ⊎ IsLess a b
up_to-splits a b le = by (slice_cmp nat_cmp a b) refl le
  where
    by : (o : Ordering) → slice_cmp nat_cmp a b ≡ o → is_le o ≡ true → (a ≡ b) ⊎ IsLess a b
    by Less e h = inr (ap is_lt e)
    by Equal e h = inl (one_key a b e)
    by Greater e h = absurd (true≢false (sym h))

pub up_to-less : (a b : List ℕ) → IsLess a b → IsAtMost a b
up_to-less a b less = ap is_le (less-is (slice_cmp nat_cmp a b) less)

pub up_to-itself : (a : List ℕ) → IsAtMost a a
up_to-itself a = ap is_le (tied_itself nat_list_cmp_total a)

pub less-up_to : (a b c : List ℕ) → IsLess a b → IsAtMost b c → IsLess a c
less-up_to a b c less le = by (up_to-splits b c le)
  where
    by : (b ≡ c) ⊎ IsLess b c → IsLess a c
    by (inl same) = subst (IsLess a) same less
    by (inr more) = less-trans a b c less more

pub up_to-less-trans : (a b c : List ℕ) → IsAtMost a b → IsLess b c → IsLess a c
up_to-less-trans a b c le less = by (up_to-splits a b le)
  where
    by : (a ≡ b) ⊎ IsLess a b → IsLess a c
    by (inl same) = subst (λ k. IsLess k c) (sym same) less
    by (inr more) = less-trans a b c more less

-- a key isn't up to one that is less
pub not-both : (a b : List ℕ) → IsAtMost a b → IsLess b a → ⊥
not-both a b le less = less-apart a (up_to-less-trans a b a le less)
