-- Keys: one or apart, their order, and the next one.
use Rattle.std.proofs.Common.{◌≡◌, ◌≢◌, ℕ, ◌<◌, Bool, true, false, List, [], ◌∷◌, ◌&&◌}
use Rattle.std.proofs.Common.{Less, Equal, Greater, refl, sym, ap, ◌∙◌, arith}
use Rattle.std.specs.Ordering.{is_le, is_eq, eq_by_cmp, nat_cmp, ordering_then, ordering_reverse}
use Rattle.std.specs.Cmp.{tied_itself, ranked}
use Rattle.std.proofs.lemmas.Cmp.{nat_list_cmp_total as total, nat_cmp_total}
use Rattle.kv_fold.specs.Bags.{order}
use Rattle.kv_fold.proofs.OrderLemmas.{one_key, equal_of, turned}
use Rattle.kv_scan.specs.Scans.{next_key}
use Rattle.kv_scan.specs.Laws.{NextKeyFollows}

pub tied : (key : List ℕ) → eq_by_cmp order key key ≡ true
tied key = ap is_eq (tied_itself total key)

pub untied : (key other : List ℕ) → key ≢ other → eq_by_cmp order key other ≡ false
untied key other apart =
    elim (eq_by_cmp order key other) as (λ b. eq_by_cmp order key other ≡ b → b ≡ false) [
      | true ↦ λ is. absurd (apart (one_key key other (equal_of _ is)))
      | false ↦ λ is. refl
    ] refl

-- two keys are one or apart
pub data Same (key other : List ℕ) : Type 0 where
  one : key ≡ other → Same key other
  two : key ≢ other → Same key other

pub same_or_not : (key other : List ℕ) → Same key other
same_or_not key other =
    elim (eq_by_cmp order key other) as (λ b. eq_by_cmp order key other ≡ b → Same key other) [
      | true ↦ λ is. one (one_key key other (equal_of _ is))
      | false ↦ λ is. two (λ e. cc (ap (eq_by_cmp order key) (sym e), tied key, is))
    ] refl

pub at_itself : (key : List ℕ) → is_le (order key key) ≡ true
at_itself key = ap is_le (tied_itself total key)

-- the next key is above
pub greater_next : (key : List ℕ) → order key (next_key key) ≡ Less
greater_next [] = refl
greater_next (x ∷ xs) =
    ap (λ r. ordering_then r (order xs (next_key xs))) (tied_itself nat_cmp_total x)
    ∙ greater_next xs

-- and at or before each key that is above
pub next_le : (key other : List ℕ) → order other key ≡ Greater
    → is_le (order (next_key key) other) ≡ true
next_le [] [] h = cc
next_le [] (y ∷ ys) h =
    elim (nat_cmp 0 y) as
    (λ r. nat_cmp 0 y ≡ r → is_le (ordering_then r (order [] ys)) ≡ true) [
      | Less ↦ λ is. refl
      | Equal ↦ λ is. elim ys as (λ l. is_le (order [] l) ≡ true) [ [] ↦ refl | z ∷ zs ↦ refl ]
      | Greater ↦ λ is. let low : y < 0 = ranked 0 y Greater (sym is) in absurd (omega arith)
    ] refl
next_le (x ∷ xs) [] h = cc
next_le (x ∷ xs) (y ∷ ys) h =
    elim (nat_cmp y x) as
    (λ r. nat_cmp y x ≡ r → ordering_then r (order ys xs) ≡ Greater
    → is_le (ordering_then (nat_cmp x y) (order (next_key xs) ys)) ≡ true) [
      | Less ↦ λ is more. cc
      | Equal ↦ λ is more.
          ap (λ r. is_le (ordering_then r (order (next_key xs) ys)))
          (nat_cmp_total.antisymm x y ∙ ap ordering_reverse is)
          ∙ next_le xs ys more
      | Greater ↦ λ is more.
          ap (λ r. is_le (ordering_then r (order (next_key xs) ys)))
          (nat_cmp_total.antisymm x y ∙ ap ordering_reverse is)
    ] refl h

pub next_follows : NextKeyFollows
next_follows key = record {
  above = greater_next key;
  least = λ other up. next_le key other (turned key other up);
}

-- at or before a key is before a greater one
pub le_then_less : (a b c : List ℕ) → is_le (order a b) ≡ true → order b c ≡ Less
    → order a c ≡ Less
le_then_less a b c h lt =
    elim (order a b) as (λ r. order a b ≡ r → is_le r ≡ true → order a c ≡ Less) [
      | Less ↦ λ is le. total.trans a b c is lt
      | Equal ↦ λ is le. ap (λ k. order k c) (one_key a b is) ∙ lt
      | Greater ↦ λ is le. cc
    ] refl h

-- what is at or before a key is at or before the next one
pub le_next : (a b : List ℕ) → is_le (order a b) ≡ true → is_le (order a (next_key b)) ≡ true
le_next a b h = ap is_le (le_then_less a b (next_key b) h (greater_next b))

pub right_true : (a b : Bool) → (a && b) ≡ true → b ≡ true
right_true true b h = h
right_true false b h = cc

pub left_true : (a b : Bool) → (a && b) ≡ true → a ≡ true
left_true true b h = refl
left_true false b h = h

pub and_false : (a : Bool) → (a && false) ≡ false
and_false true = refl
and_false false = refl
