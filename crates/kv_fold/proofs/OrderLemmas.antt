-- Keys and their order, and lists whose keys rise.
use Rattle.std.proofs.Common.{◌≡◌, ℕ, T, Bool, true, false, cond, List, [], ◌∷◌, ◌++◌, ◌&&◌}
use Rattle.std.proofs.Common.{None, Some, Ordering, Less, Equal, Greater, refl, sym, ap, ◌∙◌}
use Rattle.std.proofs.Common.{subst, arith, IsTrue, All}
use Rattle.std.proofs.lemmas.Grind.{common_steps}
use Rattle.std.specs.Ordering.{is_lt, is_eq, eq_by_cmp, ordering_reverse}
use Rattle.std.specs.FinMap.{find, is_sorted, slice_cmp-IsAntisymmetric, nat_cmp-IsAntisymmetric}
use Rattle.std.specs.FinMap.Entries.{below_all}
use Rattle.std.proofs.lemmas.Cmp.{nat_list_cmp_total as total}
use Rattle.kv_model.specs.Fold.{KeyValue}
use Rattle.kv_fold.specs.Bags.{order}
use Rattle.kv_fold.specs.Prefixes.{below}

-- keys that compare alike are one
pub one_key : (a b : List ℕ) → order a b ≡ Equal → a ≡ b
one_key = slice_cmp-IsAntisymmetric nat_cmp-IsAntisymmetric

pub none_some : {A : Type 0} (x : A) → None ≡ Some x → ⊥
none_some x e = cc

pub equal_of : (r : Ordering) → is_eq r ≡ true → r ≡ Equal
equal_of Less e = cc
equal_of Equal e = refl
equal_of Greater e = cc

pub both : (a b : Bool) → T a → T b → T (a && b)
both true b p q = q
both false b p q = p

pub first : (a b : Bool) → T (a && b) → T a
first true b p = tt
first false b p = p

pub second : (a b : Bool) → T (a && b) → T b
second true b p = p
second false b p = absurd p

pub less : (r : Ordering) → T (is_lt r) → r ≡ Less
less Less p = refl
less Equal p = absurd p
less Greater p = absurd p

pub lt_is : (r : Ordering) → is_lt r ≡ true → r ≡ Less
lt_is Less e = refl
lt_is Equal e = cc
lt_is Greater e = cc

pub yes : (b : Bool) → IsTrue b → T b
yes b is = subst T (sym is) tt

pub is_yes : (b : Bool) → T b → IsTrue b
is_yes true h = refl
is_yes false h = absurd h

pub turned : (a b : List ℕ) → order a b ≡ Less → order b a ≡ Greater
turned a b h = total.antisymm b a ∙ ap ordering_reverse h

pub turned_back : (a b : List ℕ) → order a b ≡ Greater → order b a ≡ Less
turned_back a b h = total.antisymm b a ∙ ap ordering_reverse h

pub below_less : (x y : List ℕ) (es : List KeyValue) → order x y ≡ Less → T (below_all order y es)
    → T (below_all order x es)
below_less x y [] p h = tt
below_less x y (e ∷ es) p h =
    both _ _ (subst (λ r. T (is_lt r)) (sym (total.trans x y e.0 p (less _ (first _ _ h)))) tt)
    (below_less x y es p (second _ _ h))

pub find_below : (key : List ℕ) (es : List KeyValue) → T (below_all order key es)
    → find order key es ≡ None
find_below key [] h = refl
find_below key (e ∷ es) h =
    ap (λ r. cond (is_eq r) (Some e.1) (find order key es)) (less _ (first _ _ h))
    ∙ find_below key es (second _ _ h)

-- what is found behind the first item is found
pub later_found : (k v : List ℕ) (e : KeyValue) (es : List KeyValue) → T (is_sorted order (e ∷ es))
    → find order k es ≡ Some v → find order k (e ∷ es) ≡ Some v
later_found k v e es s is =
    elim (eq_by_cmp order k e.0) as
    (λ b. eq_by_cmp order k e.0 ≡ b → cond b (Some e.1) (find order k es) ≡ Some v) [
      | true ↦ λ tied.
          let same = one_key k e.0 (equal_of _ tied) in
          let none = ap (λ q. find order q es) same ∙ find_below e.0 es (first _ _ s) in
          absurd (none_some v (sym none ∙ is))
      | false ↦ λ apart. is
    ] refl

pub found_in_front : (k v : List ℕ) (xs ys : List KeyValue) → find order k xs ≡ Some v
    → find order k (xs ++ ys) ≡ Some v
found_in_front k v [] ys is = absurd (none_some v is)
found_in_front k v (x ∷ xs) ys is =
    elim (eq_by_cmp order k x.0) as
    (λ b. cond b (Some x.1) (find order k xs) ≡ Some v
    → cond b (Some x.1) (find order k (xs ++ ys)) ≡ Some v) [
      | true ↦ λ at. at
      | false ↦ λ at. found_in_front k v xs ys at
    ] is

pub not_below : (x y key : List ℕ) → order x y ≡ Less → is_lt (order x key) ≡ false
    → is_lt (order y key) ≡ false
not_below x y key up h =
    elim (order y key) as (λ r. order y key ≡ r → is_lt r ≡ false) [
      | Less ↦ λ is. ap is_lt {x = Less} {y = order x key} (sym (total.trans x y key up is)) ∙ h
      | Equal ↦ λ is. refl
      | Greater ↦ λ is. refl
    ] refl

pub where_none : (key x : List ℕ) (es : List KeyValue) → is_lt (order x key) ≡ false
    → T (below_all order x es) → below key es ≡ []
where_none key x [] h b = refl
where_none key x (e ∷ es) h b =
    ap (λ t. cond t (e ∷ below key es) (below key es))
    (not_below x e.0 key (less _ (first _ _ b)) h)
    ∙ where_none key x es h (second _ _ b)

pub sorted_below : (x : List ℕ) (xs ys : List KeyValue) → T (below_all order x (xs ++ ys))
    → T (below_all order x xs)
sorted_below x [] ys h = tt
sorted_below x (e ∷ es) ys h = both _ _ (first _ _ h) (sorted_below x es ys (second _ _ h))

-- the front of a list whose keys rise
pub sorted_front : (xs ys : List KeyValue) → T (is_sorted order (xs ++ ys)) → T (is_sorted order xs)
sorted_front [] ys h = tt
sorted_front (e ∷ es) ys h =
    both _ _ (sorted_below e.0 es ys (first _ _ h)) (sorted_front es ys (second _ _ h))

-- items before another in a list whose keys rise are below it
pub below_joint : (x : List ℕ) (xs : List KeyValue) (e : KeyValue) (ys : List KeyValue)
    → T (below_all order x (xs ++ e ∷ ys)) → order x e.0 ≡ Less
below_joint x [] e ys h = less _ (first _ _ h)
below_joint x (y ∷ xs) e ys h = below_joint x xs e ys (second _ _ h)

pub front_below : (xs : List KeyValue) (e : KeyValue) (ys : List KeyValue)
    → T (is_sorted order (xs ++ e ∷ ys))
    → (k v : List ℕ) → find order k xs ≡ Some v → order k e.0 ≡ Less
front_below [] e ys s k v is = absurd (none_some v is)
front_below (x ∷ xs) e ys s k v is =
    elim (eq_by_cmp order k x.0) as
    (λ b. eq_by_cmp order k x.0 ≡ b → cond b (Some x.1) (find order k xs) ≡ Some v
    → order k e.0 ≡ Less) [
      | true ↦ λ tied at.
          ap (λ q. order q e.0) (one_key k x.0 (equal_of _ tied))
          ∙ below_joint x.0 xs e ys (first _ _ s)
      | false ↦ λ apart at. front_below xs e ys (second _ _ s) k v at
    ] refl is

pub back_above : (xs : List KeyValue) (e : KeyValue) (ys : List KeyValue)
    → T (is_sorted order (xs ++ e ∷ ys))
    → T (below_all order e.0 ys)
back_above [] e ys s = first _ _ s
back_above (x ∷ xs) e ys s = back_above xs e ys (second _ _ s)

pub All-front : (P : KeyValue → Type 0) (xs ys : List KeyValue) → All P (xs ++ ys) → All P xs
All-front P xs ys all k d h = grind (arith, common_steps, all k d)
