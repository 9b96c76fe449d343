-- Bags with one more item, and unions of bags.
use Rattle.std.proofs.Common.{◌≡◌, ℕ, ◌+◌, T, Bool, true, false, cond, List, [], ◌∷◌, ◌++◌}
use Rattle.std.proofs.Common.{Option, None, Some, Less, Equal, Greater, refl, sym, ap, ◌∙◌, arith}
use Rattle.std.specs.Ordering.{is_eq, eq_by_cmp}
use Rattle.std.specs.List.{sum_by}
use Rattle.std.specs.Cmp.{tied_itself}
use Rattle.std.specs.FinMap.{find, is_sorted, entries, get, insert, entries-insert, same_map}
use Rattle.std.specs.FinMap.{get-insert, get-entries, entries_sorted}
use Rattle.std.specs.FinMap.Entries.{put, by_order}
use Rattle.std.proofs.lemmas.Cmp.{nat_list_cmp_total as total}
use Rattle.std.proofs.lemmas.List.Sums.{sum_by-cons}
use Rattle.kv_model.specs.Fold.{KeyValue}
use Rattle.kv_fold.specs.Bags.{Bag, order, or_else, AreApart, IsUnion}
use Rattle.kv_fold.proofs.OrderLemmas.{one_key, none_some, equal_of, first, second, find_below}
use Rattle.kv_fold.proofs.OrderLemmas.{sorted_front, found_in_front}

-- a sum over items with one more
pub sum_put : (f : KeyValue → ℕ) (key value : List ℕ) (es : List KeyValue)
    → find order key es ≡ None
    → sum_by f (put order key value es) ≡ f (key, value) + sum_by f es
sum_put f key value [] none = sum_by-cons f (key, value) []
sum_put f key value (e ∷ es) none =
    elim (order key e.0) as
    (λ r. cond (is_eq r) (Some e.1) (find order key es) ≡ None
    → sum_by f (by_order r ((key, value) ∷ e ∷ es) ((e.0, value) ∷ es) (e ∷ put order key value es))
    ≡ f (key, value) + sum_by f (e ∷ es)) [
      | Less ↦ λ no. sum_by-cons f (key, value) (e ∷ es)
      | Equal ↦ λ no. cc
      | Greater ↦ λ no.
          omega (
            arith,
            sum_by-cons f e (put order key value es),
            sum_by-cons f e es,
            sum_put f key value es no,
          )
    ] none

pub sum_insert : (f : KeyValue → ℕ) (bag : Bag) (key value : List ℕ) → get bag key ≡ None
    → sum_by f (entries (insert bag key value)) ≡ f (key, value) + sum_by f (entries bag)
sum_insert f bag key value none =
    ap (sum_by f) (entries-insert total bag key value)
    ∙ sum_put f key value (entries bag) (sym (get-entries bag key) ∙ none)

-- the bag with these items too
abbrev pub with_all : Bag → List KeyValue → Bag
with_all bag [] = bag
with_all bag (e ∷ es) = with_all (insert bag e.0 e.1) es

pub with_all-append : (bag : Bag) (xs ys : List KeyValue)
    → with_all bag (xs ++ ys) ≡ with_all (with_all bag xs) ys
with_all-append bag [] ys = refl
with_all-append bag (x ∷ xs) ys = with_all-append (insert bag x.0 x.1) xs ys

-- keys rise, and none is in the bag
pub record AreNew (bag : Bag) (es : List KeyValue) : Type 0 where
  pub rising : T (is_sorted order es)
  pub new : (key value : List ℕ) → find order key es ≡ Some value → get bag key ≡ None

pub new_first : (bag : Bag) (e : KeyValue) (es : List KeyValue) → AreNew bag (e ∷ es)
    → get bag e.0 ≡ None
new_first bag e es h =
    h.new e.0 e.1 (ap (λ r. cond (is_eq r) (Some e.1) (find order e.0 es)) (tied_itself total e.0))

pub new_rest : (bag : Bag) (e : KeyValue) (es : List KeyValue) → AreNew bag (e ∷ es)
    → AreNew (insert bag e.0 e.1) es
new_rest bag e es h = record {
  rising = second _ _ h.rising;
  new =
      λ key value is.
      elim (eq_by_cmp order key e.0) as
      (λ b. eq_by_cmp order key e.0 ≡ b → get (insert bag e.0 e.1) key ≡ None) [
        | true ↦ λ tied.
            let same = one_key key e.0 (equal_of _ tied) in
            let none = ap (λ k. find order k es) same ∙ find_below e.0 es (first _ _ h.rising) in
            absurd (none_some value (sym none ∙ is))
        | false ↦ λ apart.
            get-insert total bag e.0 e.1 key ∙ ap (λ b. cond b (Some e.1) (get bag key)) apart
            ∙ h.new key value (ap (λ b. cond b (Some e.1) (find order key es)) apart ∙ is)
      ] refl;
}

pub new_front : (bag : Bag) (xs ys : List KeyValue) → AreNew bag (xs ++ ys) → AreNew bag xs
new_front bag xs ys h = record {
  rising = sorted_front xs ys h.rising;
  new = λ k v is. h.new k v (found_in_front k v xs ys is);
}

pub new_back : (bag : Bag) (xs ys : List KeyValue) → AreNew bag (xs ++ ys)
    → AreNew (with_all bag xs) ys
new_back bag [] ys h = h
new_back bag (x ∷ xs) ys h = new_back (insert bag x.0 x.1) xs ys (new_rest bag x (xs ++ ys) h)

pub sum_with_all : (f : KeyValue → ℕ) (bag : Bag) (es : List KeyValue) → AreNew bag es
    → sum_by f (entries (with_all bag es)) ≡ sum_by f (entries bag) + sum_by f es
sum_with_all f bag [] h = omega arith
sum_with_all f bag (e ∷ es) h =
    omega (
      arith,
      sum_with_all f (insert bag e.0 e.1) es (new_rest bag e es h),
      sum_insert f bag e.0 e.1 (new_first bag e es h),
      sum_by-cons f e es,
    )

pub or_none : (o : Option (List ℕ)) (b : Bool) (v : List ℕ) (w : Option (List ℕ))
    → (b ≡ true → o ≡ None)
    → or_else (cond b (Some v) o) w ≡ or_else o (cond b (Some v) w)
or_none None true v w h = refl
or_none (Some x) true v w h = absurd (none_some x (sym (h refl)))
or_none o false v w h = refl

pub get_with_all : (bag : Bag) (es : List KeyValue) (key : List ℕ) → AreNew bag es
    → get (with_all bag es) key ≡ or_else (get bag key) (find order key es)
get_with_all bag [] key h = elim (get bag key) as
    (λ o. o ≡ or_else o None) [ None ↦ refl | Some v ↦ refl ]
get_with_all bag (e ∷ es) key h =
    get_with_all (insert bag e.0 e.1) es key (new_rest bag e es h)
    ∙ ap (λ o. or_else o (find order key es)) (get-insert total bag e.0 e.1 key)
    ∙ or_none (get bag key) (eq_by_cmp order key e.0) e.1 (find order key es)
    (λ tied. ap (get bag) (one_key key e.0 (equal_of _ tied)) ∙ new_first bag e es h)

pub more_are_new : (bag more : Bag) → AreApart bag more → AreNew bag (entries more)
more_are_new bag more apart = record {
  rising = entries_sorted more;
  new = λ key value is. apart key value (get-entries more key ∙ is);
}

-- the union is the bag with the other's items
pub union_is : (bag more all : Bag) → AreApart bag more → IsUnion bag more all
    → all ≡ with_all bag (entries more)
union_is bag more all apart is =
    same_map total one_key all (with_all bag (entries more))
    (λ key. is key ∙ ap (or_else (get bag key)) (get-entries more key)
    ∙ sym (get_with_all bag (entries more) key (more_are_new bag more apart)))
