-- The longest prefix of a union follows from the two longest prefixes.
use Rattle.std.proofs.Common.{◌≡◌, ℕ, zero, suc, ◌+◌, ◌-◌, ◌≤◌, T, true, false, cond}
use Rattle.std.proofs.Common.{List, [], ◌∷◌, ◌++◌, Option, None, Some, Less, Equal, Greater}
use Rattle.std.proofs.Common.{refl, sym, ap, ◌∙◌, subst, arith, nat_le, is_some}
use Rattle.std.proofs.lemmas.Bool.Decides.{nat_tests}
use Rattle.std.specs.Ordering.{is_lt, is_eq}
use Rattle.std.specs.List.{sum_by}
use Rattle.std.specs.Cmp.{tied_itself}
use Rattle.std.specs.FinMap.{find, is_sorted, entries, get, insert, entries-insert, get-entries}
use Rattle.std.specs.FinMap.{entries_sorted}
use Rattle.std.specs.FinMap.Entries.{put, by_order, below_all}
use Rattle.std.proofs.lemmas.List.Sums.{sum_by-cons}
use Rattle.std.proofs.lemmas.Cmp.{nat_list_cmp_total as total}
use Rattle.kv_model.specs.Fold.{KeyValue, item_size}
use Rattle.kv_fold.specs.Bags.{Bag, order, AreApart}
use Rattle.kv_fold.specs.States.{Prefix, prefix, prefix_of, cut_at, led_by}
use Rattle.kv_fold.specs.Prefixes.{
  below,
  shorter,
  trim,
  is_past,
  take_in,
  accept,
  accept_all,
  close,
}
use Rattle.kv_fold.proofs.OrderLemmas.{both, second, first, less, lt_is, turned}
use Rattle.kv_fold.proofs.OrderLemmas.{turned_back, below_less, not_below, where_none, later_found}
use Rattle.kv_fold.proofs.OrderLemmas.{front_below, back_above}
use Rattle.kv_fold.proofs.BagLemmas.{with_all, with_all-append, AreNew, new_first, new_rest}
use Rattle.kv_fold.proofs.BagLemmas.{new_front, new_back, sum_with_all, more_are_new}
use Rattle.kv_fold.proofs.PrefixLemmas.{prefix_put, find_prefix, prefix_sorted, prefix_few}
use Rattle.kv_fold.proofs.PrefixLemmas.{prefix_small, Splits, cut_splits, no_cut}

pub accept_new : (most room : ℕ) (key value : List ℕ) (old : Prefix)
    → find order key old.items ≡ None
    → accept most room key value old ≡ take_in most room key value old
accept_new most room key value old none =
    ap (λ (o : Option (List ℕ)). cond (is_some o) old (take_in most room key value old)) none

-- one more item in a bag
pub prefix_insert : (n r : ℕ) (bag : Bag) (key value : List ℕ) → get bag key ≡ None
    → prefix_of n r (entries (insert bag key value))
    ≡ accept n r key value (prefix_of n r (entries bag))
prefix_insert n r bag key value none =
    let no = sym (get-entries bag key) ∙ none in
    ap (prefix_of n r) (entries-insert total bag key value)
    ∙ prefix_put key value (entries bag) n r (entries_sorted bag) no
    ∙ sym (accept_new n r key value (prefix_of n r (entries bag))
    (find_prefix key (entries bag) n r no))

-- more items in a bag
pub prefix_with_all : (n r : ℕ) (bag : Bag) (es : List KeyValue) → AreNew bag es
    → prefix_of n r (entries (with_all bag es)) ≡ accept_all n r es (prefix_of n r (entries bag))
prefix_with_all n r bag [] h = refl
prefix_with_all n r bag (e ∷ es) h =
    prefix_with_all n r (insert bag e.0 e.1) es (new_rest bag e es h)
    ∙ ap (accept_all n r es) (prefix_insert n r bag e.0 e.1 (new_first bag e es h))

-- the weight of the items below a key
abbrev pub weight_below : (KeyValue → ℕ) → List ℕ → KeyValue → ℕ
weight_below f key item = cond (is_lt (order item.0 key)) (f item) 0

-- items above a item that is not below the key are not below it
pub none_below : (f : KeyValue → ℕ) (key x : List ℕ) (es : List KeyValue)
    → is_lt (order x key) ≡ false
    → T (below_all order x es) → sum_by (weight_below f key) es ≡ 0
none_below f key x [] h b = refl
none_below f key x (e ∷ es) h b =
    let no : is_lt (order e.0 key) ≡ false = not_below x e.0 key (less _ (first _ _ b)) h in
    let here : weight_below f key e ≡ 0 = ap (λ t. cond t (f e) 0) no in
    omega (
      arith,
      here,
      sum_by-cons (weight_below f key) e es,
      none_below f key x es h
          (second _ _ b),
    )

pub at_cut : (f : KeyValue → ℕ) (key : List ℕ) (e : KeyValue) (es : List KeyValue)
    → T (is_sorted order (e ∷ es))
    → is_lt (order e.0 key) ≡ false → sum_by (weight_below f key) (e ∷ es) ≡ 0
at_cut f key e es s h =
    let here : weight_below f key e ≡ 0 = ap (λ t. cond t (f e) 0) h in
    omega (
      arith,
      here,
      sum_by-cons (weight_below f key) e es,
      none_below f key e.0 es h
          (first _ _ s),
    )

-- a prefix whose cut is not below the key has all items below the key
pub below_prefix_sum : (f : KeyValue → ℕ) (key : List ℕ) (es : List KeyValue) (n r : ℕ)
    → T (is_sorted order es)
    → is_past (prefix_of n r es).cut key ≡ false
    → sum_by (weight_below f key) es ≡ sum_by (weight_below f key) (prefix_of n r es).items
below_prefix_sum f key [] n r s h = refl
below_prefix_sum f key (e ∷ es) zero r s h = at_cut f key e es s h
below_prefix_sum f key (e ∷ es) (suc m) r s h =
    elim (nat_le (item_size e) r) as
    (λ b. is_past (cond b (led_by e (prefix_of m (r - item_size e) es)) (cut_at e.0)).cut key
    ≡ false
    → sum_by (weight_below f key) (e ∷ es)
    ≡ sum_by (weight_below f key)
    (cond b (led_by e (prefix_of m (r - item_size e) es)) (cut_at e.0)).items) [
      | true ↦ λ not_past.
          omega (
            arith,
            sum_by-cons (weight_below f key) e es,
            sum_by-cons (weight_below f key) e (prefix_of m (r - item_size e) es).items,
            below_prefix_sum f key es m (r - item_size e) (second _ _ s) not_past,
          )
      | false ↦ λ not_past. at_cut f key e es s not_past
    ] h

-- all items of the list are below the key
pub below_whole : (f : KeyValue → ℕ) (key : List ℕ) (es : List KeyValue)
    → ((k v : List ℕ) → find order k es ≡ Some v → order k key ≡ Less)
    → T (is_sorted order es) → sum_by (weight_below f key) es ≡ sum_by f es
below_whole f key [] h s = refl
below_whole f key (e ∷ es) h s =
    let own : find order e.0 (e ∷ es) ≡ Some e.1 =
    ap (λ r. cond (is_eq r) (Some e.1) (find order e.0 es)) (tied_itself total e.0) in
    let here : weight_below f key e ≡ f e = ap (λ r. cond (is_lt r) (f e) 0) (h e.0 e.1 own) in
    let rest : (k v : List ℕ) → find order k es ≡ Some v → order k key ≡ Less =
    λ k v is. h k v (later_found k v e es s is) in
    omega (
      arith,
      here,
      sum_by-cons (weight_below f key) e es,
      sum_by-cons f e es,
      below_whole f key es rest (second _ _ s),
    )

pub below_le : (f : KeyValue → ℕ) (key : List ℕ) (es : List KeyValue)
    → sum_by (weight_below f key) es ≤ sum_by f es
below_le f key [] = omega arith
below_le f key (e ∷ es) =
    let here : weight_below f key e ≤ f e =
    elim (is_lt (order e.0 key)) as
    (λ b. cond b (f e) 0 ≤ f e) [ true ↦ omega arith | false ↦ omega arith ] in
    omega (
      arith,
      here,
      sum_by-cons (weight_below f key) e es,
      sum_by-cons f e es,
      below_le f key es,
    )

-- a item that does not fit alone
pub cut_first : (e : KeyValue) (es : List KeyValue) (n r : ℕ) → (1 ≤ n → item_size e ≤ r → ⊥)
    → prefix_of n r (e ∷ es) ≡ cut_at e.0
cut_first e es zero r large = refl
cut_first e es (suc m) r large =
    elim (nat_le (item_size e) r) as
    (λ b. nat_le (item_size e) r ≡ b
    → cond b (led_by e (prefix_of m (r - item_size e) es)) (cut_at e.0) ≡ cut_at e.0) [
      | true ↦ λ fits.
          let small : item_size e ≤ r = grind (arith, nat_tests) in
          absurd (large (omega arith) small)
      | false ↦ λ wide. refl
    ] refl

pub cut_after : (key value : List ℕ) (e : KeyValue) (es : List KeyValue) (n r : ℕ)
    → order key e.0 ≡ Greater
    → T (is_sorted order (e ∷ es))
    → find order key es ≡ None → sum_by (weight_below (λ item. 1) key) (e ∷ es) ≤ n
    → sum_by (weight_below item_size key) (e ∷ es) ≤ r
    → (sum_by (weight_below (λ item. 1) key) (e ∷ es) + 1 ≤ n
    → sum_by (weight_below item_size key) (e ∷ es) + item_size (key, value) ≤ r → ⊥)
    → ((m : ℕ) → sum_by (weight_below (λ item. 1) key) es ≤ m
    → sum_by (weight_below item_size key) es ≤ r - item_size e
    → (sum_by (weight_below (λ item. 1) key) es + 1 ≤ m
    → sum_by (weight_below item_size key) es + item_size (key, value) ≤ r - item_size e → ⊥)
    → prefix_of m (r - item_size e) (put order key value es)
    ≡ prefix (below key es) (Some key))
    → prefix_of n r (e ∷ put order key value es)
    ≡ prefix (below key (e ∷ es)) (Some key)
cut_after key value e es zero r after s none few small large rest =
    let one : weight_below (λ item. 1) key e
    ≡ 1 = ap (λ o. cond (is_lt o) 1 0) (turned_back key e.0 after) in
    absurd (omega (arith, one, sum_by-cons (weight_below (λ item. 1) key) e es))
cut_after key value e es (suc m) r after s none few small large rest =
    let one : weight_below (λ item. 1) key e
    ≡ 1 = ap (λ o. cond (is_lt o) 1 0) (turned_back key e.0 after) in
    let own : weight_below item_size key e
    ≡ item_size e = ap (λ o. cond (is_lt o) (item_size e) 0) (turned_back key e.0 after) in
    let ones = sum_by-cons (weight_below (λ item. 1) key) e es in
    let sizes = sum_by-cons (weight_below item_size key) e es in
    let le : item_size e ≤ r = omega (arith, own, sizes) in
    let fits : nat_le (item_size e) r ≡ true = grind (arith, nat_tests) in
    ap (λ b. cond b (led_by e (prefix_of m (r - item_size e) (put order key value es)))
    (cut_at e.0)) fits
    ∙ ap (led_by e)
    (rest m (omega (arith, one, ones)) (omega (arith, own, sizes))
    (λ a b. large (omega (arith, one, ones)) (omega (arith, own, sizes))))
    ∙ ap (λ o. prefix (cond (is_lt o) (e ∷ below key es)
    (below key es)) (Some key)) {x = Less} {y = order e.0 key} (sym (turned_back key e.0 after))

-- the items below the key, when it joins and does not fit behind them
pub cut_below : (key value : List ℕ) (es : List KeyValue) (n r : ℕ) → T (is_sorted order es)
    → find order key es ≡ None → sum_by (weight_below (λ item. 1) key) es ≤ n
    → sum_by (weight_below item_size key) es ≤ r
    → (sum_by (weight_below (λ item. 1) key) es + 1 ≤ n
    → sum_by (weight_below item_size key) es + item_size (key, value) ≤ r → ⊥)
    → prefix_of n r (put order key value es)
    ≡ prefix (below key es) (Some key)
cut_below key value [] n r s none few small large =
    cut_first (key, value) [] n r (λ a b. large (omega arith) (omega arith))
cut_below key value (e ∷ es) n r s none few small large =
    elim (order key e.0) as
    (λ o. order key e.0 ≡ o → cond (is_eq o) (Some e.1) (find order key es) ≡ None
    → prefix_of n r (by_order o ((key, value) ∷ e ∷ es) ((e.0, value) ∷ es)
    (e ∷ put order key value es))
    ≡ prefix (below key (e ∷ es)) (Some key)) [
      | Less ↦ λ before no.
          let above = ap is_lt (turned key e.0 before) in
          let ones = at_cut (λ item. 1) key e es s above in
          let sizes = at_cut item_size key e es s above in
          let all_above : T (below_all order key (e ∷ es)) =
          both _ _ (subst (λ r. T (is_lt r)) (sym before) tt)
          (below_less key e.0 es before (first _ _ s)) in
          cut_first (key, value) (e ∷ es) n r
          (λ a b. large (omega (arith, ones)) (omega (arith, sizes)))
          ∙ ap (λ items. prefix items (Some key))
          (sym (where_none key key (e ∷ es) (ap is_lt (tied_itself total key)) all_above))
      | Equal ↦ λ tied no. cc
      | Greater ↦ λ after no.
          cut_after key value e es n r after s no few small large
          (λ m a b c. cut_below key value es m (r - item_size e) (second _ _ s) no a b c)
    ] refl none

-- items above the cut change no prefix
pub past_all : (n r : ℕ) (key : List ℕ) (bag : Bag) (es : List KeyValue) → AreNew bag es
    → T (below_all order key es)
    → ((k : List ℕ) → order key k ≡ Less → is_past (prefix_of n r (entries bag)).cut k ≡ true)
    → prefix_of n r (entries (with_all bag es)) ≡ prefix_of n r (entries bag)
past_all n r key bag [] h b past = refl
past_all n r key bag (e ∷ es) h b past =
    let none = sym (get-entries bag e.0) ∙ new_first bag e es h in
    let same : prefix_of n r (entries (insert bag e.0 e.1)) ≡ prefix_of n r (entries bag) =
    ap (prefix_of n r) (entries-insert total bag e.0 e.1)
    ∙ prefix_put e.0 e.1 (entries bag) n r (entries_sorted bag) none
    ∙ ap (λ t. cond t (prefix_of n r (entries bag))
    (trim n r (prefix (put order e.0 e.1 (prefix_of n r (entries bag)).items)
    (prefix_of n r (entries bag)).cut)))
    (past e.0 (less _ (first _ _ b))) in
    past_all n r key (insert bag e.0 e.1) es (new_rest bag e es h) (second _ _ b)
    (λ k up. ap (λ p. is_past p.cut k) same ∙ past k up)
    ∙ same

pub past_more : (o : Option (List ℕ)) (key k : List ℕ) → is_past o key ≡ true → order key k ≡ Less
    → is_past o k ≡ true
past_more None key k h up = h
past_more (Some cut) key k h up = ap is_lt (total.trans cut key k (lt_is _ h) up)

pub closed_past : (key : List ℕ) (old : Prefix) (k : List ℕ) → order key k ≡ Less
    → is_past (close (Some key) old).cut k ≡ true
closed_past key old k up =
    elim (is_past old.cut key) as
    (λ b. is_past old.cut key ≡ b
    → is_past (cond b old (prefix (below key old.items) (Some key))).cut k ≡ true) [
      | true ↦ λ is. past_more old.cut key k is up
      | false ↦ λ is. ap is_lt up
    ] refl

-- the item of the cut closes the prefix
pub take_cut : (n r : ℕ) (key value : List ℕ) (es items : List KeyValue) → T (is_sorted order es)
    → find order key es ≡ None
    → (is_past (prefix_of n r es).cut key ≡ false
    → sum_by (λ (item : KeyValue). 1) items ≤ sum_by (weight_below (λ (item : KeyValue). 1) key)
    (prefix_of n r es).items)
    → (is_past (prefix_of n r es).cut key ≡ false
    → sum_by item_size items ≤ sum_by (weight_below item_size key) (prefix_of n r es).items)
    → (sum_by (λ (item : KeyValue). 1) items + 1 ≤ n
    → sum_by item_size items + item_size (key, value) ≤ r → ⊥)
    → take_in n r key value (prefix_of n r es) ≡ close (Some key) (prefix_of n r es)
take_cut n r key value es items s none ones sizes large =
    let old : Prefix = prefix_of n r es in
    elim (is_past old.cut key) as
    (λ b. is_past old.cut key ≡ b
    → cond b old (trim n r (prefix (put order key value old.items) old.cut))
    ≡ cond b old (prefix (below key old.items) (Some key))) [
      | true ↦ λ is. refl
      | false ↦ λ is.
          let more = ones is in
          let wider = sizes is in
          ap (λ t. shorter t.cut (prefix (put order key value old.items) old.cut) t)
          (cut_below key value old.items n r (prefix_sorted es n r s) (find_prefix key es n r none)
          (omega (arith, below_le (λ (item : KeyValue). 1) key old.items, prefix_few es n r))
          (omega (arith, below_le item_size key old.items, prefix_small es n r))
          (λ a b. large (omega arith) (omega arith)))
    ] refl

pub union_cut : (n r : ℕ) (bag : Bag) (es items : List KeyValue) (key : List ℕ)
    → (split : Splits n r es items key) → AreNew bag es
    → prefix_of n r (entries (with_all bag es))
    ≡ close (Some key) (accept_all n r items (prefix_of n r (entries bag)))
union_cut n r bag es items key split new =
    let value : List ℕ = split.value in
    let tail : List KeyValue = split.tail in
    let all_new : AreNew bag (items ++ (key, value) ∷ tail) = subst (AreNew bag) split.parts new in
    let front = new_front bag items ((key, value) ∷ tail) all_new in
    let back = new_back bag items ((key, value) ∷ tail) all_new in
    let mid : Bag = with_all bag items in
    let old : Prefix = prefix_of n r (entries mid) in
    let absent = new_first mid (key, value) tail back in
    let none = sym (get-entries mid key) ∙ absent in
    let lower = front_below items (key, value) tail all_new.rising in
    let counts : (f : KeyValue → ℕ) → is_past old.cut key ≡ false
    → sum_by f items ≤ sum_by (weight_below f key) old.items =
    λ f not_past.
    omega (
      arith,
      below_whole f key items lower front.rising,
      sum_with_all (weight_below f key) bag items front,
      below_prefix_sum f key (entries mid) n r (entries_sorted mid) not_past,
    ) in
    let closed : prefix_of n r (entries (insert mid key value)) ≡ close (Some key) old =
    ap (prefix_of n r) (entries-insert total mid key value)
    ∙ prefix_put key value (entries mid) n r (entries_sorted mid) none
    ∙ take_cut n r key value (entries mid) items (entries_sorted mid) none (counts (λ item. 1))
    (counts item_size) split.large in
    let past : (k : List ℕ) → order key k ≡ Less
    → is_past (prefix_of n r (entries (insert mid key value))).cut k ≡ true =
    λ k up. ap (λ p. is_past p.cut k) closed ∙ closed_past key old k up in
    ap (λ l. prefix_of n r (entries (with_all bag l))) split.parts
    ∙ ap (λ b. prefix_of n r (entries b)) (with_all-append bag items ((key, value) ∷ tail))
    ∙ past_all n r key (insert mid key value) tail (new_rest mid (key, value) tail back)
    (back_above items (key, value) tail all_new.rising) past
    ∙ closed
    ∙ ap (close (Some key)) (prefix_with_all n r bag items front)

-- the longest prefix of a union
pub prefix_union : (n r : ℕ) (bag more : Bag) → AreApart bag more
    → prefix_of n r (entries (with_all bag (entries more)))
    ≡ close (prefix_of n r (entries more)).cut
    (accept_all n r (prefix_of n r (entries more)).items (prefix_of n r (entries bag)))
prefix_union n r bag more apart =
    let es : List KeyValue = entries more in
    let part : Prefix = prefix_of n r es in
    let new = more_are_new bag more apart in
    elim part.cut as
    (λ o. part.cut ≡ o → prefix_of n r (entries (with_all bag es))
    ≡ close o (accept_all n r part.items (prefix_of n r (entries bag)))) [
      | None ↦ λ is.
          ap (λ l. prefix_of n r (entries (with_all bag l))) (sym (no_cut es n r is))
          ∙ prefix_with_all n r bag part.items
          (subst (AreNew bag) (sym (no_cut es n r is)) new)
      | Some key ↦ λ is.
          let split = cut_splits es n r key is in
          union_cut n r bag es part.items key split new
    ] refl
