-- The longest prefix of a list whose keys rise, with one more item and without the last.
use Rattle.std.proofs.Common.{◌≡◌, ℕ, zero, suc, ◌+◌, ◌-◌, ◌≤◌, T, true, false, cond}
use Rattle.std.proofs.Common.{List, [], ◌∷◌, ◌++◌, Option, None, Some, Less, Equal, Greater}
use Rattle.std.proofs.Common.{refl, sym, ap, ◌∙◌, subst, arith, length, nat_le}
use Rattle.std.proofs.lemmas.Bool.Decides.{nat_tests}
use Rattle.std.specs.Ordering.{is_lt, is_eq, eq_by_cmp}
use Rattle.std.specs.List.{sum_by}
use Rattle.std.specs.FinMap.{find, is_sorted}
use Rattle.std.specs.FinMap.Entries.{put, by_order, below_all}
use Rattle.std.proofs.lemmas.List.Sums.{sum_by-cons}
use Rattle.kv_model.specs.Fold.{KeyValue, item_size, longest_prefix}
use Rattle.kv_fold.specs.Bags.{order}
use Rattle.kv_fold.specs.States.{Prefix, prefix_of, nothing, cut_at, led_by}
use Rattle.kv_fold.specs.Prefixes.{shorter, trim, is_past, take_in}
use Rattle.kv_fold.proofs.OrderLemmas.{both, first, second, less, turned, turned_back, below_less}
use Rattle.kv_fold.proofs.OrderLemmas.{none_some}

pub shorter_led : (e : KeyValue) (o : Option (List ℕ)) (old new : Prefix)
    → shorter o (led_by e old) (led_by e new) ≡ led_by e (shorter o old new)
shorter_led e None old new = refl
shorter_led e (Some key) old new = refl

pub le_test : (a b c : ℕ) → b ≤ c → nat_le a b ≡ true → nat_le a c ≡ false → ⊥
le_test a b c h x y = grind (arith, nat_tests)

-- a shorter prefix is one of the longer
pub trim_prefix : (es : List KeyValue) (m n r s : ℕ) → m ≤ n → r ≤ s
    → prefix_of m r es ≡ trim m r (prefix_of n s es)
trim_prefix [] m n r s h g = refl
trim_prefix (e ∷ es) zero zero r s h g = refl
trim_prefix (e ∷ es) zero (suc n) r s h g =
    elim (nat_le (item_size e) s) as
    (λ b. cut_at e.0 ≡ trim zero r
    (cond b (led_by e (prefix_of n (s - item_size e) es)) (cut_at e.0))) [
      | true ↦ refl
      | false ↦ refl
    ]
trim_prefix (e ∷ es) (suc m) zero r s h g = absurd (omega arith)
trim_prefix (e ∷ es) (suc m) (suc n) r s h g =
    elim (nat_le (item_size e) s) as
    (λ b. nat_le (item_size e) s ≡ b → prefix_of (suc m) r (e ∷ es)
    ≡ trim (suc m) r (cond b (led_by e (prefix_of n (s - item_size e) es)) (cut_at e.0))) [
      | true ↦ λ wide.
          let rest = trim_prefix es m n (r - item_size e) (s - item_size e) (omega arith)
          (omega arith) in
          let long : Prefix = prefix_of n (s - item_size e) es in
          elim (nat_le (item_size e) r) as
          (λ b. cond b (led_by e (prefix_of m (r - item_size e) es)) (cut_at e.0)
          ≡ shorter (cond b (led_by e (prefix_of m (r - item_size e) long.items)) (cut_at e.0)).cut
          (led_by e long)
          (cond b (led_by e (prefix_of m (r - item_size e) long.items)) (cut_at e.0))) [
            | true ↦ ap (led_by e) rest
                ∙ sym (shorter_led e (prefix_of m (r - item_size e) long.items).cut long
                (prefix_of m (r - item_size e) long.items))
            | false ↦ refl
          ]
      | false ↦ λ wide.
          elim (nat_le (item_size e) r) as
          (λ b. nat_le (item_size e) r ≡ b
          → cond b (led_by e (prefix_of m (r - item_size e) es)) (cut_at e.0) ≡ cut_at e.0) [
            | true ↦ λ narrow. absurd (le_test (item_size e) r s g narrow wide)
            | false ↦ λ narrow. refl
          ] refl
    ] refl

pub trim_led : (e : KeyValue) (m r : ℕ) (p : Prefix) → nat_le (item_size e) r ≡ true
    → trim (suc m) r (led_by e p) ≡ led_by e (trim m (r - item_size e) p)
trim_led e m r p fits =
    ap (λ b. shorter (cond b (led_by e (prefix_of m (r - item_size e) p.items)) (cut_at e.0)).cut
    (led_by e p)
    (cond b (led_by e (prefix_of m (r - item_size e) p.items)) (cut_at e.0))) fits
    ∙ shorter_led e (prefix_of m (r - item_size e) p.items).cut p
    (prefix_of m (r - item_size e) p.items)

-- a item before all others
pub prefix_front : (e : KeyValue) (es : List KeyValue) (n r : ℕ)
    → prefix_of n r (e ∷ es) ≡ trim n r (led_by e (prefix_of n r es))
prefix_front e es zero r = refl
prefix_front e es (suc m) r =
    elim (nat_le (item_size e) r) as
    (λ b. nat_le (item_size e) r ≡ b
    → cond b (led_by e (prefix_of m (r - item_size e) es)) (cut_at e.0)
    ≡ trim (suc m) r (led_by e (prefix_of (suc m) r es))) [
      | true ↦ λ fits.
          ap (led_by e) (trim_prefix es m (suc m) (r - item_size e) r (omega arith) (omega arith))
          ∙ sym (trim_led e m r (prefix_of (suc m) r es) fits)
      | false ↦ λ wide.
          ap (λ b. shorter (cond b
          (led_by e (prefix_of m (r - item_size e) (prefix_of (suc m) r es).items))
          (cut_at e.0)).cut
          (led_by e (prefix_of (suc m) r es))
          (cond b (led_by e (prefix_of m (r - item_size e) (prefix_of (suc m) r es).items))
          (cut_at e.0))) {x = false} {y = nat_le (item_size e) r} (sym wide)
    ] refl

-- a key below all is not past the cut
pub past_below : (key : List ℕ) (es : List KeyValue) (n r : ℕ) → T (below_all order key es)
    → is_past (prefix_of n r es).cut key ≡ false
past_below key [] n r h = refl
past_below key (e ∷ es) zero r h = ap is_lt (turned key e.0 (less _ (first _ _ h)))
past_below key (e ∷ es) (suc m) r h =
    elim (nat_le (item_size e) r) as
    (λ b. is_past (cond b (led_by e (prefix_of m (r - item_size e) es)) (cut_at e.0)).cut key
    ≡ false) [
      | true ↦ past_below key es m (r - item_size e) (second _ _ h)
      | false ↦ ap is_lt (turned key e.0 (less _ (first _ _ h)))
    ]

pub below_prefix : (key : List ℕ) (es : List KeyValue) (n r : ℕ) → T (below_all order key es)
    → T (below_all order key (prefix_of n r es).items)
below_prefix key [] n r h = tt
below_prefix key (e ∷ es) zero r h = tt
below_prefix key (e ∷ es) (suc m) r h =
    elim (nat_le (item_size e) r) as
    (λ b. T (below_all order key
    (cond b (led_by e (prefix_of m (r - item_size e) es)) (cut_at e.0)).items)) [
      | true ↦ both _ _ (first _ _ h) (below_prefix key es m (r - item_size e) (second _ _ h))
      | false ↦ tt
    ]

pub put_below : (key value : List ℕ) (es : List KeyValue) → T (below_all order key es)
    → put order key value es ≡ (key, value) ∷ es
put_below key value [] h = refl
put_below key value (e ∷ es) h =
    ap (λ r. by_order r ((key, value) ∷ e ∷ es) ((e.0, value) ∷ es) (e ∷ put order key value es))
    (less _ (first _ _ h))

pub take_in_led : (key value : List ℕ) (e : KeyValue) (m r : ℕ) (p : Prefix)
    → order key e.0 ≡ Greater
    → nat_le (item_size e) r ≡ true
    → led_by e (take_in m (r - item_size e) key value p) ≡ take_in (suc m) r key value (led_by e p)
take_in_led key value e m r p after fits =
    elim (is_past p.cut key) as
    (λ b. led_by e (cond b p
    (trim m (r - item_size e) (record { items = put order key value p.items; cut = p.cut })))
    ≡ cond b (led_by e p)
    (trim (suc m) r (record { items = put order key value (e ∷ p.items); cut = p.cut }))) [
      | true ↦ refl
      | false ↦
          sym (trim_led e m r (record { items = put order key value p.items; cut = p.cut }) fits)
          ∙ ap (λ o. trim (suc m) r (record {
            items = by_order o ((key, value) ∷ e ∷ p.items) ((e.0, value) ∷ p.items)
                (e ∷ put order key value p.items);
            cut = p.cut;
          })) (sym after)
    ]

pub past_cut : (key value : List ℕ) (e : KeyValue) (n r : ℕ) → order key e.0 ≡ Greater
    → cut_at e.0 ≡ take_in n r key value (cut_at e.0)
past_cut key value e n r after =
    ap (λ o. cond (is_lt o) (cut_at e.0)
    (trim n r (record { items = put order key value []; cut = Some e.0 })))
    {x = Less} {y = order e.0 key} (sym (turned_back key e.0 after))

pub prefix_put_after : (key value : List ℕ) (e : KeyValue) (es : List KeyValue) (n r : ℕ)
    → order key e.0 ≡ Greater
    → ((m : ℕ) → prefix_of m (r - item_size e) (put order key value es)
    ≡ take_in m (r - item_size e) key value (prefix_of m (r - item_size e) es))
    → prefix_of n r (e ∷ put order key value es) ≡ take_in n r key value (prefix_of n r (e ∷ es))
prefix_put_after key value e es zero r after rest = past_cut key value e zero r after
prefix_put_after key value e es (suc m) r after rest =
    elim (nat_le (item_size e) r) as
    (λ b. nat_le (item_size e) r ≡ b
    → cond b (led_by e (prefix_of m (r - item_size e) (put order key value es))) (cut_at e.0)
    ≡ take_in (suc m) r key value
    (cond b (led_by e (prefix_of m (r - item_size e) es)) (cut_at e.0))) [
      | true ↦ λ fits.
          ap (led_by e) (rest m)
          ∙ take_in_led key value e m r (prefix_of m (r - item_size e) es) after fits
      | false ↦ λ wide. past_cut key value e (suc m) r after
    ] refl

-- the longest prefix with one more item follows from the longest prefix
pub prefix_put : (key value : List ℕ) (es : List KeyValue) (n r : ℕ) → T (is_sorted order es)
    → find order key es ≡ None
    → prefix_of n r (put order key value es) ≡ take_in n r key value (prefix_of n r es)
prefix_put key value [] n r s none = prefix_front (key, value) [] n r
prefix_put key value (e ∷ es) n r s none =
    elim (order key e.0) as
    (λ o. order key e.0 ≡ o → cond (is_eq o) (Some e.1) (find order key es) ≡ None
    → prefix_of n r (by_order o ((key, value) ∷ e ∷ es) ((e.0, value) ∷ es)
    (e ∷ put order key value es))
    ≡ take_in n r key value (prefix_of n r (e ∷ es))) [
      | Less ↦ λ before no.
          let below : T (below_all order key (e ∷ es)) =
          both _ _ (subst (λ r. T (is_lt r)) (sym before) tt)
          (below_less key e.0 es before (first _ _ s)) in
          let old : Prefix = prefix_of n r (e ∷ es) in
          prefix_front (key, value) (e ∷ es) n r
          ∙ ap (λ items. trim n r (record { items = items; cut = old.cut }))
          (sym (put_below key value old.items (below_prefix key (e ∷ es) n r below)))
          ∙ ap (λ b. cond b old
          (trim n r (record { items = put order key value old.items; cut = old.cut })))
          {x = false} {y = is_past old.cut key} (sym (past_below key (e ∷ es) n r below))
      | Equal ↦ λ tied no. cc
      | Greater ↦ λ after no. prefix_put_after key value e es n r after
          (λ m. prefix_put key value es m (r - item_size e) (second _ _ s) no)
    ] refl none

-- items that fit are all kept
pub prefix_fits : (es : List KeyValue) (n r : ℕ) → length es ≤ n → sum_by item_size es ≤ r
    → prefix_of n r es ≡ record { items = es; cut = None }
prefix_fits [] n r few small = refl
prefix_fits (e ∷ es) zero r few small = absurd (omega arith)
prefix_fits (e ∷ es) (suc m) r few small =
    let whole = sum_by-cons item_size e es in
    let fits : nat_le (item_size e) r ≡ true = grind (arith, nat_tests) in
    ap (λ b. cond b (led_by e (prefix_of m (r - item_size e) es)) (cut_at e.0)) fits
    ∙ ap (led_by e) (prefix_fits es m (r - item_size e) (omega arith) (omega (arith, whole)))

-- items that do not fit lose the last
pub prefix_pop : (es : List KeyValue) (z : KeyValue) (n r : ℕ)
    → (length es + 1 ≤ n → sum_by item_size es + item_size z ≤ r → ⊥)
    → prefix_of n r (es ++ z ∷ [])
    ≡ shorter (prefix_of n r es).cut (record { items = es; cut = Some z.0 }) (prefix_of n r es)
prefix_pop [] z zero r large = refl
prefix_pop [] z (suc m) r large =
    elim (nat_le (item_size z) r) as
    (λ b. nat_le (item_size z) r ≡ b → cond b (led_by z nothing) (cut_at z.0) ≡ cut_at z.0) [
      | true ↦ λ fits.
          let small : item_size z ≤ r = grind (arith, nat_tests) in
          absurd (large (omega arith) (omega arith))
      | false ↦ λ wide. refl
    ] refl
prefix_pop (e ∷ es) z zero r large = refl
prefix_pop (e ∷ es) z (suc m) r large =
    elim (nat_le (item_size e) r) as
    (λ b. nat_le (item_size e) r ≡ b
    → cond b (led_by e (prefix_of m (r - item_size e) (es ++ z ∷ []))) (cut_at e.0)
    ≡ shorter (cond b (led_by e (prefix_of m (r - item_size e) es)) (cut_at e.0)).cut
    (record { items = e ∷ es; cut = Some z.0 })
    (cond b (led_by e (prefix_of m (r - item_size e) es)) (cut_at e.0))) [
      | true ↦ λ fits.
          let small : item_size e ≤ r = grind (arith, nat_tests) in
          let whole = sum_by-cons item_size e es in
          ap (led_by e) (prefix_pop es z m (r - item_size e)
          (λ few light. large (omega arith) (omega (arith, whole))))
          ∙ sym (shorter_led e (prefix_of m (r - item_size e) es).cut
          (record { items = es; cut = Some z.0 }) (prefix_of m (r - item_size e) es))
      | false ↦ λ wide. refl
    ] refl

pub shorter_twice : (o : Option (List ℕ)) (old new : Prefix) (key : List ℕ) (other : Prefix)
    → o ≡ new.cut
    → shorter (shorter o (record { items = old.items; cut = Some key }) new).cut other
    (shorter o (record { items = old.items; cut = Some key }) new)
    ≡ shorter o (record { items = old.items; cut = Some key }) new
shorter_twice None old new key other is = refl
shorter_twice (Some cut) old new key other is = ap (λ o. shorter o other new) (sym is)

-- trimming items that do not fit is trimming without the last
pub trim_pop : (es : List KeyValue) (z : KeyValue) (cut : Option (List ℕ)) (n r : ℕ)
    → (length es + 1 ≤ n → sum_by item_size es + item_size z ≤ r → ⊥)
    → trim n r (record { items = es ++ z ∷ []; cut = cut })
    ≡ trim n r (record { items = es; cut = Some z.0 })
trim_pop es z cut n r large =
    ap (λ t. shorter t.cut (record { items = es ++ z ∷ []; cut = cut }) t)
    (prefix_pop es z n r large)
    ∙ shorter_twice (prefix_of n r es).cut (record { items = es; cut = Some z.0 })
    (prefix_of n r es) z.0
    (record { items = es ++ z ∷ []; cut = cut }) refl

pub trim_fits : (es : List KeyValue) (cut : Option (List ℕ)) (n r : ℕ) → length es ≤ n
    → sum_by item_size es ≤ r
    → trim n r (record { items = es; cut = cut }) ≡ record { items = es; cut = cut }
trim_fits es cut n r few small =
    ap (λ t. shorter t.cut (record { items = es; cut = cut }) t) (prefix_fits es n r few small)

-- a key that the list lacks is not in its prefix
pub find_prefix : (key : List ℕ) (es : List KeyValue) (n r : ℕ) → find order key es ≡ None
    → find order key (prefix_of n r es).items ≡ None
find_prefix key [] n r none = refl
find_prefix key (e ∷ es) zero r none = refl
find_prefix key (e ∷ es) (suc m) r none =
    elim (eq_by_cmp order key e.0) as
    (λ t. eq_by_cmp order key e.0 ≡ t → cond t (Some e.1) (find order key es) ≡ None
    → find order key (prefix_of (suc m) r (e ∷ es)).items ≡ None) [
      | true ↦ λ t no. absurd (none_some e.1 (sym no))
      | false ↦ λ t no.
          elim (nat_le (item_size e) r) as
          (λ b. find order key (cond b (led_by e (prefix_of m (r - item_size e) es))
          (cut_at e.0)).items ≡ None) [
            | true ↦ ap (λ b. cond b (Some e.1)
                (find order key (prefix_of m (r - item_size e) es).items)) t
                ∙ find_prefix key es m (r - item_size e) no
            | false ↦ refl
          ]
    ] refl none

pub prefix_sorted : (es : List KeyValue) (n r : ℕ) → T (is_sorted order es)
    → T (is_sorted order (prefix_of n r es).items)
prefix_sorted [] n r h = tt
prefix_sorted (e ∷ es) zero r h = tt
prefix_sorted (e ∷ es) (suc m) r h =
    elim (nat_le (item_size e) r) as
    (λ b. T (is_sorted order
    (cond b (led_by e (prefix_of m (r - item_size e) es)) (cut_at e.0)).items)) [
      | true ↦ both _ _ (below_prefix e.0 es m (r - item_size e) (first _ _ h))
          (prefix_sorted es m (r - item_size e) (second _ _ h))
      | false ↦ tt
    ]

pub prefix_few : (es : List KeyValue) (n r : ℕ)
    → sum_by (λ (item : KeyValue). 1) (prefix_of n r es).items ≤ n
prefix_few [] n r = omega arith
prefix_few (e ∷ es) zero r = omega arith
prefix_few (e ∷ es) (suc m) r =
    elim (nat_le (item_size e) r) as
    (λ b. sum_by (λ (item : KeyValue). 1)
    (cond b (led_by e (prefix_of m (r - item_size e) es)) (cut_at e.0)).items ≤ suc m) [
      | true ↦ omega (
        arith,
        sum_by-cons (λ (item : KeyValue). 1) e (prefix_of m (r - item_size e) es).items,
        prefix_few es m (r - item_size e),
      )
      | false ↦ omega arith
    ]

pub prefix_small : (es : List KeyValue) (n r : ℕ) → sum_by item_size (prefix_of n r es).items ≤ r
prefix_small [] n r = omega arith
prefix_small (e ∷ es) zero r = omega arith
prefix_small (e ∷ es) (suc m) r =
    elim (nat_le (item_size e) r) as
    (λ b. nat_le (item_size e) r ≡ b
    → sum_by item_size (cond b (led_by e (prefix_of m (r - item_size e) es))
    (cut_at e.0)).items ≤ r) [
      | true ↦ λ fits.
          let le : item_size e ≤ r = grind (arith, nat_tests) in
          omega (
            arith,
            sum_by-cons item_size e (prefix_of m (r - item_size e) es).items,
            prefix_small es m (r - item_size e),
          )
      | false ↦ λ wide. omega arith
    ] refl

-- where a prefix cuts a list, the cut item follows it and does not fit
pub record Splits (n r : ℕ) (es items : List KeyValue) (key : List ℕ) : Type 0 where
  pub value : List ℕ
  pub tail : List KeyValue
  pub parts : es ≡ items ++ (key, value) ∷ tail
  pub large : sum_by (λ (item : KeyValue). 1) items + 1 ≤ n
      → sum_by item_size items + item_size (key, value) ≤ r → ⊥

pub same_Some : {A : Type 0} (x y : A) → Some x ≡ Some y → x ≡ y
same_Some x y e = cc

pub cut_splits : (es : List KeyValue) (n r : ℕ) (key : List ℕ) → (prefix_of n r es).cut ≡ Some key
    → Splits n r es (prefix_of n r es).items key
cut_splits [] n r key is = absurd (none_some key is)
cut_splits (e ∷ es) zero r key is = record {
  value = e.1;
  tail = es;
  parts = ap (λ k. (k, e.1) ∷ es) (same_Some e.0 key is);
  large = λ few small. omega arith;
}
cut_splits (e ∷ es) (suc m) r key is =
    elim (nat_le (item_size e) r) as
    (λ b. nat_le (item_size e) r ≡ b
    → (cond b (led_by e (prefix_of m (r - item_size e) es)) (cut_at e.0)).cut ≡ Some key
    → Splits (suc m) r (e ∷ es)
    (cond b (led_by e (prefix_of m (r - item_size e) es)) (cut_at e.0)).items key) [
      | true ↦ λ fits at.
          let rest = cut_splits es m (r - item_size e) key at in
          let items : List KeyValue = (prefix_of m (r - item_size e) es).items in
          record {
            value = rest.value;
            tail = rest.tail;
            parts = ap (λ l. e ∷ l) rest.parts;
            large =
                λ few small. rest.large
                (omega (arith, sum_by-cons (λ (item : KeyValue). 1) e items))
                (omega (arith, sum_by-cons item_size e items));
          }
      | false ↦ λ wide at.
          let same = same_Some e.0 key at in
          record {
            value = e.1;
            tail = es;
            parts = ap (λ k. (k, e.1) ∷ es) same;
            large =
                λ few small.
                let bytes : item_size e
                ≡ item_size (key, e.1) = ap (λ k. item_size (k, e.1)) same in
                let fits : nat_le (item_size e) r ≡ true = grind (arith, nat_tests) in
                absurd (cc (fits, wide));
          }
    ] refl is

pub no_cut : (es : List KeyValue) (n r : ℕ) → (prefix_of n r es).cut ≡ None
    → (prefix_of n r es).items ≡ es
no_cut [] n r is = refl
no_cut (e ∷ es) zero r is = absurd (none_some e.0 (sym is))
no_cut (e ∷ es) (suc m) r is =
    elim (nat_le (item_size e) r) as
    (λ b. (cond b (led_by e (prefix_of m (r - item_size e) es)) (cut_at e.0)).cut ≡ None
    → (cond b (led_by e (prefix_of m (r - item_size e) es)) (cut_at e.0)).items ≡ e ∷ es) [
      | true ↦ λ at. ap (λ l. e ∷ l) (no_cut es m (r - item_size e) at)
      | false ↦ λ at. absurd (none_some e.0 (sym at))
    ] is

-- the items of a prefix are the longest prefix
pub prefix_items : (es : List KeyValue) (n r : ℕ)
    → (prefix_of n r es).items ≡ longest_prefix n r es
prefix_items [] n r = refl
prefix_items (e ∷ es) zero r = refl
prefix_items (e ∷ es) (suc m) r =
    elim (nat_le (item_size e) r) as
    (λ b. (cond b (led_by e (prefix_of m (r - item_size e) es)) (cut_at e.0)).items
    ≡ cond b (e ∷ longest_prefix m (r - item_size e) es) []) [
      | true ↦ ap (λ l. e ∷ l) (prefix_items es m (r - item_size e))
      | false ↦ refl
    ]
