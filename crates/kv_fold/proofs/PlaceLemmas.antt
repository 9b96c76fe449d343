-- Where an item goes in a list whose keys rise, and the room that is made for it.
use Rattle.std.proofs.Common.{
  ◌≡◌,
  ℕ,
  zero,
  suc,
  ◌+◌,
  ◌<◌,
  ◌≤◌,
  T,
  Bool,
  true,
  false,
  cond,
  List,
  [],
}
use Rattle.std.proofs.Common.{◌∷◌, ◌++◌, length, get_or, take, Option, None, Some, is_some}
use Rattle.std.proofs.Common.{Ordering, Less, Equal, Greater, refl, sym, ap, ◌∙◌, subst, arith}
use Rattle.std.proofs.Common.{length-append, ◌-◌, All}
use Rattle.std.specs.List.{insert, sum_by}
use Rattle.std.specs.Ordering.{is_lt, is_eq, ordering_reverse, ordering_index}
use Rattle.std.specs.List.Sorted.{IsNonDecreasingBy, IsPartitionedBy, IsSearchInRange}
use Rattle.std.specs.List.Sorted.{IsBinarySearchResult}
use Rattle.std.specs.Result.{result_err}
use Rattle.std.proofs.Common.{Result, Ok, Err}
use Rattle.std.proofs.lemmas.List.Sorted.{searchable_from_sorted}
use Rattle.std.proofs.lemmas.List.Sums.{sum_by-cons, sum_by-append}
use Rattle.std.specs.FinMap.{find, is_sorted}
use Rattle.std.specs.FinMap.Entries.{put, by_order, below_all, is_sorted-put}
use Rattle.std.proofs.lemmas.Cmp.{nat_list_cmp_total as total}
use Rattle.kv_model.specs.Fold.{KeyValue, item_size, most_bytes}
use Rattle.kv_fold.specs.Bags.{order, IsItem}
use Rattle.kv_fold.specs.States.{Prefix, prefix}
use Rattle.kv_fold.specs.Prefixes.{below, trim, is_past, take_in, accept}
use Rattle.kv_fold.specs.Places.{IsGap, IsGapOrFound, HasPlace, MakesRoom, placed}
use Rattle.kv_fold.specs.Firsts.{AreFirst}
use Rattle.kv_fold.proofs.OrderLemmas.{first, second, less, turned, turned_back, below_less, both}
use Rattle.kv_fold.proofs.OrderLemmas.{find_below, yes, is_yes, sorted_front, All-front}
use Rattle.kv_fold.proofs.PrefixLemmas.{trim_pop, trim_fits}

below_get : (x : List ℕ) (es : List KeyValue) (i : ℕ) (d : KeyValue) → T (below_all order x es)
    → i < length es → order x (get_or es i d).0 ≡ Less
below_get x [] i d h lt = absurd (omega arith)
below_get x (e ∷ es) zero d h lt = less _ (first _ _ h)
below_get x (e ∷ es) (suc i) d h lt = below_get x es i d (second _ _ h) (omega arith)

adjacent : (es : List KeyValue) (i j : ℕ) (d : KeyValue) → T (is_sorted order es) → j ≡ suc i
    → j < length es → is_lt (order (get_or es j d).0 (get_or es i d).0) ≡ false
adjacent [] i j d s is lt = absurd (omega arith)
adjacent (e ∷ es) i zero d s is lt = absurd (omega arith)
adjacent (e ∷ es) zero (suc j) d s is lt =
    ap is_lt (turned e.0 (get_or es j d).0 (below_get e.0 es j d (first _ _ s) (omega arith)))
adjacent (e ∷ es) (suc i) (suc j) d s is lt =
    adjacent es i j d (second _ _ s) (omega arith) (omega arith)

-- the comparisons with a key rise along rising keys, as a binary search asks
pub comparisons_rise : (key : List ℕ) (es : List KeyValue) → T (is_sorted order es)
    → IsNonDecreasingBy (λ e. ordering_index (order e.0 key)) es
comparisons_rise key es s =
    searchable_from_sorted total (λ e. e.0) es key
    (λ i d _ lt. adjacent es i (i + 1) d s (omega arith) lt)

-- a key that ties with the one at a place is there
pub found_at : (key : List ℕ) (es : List KeyValue) (i : ℕ) → i < length es
    → ((d : KeyValue) → order (get_or es i d).0 key ≡ Equal) → is_some (find order key es) ≡ true
found_at key [] i lt h = absurd (omega arith)
found_at key (e ∷ es) zero lt h =
    ap (λ r. is_some (cond (is_eq r) (Some e.1) (find order key es)))
    (total.antisymm key e.0 ∙ ap ordering_reverse (h e))
found_at key (e ∷ es) (suc i) lt h =
    elim (order key e.0) as (λ r. is_some (cond (is_eq r) (Some e.1) (find order key es)) ≡ true) [
      | Less ↦ found_at key es i (omega arith) h
      | Equal ↦ refl
      | Greater ↦ found_at key es i (omega arith) h
    ]

-- between the keys that are less and those that are greater is the gap
pub gap_from : (key : List ℕ) (es : List KeyValue) (i : ℕ) → i ≤ length es
    → ((k : ℕ) (d : KeyValue) → k < i → order (get_or es k d).0 key ≡ Less)
    → ((k : ℕ) (d : KeyValue) → i ≤ k → k < length es → order (get_or es k d).0 key ≡ Greater)
    → IsGap key es i
gap_from key [] i le low high = omega arith
gap_from key (e ∷ es) zero le low high = turned_back e.0 key (high 0 e (omega arith) (omega arith))
gap_from key (e ∷ es) (suc i) le low high = (
  turned e.0 key (low 0 e (omega arith)),
  gap_from key es i (omega arith) (λ k d lt. low (suc k) d (omega arith))
      (λ k d ge lt. high (suc k) d (omega arith) (omega arith)),
)

-- at a gap the key isn't there
pub find_gap : (key : List ℕ) (es : List KeyValue) (i : ℕ) → T (is_sorted order es)
    → IsGap key es i → find order key es ≡ None
find_gap key [] i s h = refl
find_gap key (e ∷ es) zero s h =
    find_below key (e ∷ es)
    (both _ _ (subst (λ r. T (is_lt r)) (sym h) tt) (below_less key e.0 es h (first _ _ s)))
find_gap key (e ∷ es) (suc i) s h =
    ap (λ r. cond (is_eq r) (Some e.1) (find order key es)) h.0
    ∙ find_gap key es i (second _ _ s) h.1

-- an item goes to the gap of its key
pub put_gap : (key value : List ℕ) (es : List KeyValue) (i : ℕ) → IsGap key es i
    → put order key value es ≡ insert es i (key, value)
put_gap key value [] i h = rw h refl
put_gap key value (e ∷ es) zero h =
    ap (λ r. by_order r ((key, value) ∷ e ∷ es) ((e.0, value) ∷ es) (e ∷ put order key value es)) h
put_gap key value (e ∷ es) (suc i) h =
    ap (λ r. by_order r ((key, value) ∷ e ∷ es) ((e.0, value) ∷ es) (e ∷ put order key value es))
    h.0
    ∙ ap (λ l. e ∷ l) (put_gap key value es i h.1)

-- without the last item, which is behind the gap, the gap stays
pub gap_pop : (key : List ℕ) (es : List KeyValue) (z : KeyValue) (i : ℕ)
    → IsGap key (es ++ z ∷ []) i → i ≤ length es → IsGap key es i
gap_pop key [] z zero h le = refl
gap_pop key [] z (suc i) h le = absurd (omega arith)
gap_pop key (e ∷ es) z zero h le = h
gap_pop key (e ∷ es) z (suc i) h le = (h.0, gap_pop key es z i h.1 (omega arith))

insert_before : (es : List KeyValue) (z item : KeyValue) (i : ℕ) → i ≤ length es
    → insert (es ++ z ∷ []) i item ≡ insert es i item ++ z ∷ []
insert_before [] z item zero le = refl
insert_before [] z item (suc i) le = absurd (omega arith)
insert_before (e ∷ es) z item zero le = refl
insert_before (e ∷ es) z item (suc i) le = ap (λ l. e ∷ l) (insert_before es z item i (omega arith))

insert_end : (es : List KeyValue) (item : KeyValue) (i : ℕ) → i ≡ length es
    → insert es i item ≡ es ++ item ∷ []
insert_end [] item zero is = refl
insert_end [] item (suc i) is = absurd (omega arith)
insert_end (e ∷ es) item zero is = absurd (omega arith)
insert_end (e ∷ es) item (suc i) is = ap (λ l. e ∷ l) (insert_end es item i (omega arith))

pub insert_length : (es : List KeyValue) (item : KeyValue) (i : ℕ) → i ≤ length es
    → length (insert es i item) ≡ length es + 1
insert_length [] item zero le = refl
insert_length [] item (suc i) le = absurd (omega arith)
insert_length (e ∷ es) item zero le = omega arith
insert_length (e ∷ es) item (suc i) le = omega (arith, insert_length es item i (omega arith))

pub insert_sum : (es : List KeyValue) (item : KeyValue) (i : ℕ) → i ≤ length es
    → sum_by item_size (insert es i item) ≡ sum_by item_size es + item_size item
insert_sum [] item zero le = omega (arith, sum_by-cons item_size item [])
insert_sum [] item (suc i) le = absurd (omega arith)
insert_sum (e ∷ es) item zero le = omega (arith, sum_by-cons item_size item (e ∷ es))
insert_sum (e ∷ es) item (suc i) le =
    omega (
      arith,
      insert_sum es item i (omega arith),
      sum_by-cons item_size e es,
      sum_by-cons item_size e (insert es i item),
    )

-- a last item behind the gap, for which there is no room, leaves without a change
pub room_pop : (key value : List ℕ) (es : List KeyValue) (z : KeyValue) (i : ℕ)
    (cut : Option (List ℕ)) (most : ℕ) → IsGap key (es ++ z ∷ []) i → i ≤ length es
    → (length es + 2 ≤ most
    → sum_by item_size es + item_size z + item_size (key, value) ≤ most_bytes → ⊥)
    → trim most most_bytes (prefix (put order key value (es ++ z ∷ [])) cut)
    ≡ trim most most_bytes (prefix (put order key value es) (Some z.0))
room_pop key value es z i cut most gap le large =
    let rest = put_gap key value es i (gap_pop key es z i gap le) in
    let whole = put_gap key value (es ++ z ∷ []) i gap
    ∙ insert_before es z (key, value) i le
    ∙ ap (λ l. l ++ z ∷ []) (sym rest) in
    let len = ap length rest ∙ insert_length es (key, value) i le in
    let bytes = ap (sum_by item_size) rest ∙ insert_sum es (key, value) i le in
    ap (λ l. trim most most_bytes (prefix l cut)) whole
    ∙ trim_pop (put order key value es) z cut most most_bytes
    (λ few small. large (omega (arith, len)) (omega (arith, bytes)))

-- an item behind all others for which there is no room is cut
pub room_none : (key value : List ℕ) (es : List KeyValue) (i : ℕ) (cut : Option (List ℕ))
    (most : ℕ) → IsGap key es i → i ≡ length es → length es ≤ most
    → sum_by item_size es ≤ most_bytes
    → (length es + 1 ≤ most → sum_by item_size es + item_size (key, value) ≤ most_bytes → ⊥)
    → trim most most_bytes (prefix (put order key value es) cut) ≡ prefix es (Some key)
room_none key value es i cut most gap is few small large =
    ap (λ l. trim most most_bytes (prefix l cut))
    (put_gap key value es i gap ∙ insert_end es (key, value) i is)
    ∙ trim_pop es (key, value) cut most most_bytes large
    ∙ trim_fits es (Some key) most most_bytes few small

-- an item for which there is room goes to its gap
pub room_fits : (key value : List ℕ) (es : List KeyValue) (i : ℕ) (cut : Option (List ℕ))
    (most : ℕ) → IsGap key es i → i ≤ length es → length es + 1 ≤ most
    → sum_by item_size es + item_size (key, value) ≤ most_bytes
    → trim most most_bytes (prefix (put order key value es) cut)
    ≡ prefix (insert es i (key, value)) cut
room_fits key value es i cut most gap le few small =
    ap (λ l. trim most most_bytes (prefix l cut)) (put_gap key value es i gap)
    ∙ trim_fits (insert es i (key, value)) cut most most_bytes
    (omega (arith, insert_length es (key, value) i le))
    (omega (arith, insert_sum es (key, value) i le))

-- where a test holds before a place and not from there on, the items that pass it are those before
pub below_is_take : (key : List ℕ) (es : List KeyValue) (i : ℕ) → i ≤ length es
    → ((k : ℕ) (d : KeyValue) → k < i → is_lt (order (get_or es k d).0 key) ≡ true)
    → ((k : ℕ) (d : KeyValue) → i ≤ k → k < length es
    → is_lt (order (get_or es k d).0 key) ≡ false)
    → take i es ≡ below key es
below_is_take key [] zero le low high = refl
below_is_take key [] (suc i) le low high = absurd (omega arith)
below_is_take key (e ∷ es) zero le low high =
    below_is_take key es zero (omega arith) (λ k d lt. absurd (omega arith))
    (λ k d ge lt. high (suc k) d (omega arith) (omega arith))
    ∙ sym (ap (λ b. cond b (e ∷ below key es) (below key es))
    (high 0 e (omega arith) (omega arith)))
below_is_take key (e ∷ es) (suc i) le low high =
    ap (λ l. e ∷ l)
    (below_is_take key es i (omega arith) (λ k d lt. low (suc k) d (omega arith))
    (λ k d ge lt. high (suc k) d (omega arith) (omega arith)))
    ∙ sym (ap (λ b. cond b (e ∷ below key es) (below key es)) (low 0 e (omega arith)))

less_index : (r s : Ordering) → ordering_index r ≤ ordering_index s → is_lt s ≡ true
    → is_lt r ≡ true
less_index Less s le h = refl
less_index Equal Less le h = absurd (omega arith)
less_index Equal Equal le h = h
less_index Equal Greater le h = h
less_index Greater Less le h = absurd (omega arith)
less_index Greater Equal le h = h
less_index Greater Greater le h = h

-- the items below a key stand before the others
pub below_first : (key : List ℕ) (es : List KeyValue) → T (is_sorted order es)
    → IsPartitionedBy (λ e. is_lt (order e.0 key)) es
below_first key es s i j d le lt h = less_index _ _ (comparisons_rise key es s i j d le lt) h

-- a binary search ends at the key, or at its gap
pub searched : (key : List ℕ) (es : List KeyValue) (r : Result ℕ ℕ) → T (is_sorted order es)
    → IsSearchInRange r (length es) → IsBinarySearchResult (λ e. order e.0 key) es r
    → IsGapOrFound key es (result_err r)
searched key es (Ok i) s range h = found_at key es i range h
searched key es (Err i) s range h =
    let parts = h (comparisons_rise key es s) in
    gap_from key es i range (λ k d lt. parts.0 k d (omega arith) lt)
    (λ k d ge lt. parts.1 k d ge lt)

-- a list of first items without the last
pub first_pop : (most bytes left : ℕ) (old es : List KeyValue) (z : KeyValue)
    → old ≡ es ++ z ∷ [] → left ≡ bytes - item_size z → AreFirst most bytes old
    → AreFirst most left es
first_pop most bytes left old es z is rest h =
    let len = ap length is ∙ length-append es (z ∷ []) in
    let sizes = ap (sum_by item_size) is ∙ sum_by-append item_size es (z ∷ []) in
    let last = sum_by-cons item_size z [] in
    record {
      rising =
          is_yes _ (sorted_front es (z ∷ [])
          (subst (λ l. T (is_sorted order l)) is (yes _ h.rising)));
      each =
          All-front (λ (item : KeyValue). IsItem item.0 item.1) es (z ∷ [])
          (subst (λ l. All (λ (item : KeyValue). IsItem item.0 item.1) l) is h.each);
      counted = omega (arith, sizes, last, h.counted, rest);
      few = omega (arith, len, h.few);
      small = omega (arith, h.small, rest);
    }

insert_all : (P : KeyValue → Type 0) (es : List KeyValue) (item : KeyValue) (i : ℕ)
    → i ≤ length es → All P es → P item → All P (insert es i item)
insert_all P [] item zero le all here zero d lt = here
insert_all P [] item zero le all here (suc k) d lt = absurd (omega arith)
insert_all P [] item (suc i) le all here k d lt = absurd (omega arith)
insert_all P (e ∷ es) item zero le all here zero d lt = here
insert_all P (e ∷ es) item zero le all here (suc k) d lt = all k d (omega arith)
insert_all P (e ∷ es) item (suc i) le all here zero d lt = all 0 d (omega arith)
insert_all P (e ∷ es) item (suc i) le all here (suc k) d lt =
    insert_all P es item i (omega arith) (λ j x less. all (suc j) x (omega arith)) here k d
    (omega arith)

-- a list of first items with one more at its place
pub first_insert : (most bytes more : ℕ) (es : List KeyValue) (key value : List ℕ) (i : ℕ)
    → IsItem key value → HasPlace most i (item_size (key, value)) key es
    → more ≡ bytes + item_size (key, value) → AreFirst most bytes es
    → AreFirst most more (insert es i (key, value))
first_insert most bytes more es key value i item has sum h = record {
  rising =
      is_yes _ (subst (λ l. T (is_sorted order l)) (put_gap key value es i has.gap)
      (is_sorted-put order total key value es (yes _ h.rising)));
  each = insert_all (λ (item : KeyValue). IsItem item.0 item.1) es
      (key, value) i has.bound h.each item;
  counted = omega (arith, insert_sum es (key, value) i has.bound, sum, h.counted);
  few = omega (arith, insert_length es (key, value) i has.bound, has.few);
  small = omega (arith, has.small, sum, h.counted);
}

pub gap_le : (key : List ℕ) (es : List KeyValue) (i : ℕ) → IsGap key es i → i ≤ length es
gap_le key [] i h = omega arith
gap_le key (e ∷ es) zero h = omega arith
gap_le key (e ∷ es) (suc i) h = omega (arith, gap_le key es i h.1)

-- an item whose place was made is taken in, in the place or as the cut
pub place_made : (most place size : ℕ) (key : List ℕ) (old new : Prefix) (fits : Bool)
    → T (is_sorted order old.items) → is_past old.cut key ≡ false → IsGap key old.items place
    → MakesRoom most place size old new fits → (value : List ℕ) → item_size (key, value) ≡ size
    → placed fits place key value new ≡ accept most most_bytes key value old
place_made most place size key old new fits s within gap room value is =
    sym (room key value is gap)
    ∙ ap (λ b. cond b old (trim most most_bytes (prefix (put order key value old.items) old.cut)))
    (sym within)
    ∙ ap (λ (o : Option (List ℕ)). cond (is_some o) old (take_in most most_bytes key value old))
    (sym (find_gap key old.items place s gap))
