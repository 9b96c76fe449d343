-- The bytes that folds answer.
use Rattle.std.proofs.Common.{
  ◌≡◌,
  ℕ,
  suc,
  ◌+◌,
  ◌*◌,
  ◌/◌,
  ◌%◌,
  ◌^◌,
  ◌<◌,
  ◌≤◌,
  All,
  Ok,
  Err,
  sum,
  subst,
  List,
  [],
  ◌∷◌,
  ◌++◌,
  Option,
  None,
  Some,
  refl,
  sym,
  ap,
}
use Rattle.std.proofs.Common.{
  ◌∙◌,
  arith,
  length,
  length-append,
  get_or,
  take,
  append-nil as append_nil,
}
use Rattle.std.specs.List.{sum_by, flat_map}
use Rattle.std.specs.Int.{w16, w32, to_le_bytes}
use Rattle.std.proofs.lemmas.List.{flat_map_more, take_more}
use Rattle.std.proofs.lemmas.List.Concat.{flat_map-cons}
use Rattle.std.proofs.lemmas.List.Sums.{sum_by-cons, sum_by-le}
use Rattle.kv_model.specs.Fold.{KeyValue, FoldKind, Counting, AddingLengths, AddingBytes}
use Rattle.kv_model.specs.Fold.{TakingFirst, total_of, item_size, item_bytes, items_bytes}
use Rattle.kv_model.specs.Fold.{most_bytes, result_of}
use Rattle.std.specs.FinMap.{entries}
use Rattle.std.proofs.Common.{Result, IfOk}
use Rattle.std.specs.Int.{w64}
use Rattle.kv_fold.specs.Bags.{Bag}
use Rattle.kv_fold.specs.States.{prefix_of, State, state_of, state_result_by, state_result}
use Rattle.kv_fold.specs.States.{IsResult}
use Rattle.kv_fold.specs.Laws.{ResultsAreFolds, TotalsFit, IsLongest, TakesLongest}
use Rattle.kv_fold.proofs.PrefixLemmas.{prefix_items, prefix_few, prefix_small, no_cut, cut_splits}
use Rattle.kv_fold.proofs.SumLemmas.{ones_length}

pub le_two : (n : ℕ) → length (to_le_bytes w16 n) ≡ 2
le_two n = refl

pub le_four : (n : ℕ) → length (to_le_bytes w32 n) ≡ 4
le_four n = refl

pub item_length : (item : KeyValue) → length (item_bytes item) ≡ item_size item
item_length item =
    let sizes : List ℕ = to_le_bytes w32 (length item.1) in
    omega (
      arith,
      length-append (item.0 ++ sizes) item.1,
      length-append item.0 sizes,
      le_four (length item.1),
    )

pub items_length : (items : List KeyValue)
    → length (flat_map item_bytes items) ≡ sum_by item_size items
items_length [] = refl
items_length (e ∷ es) =
    omega (
      arith,
      ap length (flat_map-cons item_bytes e es),
      length-append (item_bytes e) (flat_map item_bytes es),
      item_length e,
      items_length es,
      sum_by-cons item_size e es,
    )

-- the bytes of a result
pub result_length : (items : List KeyValue)
    → length (items_bytes items) ≡ 2 + sum_by item_size items
result_length items =
    omega (
      arith,
      length-append (to_le_bytes w16 (length items)) (flat_map item_bytes items),
      le_two (length items),
      items_length items,
    )

pub more_items : (h : List ℕ) (xs : List KeyValue) (i : ℕ) (x : KeyValue) (old new : List ℕ)
    → i < length xs
    → x ≡ get_or xs i x → old ≡ h ++ flat_map item_bytes (take i xs) → new ≡ old ++ item_bytes x
    → new ≡ h ++ flat_map item_bytes (take (i + 1) xs)
more_items h xs i x old new lt is before after =
    after ∙ ap (λ l. l ++ item_bytes x) before
    ∙ flat_map_more item_bytes h (take i xs) x
    ∙ ap (λ l. h ++ flat_map item_bytes l) (ap (λ y. take i xs ++ y ∷ []) is
    ∙ sym (take_more xs i x lt))

-- eight bytes of a number are those of the number modulo 2^64
pub wrapped : (n : ℕ) → to_le_bytes w64 (n % 2 ^ 64) ≡ to_le_bytes w64 n
wrapped n =
    let b0 : n % 2 ^ 64 % 256 ≡ n % 256 = omega arith in
    let b1 : n % 2 ^ 64 / 256 ^ 1 % 256 ≡ n / 256 ^ 1 % 256 = omega arith in
    let b2 : n % 2 ^ 64 / 256 ^ 2 % 256 ≡ n / 256 ^ 2 % 256 = omega arith in
    let b3 : n % 2 ^ 64 / 256 ^ 3 % 256 ≡ n / 256 ^ 3 % 256 = omega arith in
    let b4 : n % 2 ^ 64 / 256 ^ 4 % 256 ≡ n / 256 ^ 4 % 256 = omega arith in
    let b5 : n % 2 ^ 64 / 256 ^ 5 % 256 ≡ n / 256 ^ 5 % 256 = omega arith in
    let b6 : n % 2 ^ 64 / 256 ^ 6 % 256 ≡ n / 256 ^ 6 % 256 = omega arith in
    let b7 : n % 2 ^ 64 / 256 ^ 7 % 256 ≡ n / 256 ^ 7 % 256 = omega arith in
    cc (b0, b1, b2, b3, b4, b5, b6, b7)

sum_result : (kind : FoldKind) (state : State) (bag : Bag) → state ≡ state_of kind bag
    → to_le_bytes w64 state.total ≡ to_le_bytes w64 (total_of kind (entries bag))
unfolding state_of
sum_result kind state bag is =
    ap (λ (s : State). to_le_bytes w64 s.total) is ∙ wrapped (total_of kind (entries bag))

result_is : (kind : FoldKind) (state : State) (bag : Bag) → state ≡ state_of kind bag
    → state_result_by kind state ≡ result_of kind (entries bag)
unfolding state_of
result_is Counting state bag is = sum_result Counting state bag is
result_is AddingLengths state bag is = sum_result AddingLengths state bag is
result_is AddingBytes state bag is = sum_result AddingBytes state bag is
result_is (TakingFirst most) state bag is =
    ap (λ (s : State). items_bytes s.first.items) is
    ∙ ap items_bytes (prefix_items (entries bag) most most_bytes)

pub results : ResultsAreFolds
results state bag is = result_is state.kind state bag is

-- a result that is the state's is the fold of the plain list
pub is_result : {E : Type 0} (r : Result (List ℕ) E) (state : State)
    → IfOk r (λ bytes. bytes ≡ state_result state) → IfOk r (IsResult state)
is_result (Ok bytes) state is = λ bag was. is ∙ results state bag was
is_result (Err e) state is = tt

sum_le : (bytes : List ℕ) → All (λ byte. byte ≤ 255) bytes → sum bytes ≤ length bytes * 255
sum_le [] h = omega arith
sum_le (byte ∷ bytes) h =
    omega (
      arith,
      sum_by-cons (λ (x : ℕ). x) byte bytes,
      h 0 byte (omega arith),
      sum_le bytes (λ k d lt. h (suc k) d (omega arith)),
    )

pub totals : TotalsFit
totals Counting bag good = omega (arith, good.few)
totals AddingLengths bag good =
    omega (
      arith,
      good.few,
      sum_by-le (λ (item : KeyValue). length item.1) 65400 (entries bag)
          (λ k d lt. omega (arith, (good.each k d lt).sizes.small)),
    )
totals AddingBytes bag good =
    omega (
      arith,
      good.few,
      sum_by-le (λ (item : KeyValue). sum item.1) 16677000 (entries bag)
          (λ k d lt. omega (
            arith,
            (good.each k d lt).sizes.small,
            sum_le _ (good.each k d lt).bytes,
          )),
    )
totals (TakingFirst most) bag good = omega arith

same_next : (items : List KeyValue) (x y : KeyValue) (xs ys : List KeyValue)
    → items ++ x ∷ xs ≡ items ++ y ∷ ys
    → x ≡ y
same_next [] x y xs ys is = cc
same_next (e ∷ es) x y xs ys is = let rest : es ++ x ∷ xs
    ≡ es ++ y ∷ ys = cc in same_next es x y xs ys rest

longest_at : (most room : ℕ) (list : List KeyValue)
    → ((o : Option (List ℕ)) → (prefix_of most room list).cut ≡ o
    → IsLongest most room list (prefix_of most room list).items)
longest_at most room list None is =
    let items : List KeyValue = (prefix_of most room list).items in
    let whole = no_cut list most room is in
    record {
      tail = [];
      parts = sym whole ∙ sym (append_nil items);
      few = omega (arith, prefix_few list most room, ones_length items);
      small = prefix_small list most room;
      longest =
          λ pair later at few small.
          let len = ap length (whole ∙ at) ∙ length-append items (pair ∷ later) in
          absurd (omega (arith, len));
    }
longest_at most room list (Some key) is =
    let items : List KeyValue = (prefix_of most room list).items in
    let split = cut_splits list most room key is in
    record {
      tail = (key, split.value) ∷ split.tail;
      parts = split.parts;
      few = omega (arith, prefix_few list most room, ones_length items);
      small = prefix_small list most room;
      longest =
          λ pair later at few small.
          let next = same_next items pair (key, split.value) later split.tail (sym at
          ∙ split.parts) in
          let same = ap item_size next in
          split.large (omega (arith, ones_length items)) (omega (arith, same));
    }

pub longest : TakesLongest
longest most room items =
    subst (IsLongest most room items) (prefix_items items most room)
    (longest_at most room items (prefix_of most room items).cut refl)
