-- What all classes have together.
use Rattle.std.specs.Prelude.{◌==◌, ◌&&◌, if◌then◌else◌}
use Rattle.std.specs.List.{slice_get, find, list_all}
use Rattle.std.specs.FinMap.{get, remove, entries, len, len-entries, get-entries, entries_sorted}
use Rattle.std.proofs.Common.{◌≡◌, inl, inr, ◌∙◌, ℕ, zero, suc, ◌+◌, ◌*◌, ◌^◌, ◌<◌, ◌≤◌, leb}
use Rattle.std.proofs.Common.{Bool, true, false, List, [], ◌∷◌, length, get_or, Option, None, Some}
use Rattle.std.proofs.Common.{IsSome, refl, sym, ap, subst, arith, length-append}
use Rattle.std.proofs.lemmas.Bool.{cases_eq, cases_Bool, eq-eqb, leb-true, and_parts, cond-true}
use Rattle.std.proofs.lemmas.Bool.{cond-false}
use Rattle.std.proofs.lemmas.Cmp.{nat_list_cmp_total}
use Rattle.kv_index.specs.declared.entry.Entry.{Entry}
use Rattle.kv_index.specs.Entries.{Entries}
use Rattle.kv_index.proofs.LookupLemmas.{get_removed_other}
use Rattle.kv_index.proofs.PlacesLemmas.{at_own, find_at}
use Rattle.kv_model.specs.Layout.{all_classes, class_of, is_key_length, is_small, room_of}
use Rattle.kv_model.specs.Slots.{is_class}
use Rattle.kv_slab.specs.Memory.{items_in}
use Rattle.kv_slab.specs.Moves.{AreDistinct, ArePlaces, FitsClass, AllFit}
use Rattle.kv_slab.specs.Rooms.{item_class, slot_class, new_class, needed, left_for, left_by}
use Rattle.kv_slab.specs.Rooms.{left_slots, slots_of}
use Rattle.kv_slab.specs.Rounds.{Index}
use Rattle.kv_slab.specs.declared.change.Change.{Change}
use Rattle.kv_slab.proofs.CountLemmas.{Pairs, count, count-cons, weight, items-remove, one_if}

-- the sum over the classes from 1 to n
pub sum_of : (ℕ → ℕ) → ℕ → ℕ
sum_of f zero = 0
sum_of f (suc n) = sum_of f n + f (suc n)

sum-plus : (f g : ℕ → ℕ) (n : ℕ) → sum_of (λ c. f c + g c) n ≡ sum_of f n + sum_of g n
unfolding sum_of
sum-plus f g zero = refl
sum-plus f g (suc n) = let rest = sum-plus f g n in omega arith

sum-same : (f g : ℕ → ℕ) (n : ℕ) → ((c : ℕ) → f c ≡ g c) → sum_of f n ≡ sum_of g n
unfolding sum_of
sum-same f g zero same = refl
sum-same f g (suc n) same =
    let rest = sum-same f g n same in let here = same (suc n) in omega arith

sum-most : (f : ℕ → ℕ) (n most : ℕ) → ((c : ℕ) → 1 ≤ c → c ≤ n → f c ≤ most)
    → sum_of f n ≤ n * most
unfolding sum_of
sum-most f zero most each = omega arith
sum-most f (suc n) most each =
    let rest = sum-most f n most (λ c low high. each c low (omega arith)) in
    let here = each (suc n) (omega arith) (omega arith) in
    omega arith

-- one of them is this class
sum-one : (k n : ℕ) → 1 ≤ k → k ≤ n → 1 ≤ sum_of (λ c. one_if (k == c)) n
unfolding sum_of
sum-one k zero low high = absurd (omega arith)
sum-one k (suc n) low high = elim (cases_eq k (suc n)) [
  | inl same ↦
      let one : one_if (k == suc n) ≡ 1 = ap one_if (eq-eqb k (suc n) same) in
      omega arith
  | inr other ↦ let rest = sum-one k n low (omega arith) in omega arith
]

-- each pair is of one class
sum-pairs : (pairs : Pairs) → ((i : ℕ) (d : List ℕ × Entry) → i < length pairs
    → (1 ≤ (get_or pairs i d).1.place.class) × ((get_or pairs i d).1.place.class ≤ 11))
    → length pairs ≤ sum_of (λ c. count c pairs) 11
sum-pairs [] each = omega arith
sum-pairs (x ∷ xs) each =
    let rest = sum-pairs xs (λ i d below. each (suc i) d (omega arith)) in
    let class = each 0 x (omega arith) in
    let one = sum-one x.1.place.class 11 class.0 class.1 in
    let split = sum-same (λ c. count c (x ∷ xs)) (λ c. weight c (Some x.1) + count c xs) 11
    (λ c. count-cons c x xs) in
    let parts = sum-plus (λ c. weight c (Some x.1)) (λ c. count c xs) 11 in
    omega arith

-- what the keys of changes have in a class
pub had_by : ℕ → Entries → List Change → ℕ
had_by c m [] = 0
had_by c m (ch ∷ cs) = weight c (get m ch.key) + had_by c m cs

had-removed : (c : ℕ) (m : Entries) (k : List ℕ) (cs : List Change)
    → ((i : ℕ) (ch : Change) → slice_get cs i ≡ Some ch → ch.key ≡ k → ⊥)
    → had_by c (remove m k) cs ≡ had_by c m cs
unfolding had_by
had-removed c m k [] other = refl
had-removed c m k (ch ∷ cs) other =
    let here : weight c (get (remove m k) ch.key) ≡ weight c (get m ch.key) = ap (weight c)
    (get_removed_other m k ch.key (other 0 ch refl)) in
    let rest = had-removed c m k cs (λ i. other (suc i)) in
    omega arith

-- no more than the class has
pub had-few : (c : ℕ) (m : Entries) (cs : List Change) → AreDistinct cs
    → had_by c m cs ≤ items_in m c
unfolding had_by
had-few c m [] distinct = omega arith
had-few c m (ch ∷ cs) distinct =
    let rest = had-few c (remove m ch.key) cs (λ i j a b at_i at_j same. let e : suc i ≡ suc j =
    distinct (suc i) (suc j) a b at_i at_j same in omega arith) in
    let here = items-remove m ch.key c in
    let same = had-removed c m ch.key cs (λ i a at key. let e : suc i ≡ 0 = distinct (suc i) 0 a ch
    at refl key in omega arith) in
    omega arith

one-left : (old : Option Entry) (item : Option ℕ) (class : ℕ)
    → length (slots_of (left_for old item) class) ≤ weight class old
one-left None item class = omega arith
one-left (Some e) None class = by_test (e.place.class == class)
  where
    by_test : (b : Bool) → length (if b then e.place.slot ∷ [] else []) ≤ (if b then 1 else 0)
    by_test true = omega arith
    by_test false = omega arith
one-left (Some e) (Some k) class = by_stay ((e.place.class == k) && is_small k)
  where
    by_test : (b : Bool) → length (if b then e.place.slot ∷ [] else []) ≤ (if b then 1 else 0)
    by_test true = omega arith
    by_test false = omega arith

    by_stay : (b : Bool) → length (slots_of (if b then None else Some e.place) class)
        ≤ weight class (Some e)
    by_stay true = omega arith
    by_stay false = by_test (e.place.class == class)

-- the slots of a class that changes leave are no more than it has
left-had : (m : Entries) (cs : List Change) (class : ℕ)
    → length (left_slots (get m) cs class) ≤ had_by class m cs
unfolding had_by
left-had m [] class = omega arith
left-had m (ch ∷ cs) class =
    let here = one-left (get m ch.key) (item_class ch.key ch.value) class in
    let rest = left-had m cs class in
    omega (arith, length-append (slots_of (left_by (get m) ch) class) (left_slots (get m) cs class))

pub left-few : (m : Entries) (cs : List Change) (class : ℕ) → AreDistinct cs
    → length (left_slots (get m) cs class) ≤ items_in m class
left-few m cs class distinct =
    let one = left-had m cs class in let two = had-few class m cs distinct in omega arith

-- the class of an item is one of the eleven
find-within : (test : ℕ → Bool) (xs : List ℕ) (x : ℕ)
    → list_all (λ n. leb 1 n && leb n 11) xs ≡ true → find test xs ≡ Some x
    → (1 ≤ x) × (x ≤ 11)
find-within test [] x all found = absurd (cc)
find-within test (y ∷ ys) x all found =
    let both = and_parts (leb 1 y && leb y 11) (list_all (λ n. leb 1 n && leb n 11) ys) all in
    elim (cases_Bool (test y)) [
      | inl pass ↦
          let same : y ≡ x = (let e = sym (cond-true (test y) (Some y) (find test ys) pass)
          ∙ found in cc) in
          let range = and_parts (leb 1 y) (leb y 11) both.0 in
          subst (λ n. (1 ≤ n) × (n ≤ 11)) same (leb-true 1 y range.0, leb-true y 11 range.1)
      | inr fail ↦ find-within test ys x both.1
          (sym (cond-false (test y) (Some y) (find test ys) fail) ∙ found)
    ]

class-within : (k v class : ℕ) → class_of all_classes k v ≡ Some class
    → (1 ≤ class) × (class ≤ 11)
class-within k v class of =
    let fits = λ (n : ℕ). leb (k + v) (room_of n) in
    elim (cases_Bool (is_key_length all_classes k)) [
      | inl pass ↦ find-within fits all_classes.classes class refl
          (sym (cond-true (is_key_length all_classes k) (find fits all_classes.classes) None pass)
          ∙ of)
      | inr fail ↦ absurd (let e = sym (cond-false (is_key_length all_classes k)
          (find fits all_classes.classes) None fail) ∙ of in cc)
    ]

-- the class where a change takes a slot is one of the eleven
pub new_class-within : (index : Index) (ch : Change) (class : ℕ) → new_class index ch ≡ Some class
    → (1 ≤ class) × (class ≤ 11)
new_class-within index ch class is = by_value ch.value (item_of (index ch.key)
    (item_class ch.key ch.value) is)
  where
    item_of : (from : Option Entry) (item : Option ℕ) → slot_class from item ≡ Some class
        → item ≡ Some class
    item_of from None at = at
    item_of None (Some k) at = at
    item_of (Some e) (Some k) at = by_stay ((e.place.class == k) && is_small k) at
      where
        by_stay : (b : Bool) → (if b then None else Some k) ≡ Some class → Some k ≡ Some class
        by_stay true at_none = absurd (cc)
        by_stay false at_some = at_some

    by_value : (v : Option (List ℕ)) → item_class ch.key v ≡ Some class
        → (1 ≤ class) × (class ≤ 11)
    by_value None at_none = absurd (cc)
    by_value (Some v) of = class-within (length ch.key) (length v) class of

-- a change is of a key that has an item, or takes a slot
one-change : (ch : Change) (from : Option Entry) (v : Option (List ℕ)) → ch.value ≡ v
    → FitsClass ch → (v ≡ None → IsSome from)
    → ((e : Entry) → from ≡ Some e → (1 ≤ e.place.class) × (e.place.class ≤ 11))
    → 1 ≤ sum_of (λ c. weight c from + one_if (is_class (slot_class from (item_class ch.key v)) c)) 11
one-change ch (Some e) v is fits present places =
    let class = places e refl in
    let one = sum-one e.place.class 11 class.0 class.1 in
    let parts = sum-plus (λ c. weight c (Some e))
    (λ c. one_if (is_class (slot_class (Some e) (item_class ch.key v)) c)) 11 in
    omega arith
one-change ch None None is fits present places = absurd (let e = present refl in cc)
one-change ch None (Some v) is fits present places =
    let class = fits v is in
    let range = class-within (length ch.key) (length v) class.0 class.1 in
    let one = sum-one class.0 11 range.0 range.1 in
    let same = sum-same (λ c. 0 + one_if (is_class (slot_class None (item_class ch.key (Some v))) c))
    (λ c. one_if (class.0 == c)) 11
    (λ c. ap (λ o. 0 + one_if (is_class (slot_class None o) c)) class.1
    ∙ (let e : 0 + one_if (class.0 == c) ≡ one_if (class.0 == c) = omega arith in e)) in
    omega arith

sum-changes : (m : Entries) (cs : List Change) → ArePlaces (get m) → AllFit cs
    → ((i : ℕ) (ch : Change) → slice_get cs i ≡ Some ch → ch.value ≡ None
    → IsSome (get m ch.key))
    → length cs ≤ sum_of (λ c. had_by c m cs + needed (get m) cs c) 11
unfolding had_by
sum-changes m [] places fit present = omega arith
sum-changes m (ch ∷ cs) places fit present =
    let rest = sum-changes m cs places (λ i. fit (suc i)) (λ i. present (suc i)) in
    let here = one-change ch (get m ch.key) ch.value refl (fit 0 ch refl) (present 0 ch refl)
    (λ e at. let p = places ch.key e at in (p.low, p.high)) in
    let one = λ (c : ℕ). weight c (get m ch.key) + one_if (is_class (new_class (get m) ch) c) in
    let split = sum-same (λ c. had_by c m (ch ∷ cs) + needed (get m) (ch ∷ cs) c)
    (λ c. one c + (had_by c m cs + needed (get m) cs c)) 11
    (λ c. let e : weight c (get m ch.key) + had_by c m cs
    + (one_if (is_class (new_class (get m) ch) c) + needed (get m) cs c)
    ≡ one c + (had_by c m cs + needed (get m) cs c) = omega arith in e) in
    let parts = sum-plus one (λ c. had_by c m cs + needed (get m) cs c) 11 in
    omega arith

-- each entry of a map is one of its pairs
pair-got : (m : Entries) (i : ℕ) (d : List ℕ × Entry) → i < length (entries m)
    → get m (get_or (entries m) i d).0 ≡ Some (get_or (entries m) i d).1
pair-got m i d below =
    let key = (get_or (entries m) i d).0 in
    get-entries m key ∙ find_at nat_list_cmp_total key (entries m) i
    (at_own nat_list_cmp_total (entries m) i d (entries_sorted m) below) d

-- so keys and changes together are few
pub few-keys : (m : Entries) (cs : List Change) → ArePlaces (get m) → AreDistinct cs → AllFit cs
    → ((i : ℕ) (ch : Change) → slice_get cs i ≡ Some ch → ch.value ≡ None
    → IsSome (get m ch.key))
    → ((c : ℕ) → 1 ≤ c → c ≤ 11 → items_in m c + needed (get m) cs c ≤ 2 ^ 24)
    → len m + length cs < 2 ^ 32
few-keys m cs places distinct fit present slots =
    let keys = sum-pairs (entries m) (λ i d below.
    let p = places _ _ (pair-got m i d below) in (p.low, p.high)) in
    let items = sum-most (λ c. count c (entries m)) 11 16777216 (λ c low high.
    let s = slots c low high in omega arith) in
    let changes = sum-changes m cs places fit present in
    let most = sum-most (λ c. had_by c m cs + needed (get m) cs c) 11 16777216 (λ c low high.
    let s = slots c low high in let h = had-few c m cs distinct in omega arith) in
    omega (arith, len-entries m)
