-- How many entries are of a class, as keys come and go.
use Rattle.std.specs.Prelude.{◌==◌, ◌&&◌, if◌then◌else◌, count_by}
use Rattle.std.specs.List.{slice_get}
use Rattle.std.specs.Str.{bytes_eq}
use Rattle.std.specs.FinMap.{get, insert, remove, entries, find, is_sorted, same_map}
use Rattle.std.specs.FinMap.{entries-insert, entries_sorted, get-entries}
use Rattle.std.specs.FinMap.Entries.{put, below_all, by_order}
use Rattle.std.specs.Ordering.{nat_cmp, is_lt, is_eq}
use Rattle.std.specs.Cmp.Lexicographic.{slice_cmp}
use Rattle.std.proofs.Common.{◌≡◌, inl, inr, ⊎_elim, ◌∙◌, ℕ, suc, ◌+◌, T, cond, Bool, true, false}
use Rattle.std.proofs.Common.{List, [], ◌∷◌, length, Option, None, Some, Ordering, Less, Equal}
use Rattle.std.proofs.Common.{Greater, refl, sym, ap, subst, arith, length-append}
use Rattle.std.proofs.lemmas.Bool.{cases_eq, ne_eqb}
use Rattle.std.proofs.lemmas.Cmp.{nat_list_cmp_total}
use Rattle.std.proofs.lemmas.List.Sums.{sum_by-cons}
use Rattle.kv_base.specs.declared.place.Place.{Place}
use Rattle.kv_index.specs.declared.entry.Entry.{Entry}
use Rattle.kv_index.specs.Entries.{Entries}
use Rattle.kv_index.proofs.EntriesLemmas.{one_key}
use Rattle.kv_index.proofs.LookupLemmas.{get_set, get_set_other, get_removed, get_removed_other}
use Rattle.kv_model.specs.Layout.{is_small}
use Rattle.kv_model.specs.Slots.{is_class}
use Rattle.kv_slab.specs.declared.change.Change.{Change}
use Rattle.kv_slab.specs.declared.moves.Move.{Move}
use Rattle.kv_slab.specs.Memory.{items_in}
use Rattle.kv_slab.specs.Moves.{AreDistinct, AreAllMoves, CanHold}
use Rattle.kv_slab.specs.Rooms.{slot_class, item_class, left_for, left_by, left_slots, slots_of}
use Rattle.kv_slab.specs.Rooms.{needed}
use Rattle.kv_slab.specs.Settled.{entry_at, moved_by}
use Rattle.kv_slab.proofs.SettleLemmas.{set-moved, remove-moved}
use Rattle.kv_slab.proofs.StepLemmas.{one_key as key_or_not, get_some}
use Rattle.std.proofs.lemmas.Option.{slice_get_within}

abbrev pub order : List ℕ → List ℕ → Ordering
order = slice_cmp nat_cmp

abbrev pub Pairs : Type 0
Pairs = List (List ℕ × Entry)

-- whether the entry is of the class, as a number
abbrev pub weight : ℕ → Option Entry → ℕ
weight c None = 0
weight c (Some e) = if e.place.class == c then 1 else 0

abbrev pub count : ℕ → Pairs → ℕ
count c pairs = count_by (λ pair. pair.1.place.class == c) pairs

left_of : (a b : Bool) → T (a && b) → T a
left_of true b p = tt
left_of false b p = p

right_of : (a b : Bool) → T (a && b) → T b
right_of true b p = p
right_of false b p = absurd p

both_of : (a b : Bool) → T a → T b → T (a && b)
both_of true b p q = q
both_of false b p q = p

is_less : (o : Ordering) → T (is_lt o) → o ≡ Less
is_less Less p = refl
is_less Equal p = absurd p
is_less Greater p = absurd p

is_equal : (o : Ordering) → is_eq o ≡ true → o ≡ Equal
is_equal Less p = absurd (subst T (sym p) tt)
is_equal Equal p = refl
is_equal Greater p = absurd (subst T (sym p) tt)

below_less : (x y : List ℕ) (es : Pairs) → order x y ≡ Less → T (below_all order y es)
    → T (below_all order x es)
below_less x y [] p h = tt
below_less x y (e ∷ es) p h =
    both_of _ _ (subst (λ r. T (is_lt r)) (sym (nat_list_cmp_total.trans x y e.0 p
    (is_less _ (left_of _ _ h)))) tt) (below_less x y es p (right_of _ _ h))

below_tied : (x y : List ℕ) (es : Pairs) → order x y ≡ Equal → T (below_all order y es)
    → T (below_all order x es)
below_tied x y [] p h = tt
below_tied x y (e ∷ es) p h =
    both_of _ _ (subst (λ r. T (is_lt r)) (sym (nat_list_cmp_total.congr x y e.0 p))
    (left_of _ _ h)) (below_tied x y es p (right_of _ _ h))

find_none : (q : List ℕ) (es : Pairs) → T (below_all order q es) → find order q es ≡ None
find_none q [] h = refl
find_none q (e ∷ es) h = ap (λ r. cond (is_eq r) (Some e.1) (find order q es))
    (is_less _ (left_of _ _ h)) ∙ find_none q es (right_of _ _ h)

-- one pair more
pub count-cons : (c : ℕ) (x : List ℕ × Entry) (xs : Pairs) → count c (x ∷ xs)
    ≡ weight c (Some x.1) + count c xs
count-cons c x xs = sum_by-cons (λ (pair : List ℕ × Entry). if pair.1.place.class == c then 1 else
    0) x xs

-- a key gets an entry
count-put : (c : ℕ) (k : List ℕ) (v : Entry) (es : Pairs) → T (is_sorted order es)
    → count c (put order k v es) + weight c (find order k es) ≡ count c es + weight c (Some v)
count-put c k v [] h = omega arith
count-put c k v (e ∷ es) h =
    elim (order k e.0) as (λ r. order k e.0 ≡ r → count c (by_order r ((k, v) ∷ e ∷ es)
    ((e.0, v) ∷ es) (e ∷ put order k v es)) + weight c (cond (is_eq r) (Some e.1)
    (find order k es)) ≡ count c (e ∷ es) + weight c (Some v)) [
      | Less ↦ λ p.
          let none : weight c (find order k es) ≡ 0 = ap (weight c)
          (find_none k es (below_less k e.0 es p (left_of _ _ h))) in
          let done : count c ((k, v) ∷ e ∷ es) + weight c (find order k es)
          ≡ count c (e ∷ es) + weight c (Some v) = omega
          (arith, none, count-cons c (k, v) (e ∷ es)) in
          done
      | Equal ↦ λ p.
          let done : count c ((e.0, v) ∷ es) + weight c (Some e.1)
          ≡ count c (e ∷ es) + weight c (Some v) = omega
          (arith, count-cons c (e.0, v) es, count-cons c e es) in
          done
      | Greater ↦ λ p.
          let rest = count-put c k v es (right_of _ _ h) in
          let done : count c (e ∷ put order k v es) + weight c (find order k es)
          ≡ count c (e ∷ es) + weight c (Some v) = omega
          (arith, rest, count-cons c e (put order k v es), count-cons c e es) in
          done
    ] refl

pub items-insert : (m : Entries) (k : List ℕ) (v : Entry) (c : ℕ)
    → items_in (insert m k v) c + weight c (get m k) ≡ items_in m c + weight c (Some v)
items-insert m k v c =
    ap (λ es. count c es + weight c (get m k)) (entries-insert nat_list_cmp_total m k v)
    ∙ ap (λ o. count c (put order k v (entries m)) + weight c o) (get-entries m k)
    ∙ count-put c k v (entries m) (entries_sorted m)

-- a key loses its entry
items-remove-o : (m : Entries) (k : List ℕ) (c : ℕ) (o : Option Entry) → get m k ≡ o
    → items_in (remove m k) c + weight c o ≡ items_in m c
items-remove-o m k c None is =
    let same : remove m k ≡ m = same_map nat_list_cmp_total one_key (remove m k) m (λ q.
    ⊎_elim
    (λ (t : (bytes_eq k q ≡ true) × (k ≡ q)). ap (get (remove m k)) (sym t.1) ∙ get_removed m k
    ∙ sym is ∙ ap (get m) t.1)
    (λ (t : (bytes_eq k q ≡ false) × (k ≡ q → ⊥)). get_removed_other m k q (λ e. t.1 (sym e)))
    (key_or_not k q)) in
    let count_same : items_in (remove m k) c ≡ items_in m c = ap (λ x. items_in x c) same in
    omega arith
items-remove-o m k c (Some v) is =
    let same : m ≡ insert (remove m k) k v = same_map nat_list_cmp_total one_key m
    (insert (remove m k) k v) (λ q.
    ⊎_elim
    (λ (t : (bytes_eq k q ≡ true) × (k ≡ q)). ap (get m) (sym t.1) ∙ is
    ∙ sym (get_set (remove m k) k v) ∙ ap (get (insert (remove m k) k v)) t.1)
    (λ (t : (bytes_eq k q ≡ false) × (k ≡ q → ⊥)). sym (get_set_other (remove m k) k v q
    (λ e. t.1 (sym e)) ∙ get_removed_other m k q (λ e. t.1 (sym e))))
    (key_or_not k q)) in
    let count_same : items_in m c ≡ items_in (insert (remove m k) k v) c = ap (λ x. items_in x c)
    same in
    let put_again = items-insert (remove m k) k v c in
    let gone : weight c (get (remove m k) k) ≡ 0 = ap (weight c) (get_removed m k) in
    omega (arith, count_same, put_again, gone)

pub items-remove : (m : Entries) (k : List ℕ) (c : ℕ) → items_in (remove m k) c + weight c (get m k)
    ≡ items_in m c
items-remove m k c = items-remove-o m k c (get m k) refl

-- the map once a move was made
pub put_move : Entries → Move → Option Place → Entries
put_move m mv None = remove m mv.key
put_move m mv (Some p) = insert m mv.key (record { stamp = mv.stamp; place = p })

-- the map once these moves were made, the last one first
pub settled : Entries → List Move → Entries
settled m [] = m
settled m (mv ∷ ms) = put_move (settled m ms) mv mv.to

get-put_move : (m : Entries) (mv : Move) (k : List ℕ) (o : Option Place) → mv.to ≡ o
    → get (put_move m mv o) k ≡ moved_by (mv ∷ []) k (get m k)
unfolding put_move
get-put_move m mv k None to = remove-moved m mv mv.key k refl to
get-put_move m mv k (Some p) to = set-moved m mv p mv.key k refl to

get-settled : (m : Entries) (ms : List Move) (k : List ℕ) → get (settled m ms) k
    ≡ moved_by ms k (get m k)
unfolding settled
get-settled m [] k = refl
get-settled m (mv ∷ ms) k =
    get-put_move (settled m ms) mv k mv.to refl
    ∙ ap (λ o. if bytes_eq mv.key k then entry_at mv.stamp mv.to else o) (get-settled m ms k)

pub settled_is : (old new : Entries) (ms : List Move) → ((k : List ℕ) → get new k
    ≡ moved_by ms k (get old k)) → new ≡ settled old ms
settled_is old new ms is = same_map nat_list_cmp_total one_key new (settled old ms)
    (λ k. is k ∙ sym (get-settled old ms k))

items-move : (m : Entries) (mv : Move) (c : ℕ) (o : Option Place) → mv.to ≡ o
    → items_in (put_move m mv o) c + weight c (get m mv.key)
    ≡ items_in m c + weight c (entry_at mv.stamp o)
unfolding put_move
items-move m mv c None to = items-remove m mv.key c ∙ (let e : items_in m c
    ≡ items_in m c + 0 = omega arith in e)
items-move m mv c (Some p) to = items-insert m mv.key (record { stamp = mv.stamp; place = p }) c

-- what the keys of some moves had, and what they get, in a class
pub old_weights : ℕ → Entries → List Move → ℕ
old_weights c m [] = 0
old_weights c m (mv ∷ ms) = weight c (get m mv.key) + old_weights c m ms

pub new_weights : ℕ → List Move → ℕ
new_weights c [] = 0
new_weights c (mv ∷ ms) = weight c (entry_at mv.stamp mv.to) + new_weights c ms

abbrev pub KeysApart : List Move → Type 0
KeysApart ms = (i j : ℕ) (m n : Move) → slice_get ms i ≡ Some m → slice_get ms j ≡ Some n → m.key
    ≡ n.key → i ≡ j

keys_rest : (mv : Move) (ms : List Move) → KeysApart (mv ∷ ms) → KeysApart ms
keys_rest mv ms apart i j m n at_i at_j same = let e : suc i
    ≡ suc j = apart (suc i) (suc j) m n at_i at_j same in omega arith

-- a key that no move has keeps its entry
moved_none : (ms : List Move) (k : List ℕ) (o : Option Entry)
    → ((i : ℕ) (m : Move) → slice_get ms i ≡ Some m → m.key ≡ k → ⊥) → moved_by ms k o ≡ o
moved_none [] k o none = refl
moved_none (mv ∷ ms) k o none =
    ⊎_elim
    (λ (same : (bytes_eq mv.key k ≡ true) × (mv.key ≡ k)). absurd (none 0 mv refl same.1))
    (λ (other : (bytes_eq mv.key k ≡ false) × (mv.key ≡ k → ⊥)). rw other.0
    (moved_none ms k o (λ i. none (suc i))))
    (key_or_not mv.key k)

pub items-settled : (m : Entries) (ms : List Move) (c : ℕ) → KeysApart ms
    → items_in (settled m ms) c + old_weights c m ms ≡ items_in m c + new_weights c ms
unfolding settled old_weights new_weights
items-settled m [] c apart = refl
items-settled m (mv ∷ ms) c apart =
    let rest = items-settled m ms c (keys_rest mv ms apart) in
    let here = items-move (settled m ms) mv c mv.to refl in
    let same : weight c (get (settled m ms) mv.key) ≡ weight c (get m mv.key) =
    ap (weight c) (get-settled m ms mv.key ∙ moved_none ms mv.key (get m mv.key) (λ i n at key.
    let e : suc i ≡ 0 = apart (suc i) 0 n mv at refl key in omega arith)) in
    omega arith

-- a test as a number
abbrev pub one_if : Bool → ℕ
one_if b = if b then 1 else 0

-- one change: what its key had and a new slot, and what it has now and the slot that is left
balance : (old : Option Entry) (item : Option ℕ) (to : Option Place) (stamp class : ℕ)
    → (item ≡ None → to ≡ None)
    → ((k : ℕ) → item ≡ Some k → (p : Place) × (to ≡ Some p) × (p.class ≡ k))
    → weight class old + one_if (is_class (slot_class old item) class)
    ≡ weight class (entry_at stamp to) + length (slots_of (left_for old item) class)
balance None None to stamp class none some = ap (λ o. weight class (entry_at stamp o) + 0)
    (sym (none refl))
balance None (Some k) to stamp class none some =
    let p = some k refl in
    let e : one_if (k == class) ≡ weight class (entry_at stamp to) =
    ap (λ n. one_if (n == class)) (sym p.2) ∙ ap (λ o. weight class (entry_at stamp o)) (sym p.1) in
    omega arith
balance (Some e) None to stamp class none some =
    let f : 0 ≡ weight class (entry_at stamp to) = ap (λ o. weight class (entry_at stamp o))
    (sym (none refl)) in
    let g = one_or_none e.place class in
    omega arith
  where
    one_or_none : (p : Place) (class : ℕ) → length (slots_of (Some p) class)
        ≡ one_if (p.class == class)
    one_or_none p class = by_test (p.class == class)
      where
        by_test : (b : Bool) → length (if b then p.slot ∷ [] else []) ≡ one_if b
        by_test true = refl
        by_test false = refl
balance (Some e) (Some k) to stamp class none some =
    let p = some k refl in
    let now : one_if (k == class) ≡ weight class (entry_at stamp to) =
    ap (λ n. one_if (n == class)) (sym p.2) ∙ ap (λ o. weight class (entry_at stamp o)) (sym p.1) in
    by_stay ((e.place.class == k) && is_small k) refl now
  where
    same_of : (a b : ℕ) (s : Bool) → ((a == b) && s) ≡ true → a ≡ b
    same_of a b s is = elim (cases_eq a b) [
      | inl same ↦ same
      | inr other ↦ absurd (subst T (sym (sym (ap (λ t. t && s) (ne_eqb a b other)) ∙ is)) tt)
    ]

    one_or_none2 : (p : Place) (class : ℕ) → length (slots_of (Some p) class)
        ≡ one_if (p.class == class)
    one_or_none2 p class = by_test (p.class == class)
      where
        by_test : (b : Bool) → length (if b then p.slot ∷ [] else []) ≡ one_if b
        by_test true = refl
        by_test false = refl

    by_stay : (b : Bool) → ((e.place.class == k) && is_small k) ≡ b → one_if (k == class)
        ≡ weight class (entry_at stamp to)
        → weight class (Some e) + one_if (is_class (slot_class (Some e) (Some k)) class)
        ≡ weight class (entry_at stamp to) + length (slots_of (left_for (Some e) (Some k))
        class)
    by_stay true stays now =
        let same : e.place.class ≡ k = same_of (e.place.class) k (is_small k) stays in
        let one : one_if (is_class (slot_class (Some e) (Some k)) class) ≡ 0 =
        ap (λ (b : Bool). one_if (is_class (if b then None else Some k) class)) stays in
        let two : length (slots_of (left_for (Some e) (Some k)) class) ≡ 0 =
        ap (λ (b : Bool). length (slots_of (if b then None else Some e.place) class)) stays in
        let three : weight class (Some e) ≡ one_if (k == class) = ap (λ n. one_if (n == class)) same
        in
        omega (arith, now, one, two, three)
    by_stay false goes now =
        let one : one_if (is_class (slot_class (Some e) (Some k)) class) ≡ one_if (k == class) =
        ap (λ (b : Bool). one_if (is_class (if b then None else Some k) class)) goes in
        let two : length (slots_of (left_for (Some e) (Some k)) class) ≡ weight class (Some e) =
        ap (λ (b : Bool). length (slots_of (if b then None else Some e.place) class)) goes
        ∙ one_or_none2 e.place class in
        omega (arith, now, one, two)

-- all changes of a batch
pub balances : (m : Entries) (changes : List Change) (moves : List Move) (class : ℕ)
    → AreAllMoves (get m) changes moves
    → old_weights class m moves + needed (get m) changes class
    ≡ new_weights class moves + length (left_slots (get m) changes class)
unfolding old_weights new_weights
balances m [] [] class all = refl
balances m [] (mv ∷ ms) class all = absurd (let e = all.count in omega arith)
balances m (c ∷ cs) [] class all = absurd (let e = all.count in omega arith)
balances m (c ∷ cs) (mv ∷ ms) class all =
    let is = all.each 0 c mv (record { change = refl; move = refl }) in
    let rest = balances m cs ms class (record {
      count = let e = all.count in omega arith;
      each = λ i d n pair. all.each (suc i) d n (record { change = pair.change; move = pair.move });
    }) in
    let here = balance (get m c.key) (item_class c.key c.value) mv.to mv.stamp class
    (λ none. no_item c mv c.value refl is.none is.some none)
    (λ k some. one_item c mv c.value refl is.some k some) in
    let old : weight class (get m mv.key) ≡ weight class (get m c.key) = ap
    (λ k. weight class (get m k)) is.key in
    let slots = length-append (slots_of (left_by (get m) c) class) (left_slots (get m) cs class) in
    omega (arith, here, rest, old, slots)
  where
    no_item : (c : Change) (mv : Move) (v : Option (List ℕ)) → c.value ≡ v
        → (c.value ≡ None → mv.to ≡ None)
        → ((w : List ℕ) → c.value ≡ Some w → (p : Place) × (mv.to ≡ Some p) × CanHold c w p)
        → item_class c.key v ≡ None → mv.to ≡ None
    no_item c mv None has none some is = none has
    no_item c mv (Some w) has none some is =
        let p = some w has in
        absurd (let e = sym p.2.class ∙ is in cc)

    one_item : (c : Change) (mv : Move) (v : Option (List ℕ)) → c.value ≡ v
        → ((w : List ℕ) → c.value ≡ Some w → (p : Place) × (mv.to ≡ Some p) × CanHold c w p)
        → (k : ℕ) → item_class c.key v ≡ Some k
        → (p : Place) × (mv.to ≡ Some p) × (p.class ≡ k)
    one_item c mv None has some k is = absurd (cc)
    one_item c mv (Some w) has some k is =
        let p = some w has in
        (p.0, p.1, (let e = sym p.2.class ∙ is in cc))

-- the keys of the moves are those of the changes
moves_apart : (m : Entries) (changes : List Change) (moves : List Move) → AreDistinct changes
    → AreAllMoves (get m) changes moves → KeysApart moves
moves_apart m changes moves distinct all i j p q at_i at_j same =
    let c = get_some changes i (let a = slice_get_within moves i p at_i in let n = all.count in
    omega arith) in
    let d = get_some changes j (let a = slice_get_within moves j q at_j in let n = all.count in
    omega arith) in
    let one = all.each i c.0 p (record { change = c.1; move = at_i }) in
    let two = all.each j d.0 q (record { change = d.1; move = at_j }) in
    distinct i j c.0 d.0 c.1 d.1 (sym one.key ∙ same ∙ two.key)

-- the items of a class after a batch: new slots came, and places were left
pub items_after : (old new : Entries) (changes : List Change) (moves : List Move) (class : ℕ)
    → AreDistinct changes → AreAllMoves (get old) changes moves
    → ((k : List ℕ) → get new k ≡ moved_by moves k (get old k))
    → items_in new class + length (left_slots (get old) changes class)
    ≡ items_in old class + needed (get old) changes class
items_after old new changes moves class distinct all is =
    let same : items_in new class ≡ items_in (settled old moves) class = ap (λ m. items_in m class)
    (settled_is old new moves is) in
    let one = items-settled old moves class (moves_apart old changes moves distinct all) in
    let two = balances old changes moves class all in
    omega (arith, same, one, two)
