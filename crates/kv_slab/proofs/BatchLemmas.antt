-- Changes take and leave slots as the batch of their writes does.
use Rattle.std.specs.Prelude.{◌==◌, ◌&&◌, ◌||◌, not, if◌then◌else◌, count_by, map, filter}
use Rattle.std.specs.Option.{option_map}
use Rattle.std.proofs.Common.{◌≡◌, ◌∙◌, ℕ, ◌+◌, cond, Bool, true, false, List, [], ◌∷◌, ◌++◌, length}
use Rattle.std.proofs.Common.{Option, None, Some, refl, sym, ap}
use Rattle.std.proofs.lemmas.Bool.{eq-eqb, eqb-true, ne_eqb, false≢true}
use Rattle.std.proofs.lemmas.List.Sums.{sum_by-cons}
use Rattle.kv_base.specs.declared.place.Place.{Place}
use Rattle.kv_index.specs.declared.entry.Entry.{Entry}
use Rattle.kv_model.specs.Batch.{Start, takes_slot, class_written}
use Rattle.kv_model.specs.FreeSlots.{taken, given, leaves_slot, left_slots as slots_left_by}
use Rattle.kv_model.specs.History.{Write}
use Rattle.kv_model.specs.Layout.{Layout, all_classes, is_small, class_of}
use Rattle.kv_model.specs.Slots.{is_class}
use Rattle.kv_slab.specs.Batches.{FindsEntries, ChangesTakeSlots, ChangesLeaveFree, write_of}
use Rattle.kv_slab.specs.Rooms.{slot_class, item_class, new_class, left_for, left_by, slots_of}
use Rattle.kv_slab.specs.Rooms.{needed, left_slots}
use Rattle.kv_slab.specs.Rounds.{Index}
use Rattle.kv_slab.specs.declared.change.Change.{Change}

-- the class of an entry, if there is one
abbrev class_in : Option Entry → Option ℕ
class_in from = option_map (λ entry. entry.place.class) from

-- an item takes a slot of its class, unless it is small and its key is there already
one_taken : (there asked here small_asked small : Bool)
    → (here ≡ true → (asked ≡ there) × (small_asked ≡ small))
    → cond (asked && small_asked) false here ≡ (here && (not small || not there))
one_taken there true false true small same = refl
one_taken there true false false small same = refl
one_taken there false false small_asked small same = refl
one_taken there asked true small_asked small same =
    ap (λ b. cond (b && small_asked) false true) (same refl).0
    ∙ ap (λ b. cond (there && b) false true) (same refl).1 ∙ by_cases there small
  where
    by_cases : (t s : Bool) → cond (t && s) false true ≡ (not s || not t)
    by_cases true true = refl
    by_cases true false = refl
    by_cases false true = refl
    by_cases false false = refl

class_if : (b : Bool) (k class : ℕ) → is_class (if b then None else Some k) class
    ≡ cond b false (k == class)
class_if true k class = refl
class_if false k class = refl

takes-is : (from : Option Entry) (item : Option ℕ) (class : ℕ)
    → is_class (slot_class from item) class
    ≡ (is_class item class && (not (is_small class) || not (is_class (class_in from) class)))
takes-is from None class = refl
takes-is None (Some k) class = by_cases (k == class) (is_small class)
  where
    by_cases : (b s : Bool) → b ≡ (b && (not s || true))
    by_cases true true = refl
    by_cases true false = refl
    by_cases false s = refl
takes-is (Some e) (Some k) class =
    class_if ((e.place.class == k) && is_small k) k class
    ∙ one_taken (e.place.class == class) (e.place.class == k) (k == class) (is_small k)
    (is_small class) (λ here.
    let same : k ≡ class = eqb-true k class here in
    (ap (λ n. e.place.class == n) same, ap is_small same))

-- the slot of an entry is left, unless a small item stays in it
one_left : (there asked here small_asked small : Bool) (slots : List ℕ)
    → (there ≡ true → here ≡ true → (asked ≡ true) × (small_asked ≡ small))
    → (there ≡ true → here ≡ false → asked ≡ false)
    → cond (asked && small_asked) [] (cond there slots [])
    ≡ cond (there && not (small && here)) slots []
one_left false true here true small slots same other = refl
one_left false true here false small slots same other = refl
one_left false false here small_asked small slots same other = refl
one_left true asked true small_asked small slots same other =
    ap (λ b. cond (b && small_asked) [] slots) (same refl refl).0
    ∙ ap (λ b. cond b [] slots) (same refl refl).1 ∙ by_cases small
  where
    by_cases : (s : Bool) → cond s [] slots ≡ cond (not (s && true)) slots []
    by_cases true = refl
    by_cases false = refl
one_left true asked false small_asked small slots same other =
    ap (λ b. cond (b && small_asked) [] slots) (other refl refl) ∙ by_cases small
  where
    by_cases : (s : Bool) → slots ≡ cond (not (s && false)) slots []
    by_cases true = refl
    by_cases false = refl

slots_if : (b : Bool) (p : Place) (class : ℕ) → slots_of (if b then None else Some p) class
    ≡ cond b [] (slots_of (Some p) class)
slots_if true p class = refl
slots_if false p class = refl

leaves-is : (from : Option Entry) (item : Option ℕ) (class slot : ℕ)
    → ((e : Entry) → from ≡ Some e → slot ≡ e.place.slot)
    → slots_of (left_for from item) class
    ≡ cond (is_class (class_in from) class && not (is_small class && is_class item class))
    (slot ∷ []) []
leaves-is None item class slot at = refl
leaves-is (Some e) None class slot at =
    by_cases (e.place.class == class) (is_small class)
    ∙ ap (λ s. cond ((e.place.class == class) && not (is_small class && false)) (s ∷ []) [])
    (sym (at e refl))
  where
    by_cases : (b s : Bool) → cond b (e.place.slot ∷ []) []
        ≡ cond (b && not (s && false)) (e.place.slot ∷ []) []
    by_cases true true = refl
    by_cases true false = refl
    by_cases false s = refl
leaves-is (Some e) (Some k) class slot at =
    slots_if ((e.place.class == k) && is_small k) e.place class
    ∙ one_left (e.place.class == class) (e.place.class == k) (k == class) (is_small k)
    (is_small class) (e.place.slot ∷ [])
    (λ there here.
    let was : e.place.class ≡ class = eqb-true e.place.class class there in
    let same : k ≡ class = eqb-true k class here in
    (eq-eqb e.place.class k (was ∙ sym same), ap is_small same))
    (λ there here. ne_eqb e.place.class k (λ same. false≢true (sym here ∙ eq-eqb k class
    (sym same ∙ eqb-true e.place.class class there))))
    ∙ ap (λ s. cond ((e.place.class == class) && not (is_small class && (k == class))) (s ∷ []) [])
    (sym (at e refl))

-- the class of a write of the change's key with this value
abbrev written_class : Layout → Change → Option (List ℕ) → Option ℕ
written_class layout c v = class_written layout (record {
  stamp = c.stamp;
  key = c.key;
  value = v;
})

-- the class of a change's item is that of its write
class-is : (layout : Layout) (c : Change) (v : Option (List ℕ)) → layout ≡ all_classes
    → c.value ≡ v → item_class c.key c.value ≡ class_written layout (write_of c)
class-is layout c None all is = ap (item_class c.key) is ∙ sym (ap (written_class layout c) is)
class-is layout c (Some v) all is = ap (item_class c.key) is
    ∙ ap (λ l. class_of l (length c.key) (length v)) (sym all)
    ∙ sym (ap (written_class layout c) is)

pub changes_take_slots : ChangesTakeSlots
changes_take_slots index [] start slot_of_key class finds = refl
changes_take_slots index (c ∷ cs) start slot_of_key class finds =
    let rest = changes_take_slots index cs start slot_of_key class finds in
    let small = is_small class in
    let item = class-is start.layout c c.value finds.layout refl in
    let here : is_class (new_class index c) class ≡ takes_slot start class (write_of c) =
    takes-is (index c.key) (item_class c.key c.value) class
    ∙ ap (λ o. is_class o class && (not small || not (is_class (class_in (index c.key)) class)))
    item
    ∙ ap (λ o. is_class (class_written start.layout (write_of c)) class
    && (not small || not (is_class o class))) (sym (finds.class c.key)) in
    ap (λ b. cond b 1 0 + needed index cs class) here
    ∙ ap (λ n. cond (takes_slot start class (write_of c)) 1 0 + n) rest
    ∙ sym (sum_by-cons (λ (w : Write). cond (takes_slot start class w) 1 0) (write_of c)
    (map write_of cs))

left-are : (index : Index) (changes : List Change) (start : Start) (slot_of_key : List ℕ → ℕ)
    (class : ℕ) → FindsEntries index start slot_of_key
    → left_slots index changes class ≡ slots_left_by start slot_of_key class (map write_of changes)
left-are index [] start slot_of_key class finds = refl
left-are index (c ∷ cs) start slot_of_key class finds =
    let rest = left-are index cs start slot_of_key class finds in
    let small = is_small class in
    let item = class-is start.layout c c.value finds.layout refl in
    let slot = slot_of_key c.key ∷ [] in
    let here : slots_of (left_by index c) class
    ≡ cond (leaves_slot start class (write_of c)) slot [] =
    leaves-is (index c.key) (item_class c.key c.value) class (slot_of_key c.key) (finds.slot c.key)
    ∙ ap (λ o. cond (is_class (class_in (index c.key)) class && not (small && is_class o class))
    slot []) item
    ∙ ap (λ o. cond (is_class o class
    && not (small && is_class (class_written start.layout (write_of c)) class)) slot [])
    (sym (finds.class c.key)) in
    ap (λ l. l ++ left_slots index cs class) here
    ∙ ap (λ l. cond (leaves_slot start class (write_of c)) slot [] ++ l) rest
    ∙ by_test (leaves_slot start class (write_of c)) (write_of c)
    (filter (leaves_slot start class) (map write_of cs))
  where
    by_test : (b : Bool) (w : Write) (ws : List Write)
        → cond b (slot_of_key w.key ∷ []) [] ++ map (λ v. slot_of_key v.key) ws
        ≡ map (λ v. slot_of_key v.key) (cond b (w ∷ ws) ws)
    by_test true w ws = refl
    by_test false w ws = refl

pub changes_leave_free : ChangesLeaveFree
changes_leave_free index changes rooms start slot_of_key class finds =
    ap (λ n. given (taken (rooms class) n) (left_slots index changes class))
    (changes_take_slots index changes start slot_of_key class finds)
    ∙ ap (λ l. given (taken (rooms class) (count_by (takes_slot start class) (map write_of changes)))
    l) (left-are index changes start slot_of_key class finds)
