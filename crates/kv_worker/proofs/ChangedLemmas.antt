-- What a store has once changes of different keys are written.
use Rattle.std.proofs.Common.{◌≡◌, ◌≢◌, ℕ, ◌<◌, ◌≤◌, Bool, true, false, cond, IsTrue, List, [], ◌∷◌, Option}
use Rattle.std.proofs.Common.{None, Some, is_some, option_map, option_and_then, refl, sym, ap, ◌∙◌}
use Rattle.std.proofs.Common.{subst, inl, inr, ◌⊎◌, arith, true≢false, length}
use Rattle.std.specs.List.{AllByRecursion}
use Rattle.std.specs.Option.{option_or}
use Rattle.std.specs.Str.{bytes_eq}
use Rattle.std.proofs.lemmas.Slice.Eq.{bytes_eq-Decides}
use Rattle.kv_index.specs.declared.entry.Entry.{Entry}
use Rattle.kv_model.specs.Batch.{class_written, last_write, value_or}
use Rattle.kv_model.specs.History.{Write}
use Rattle.kv_model.specs.Items.{SameValue, class_or}
use Rattle.kv_model.specs.Layout.{all_classes, class_of}
use Rattle.kv_model.proofs.NetLemmas.{DifferentKeys, HasNone, last_write-none, or_no}
use Rattle.kv_slab.specs.Given.{Answer}
use Rattle.kv_slab.specs.Moves.{answer_after, given_by}
use Rattle.kv_slab.specs.Rooms.{item_class}
use Rattle.kv_slab.specs.Settled.{HasEntryAfter, IsEntryAfter}
use Rattle.kv_slab.specs.declared.change.Change.{Change}
use Rattle.kv_worker.specs.Net.{write_of, writes_of}
use Rattle.kv_worker.specs.Worker.{value_told}
use Rattle.kv_worker.proofs.ListLemmas.{none-some}

-- the value that was written, or the one that was there
abbrev pub given_value : ℕ × List ℕ → List ℕ
given_value given = given.1

none-of : (key : List ℕ) (write : Write) (writes : List Write) → write.key ≡ key
    → AllByRecursion (λ other. write.key ≢ other.key) writes → HasNone key writes
none-of key write writes same all =
    subst (λ k. AllByRecursion (λ other. k ≢ other.key) writes) same all

-- the first write of a key is its last one, where the others are of other keys
last-here : (key : List ℕ) (write : Write) (writes : List Write) → write.key ≡ key
    → AllByRecursion (λ other. write.key ≢ other.key) writes
    → last_write (write ∷ writes) key ≡ Some write
last-here key write writes same all =
    ap (λ o. option_or o (cond (bytes_eq write.key key) (Some write) None))
    (last_write-none writes key (none-of key write writes same all))
    ∙ ap (λ b. cond b (Some write) None) ((bytes_eq-Decides write.key key).1 same)

-- a write of another key is not the key's last one
last-other : (key : List ℕ) (write : Write) (writes : List Write) → bytes_eq write.key key ≡ false
    → last_write (write ∷ writes) key ≡ last_write writes key
last-other key write writes other =
    ap (λ b. option_or (last_write writes key) (cond b (Some write) None)) other
    ∙ or_no (last_write writes key)

differs : (a b : List ℕ) → (a ≡ b → ⊥) → bytes_eq a b ≡ false
differs a b other = by (bytes_eq a b) refl
  where
    by : (same : Bool) → bytes_eq a b ≡ same → same ≡ false
    by true e = absurd (other ((bytes_eq-Decides a b).0 e))
    by false e = refl

given-is : (stamp : ℕ) (value : Option (List ℕ)) → option_map given_value (given_by stamp value)
    ≡ value
given-is stamp None = refl
given-is stamp (Some value) = refl

-- behind the changes a key has its last write's value, or what it had
pub answer-last : (changes : List Change) (key : List ℕ) (old : Answer)
    → DifferentKeys (writes_of changes)
    → option_map given_value (answer_after changes key old)
    ≡ value_or (last_write (writes_of changes) key) (option_map given_value old)
answer-last [] key old differ = refl
answer-last (c ∷ cs) key old differ = by (bytes_eq c.key key) refl (answer-last cs key old differ.1)
  where
    by : (same : Bool) → bytes_eq c.key key ≡ same
        → option_map given_value (answer_after cs key old)
        ≡ value_or (last_write (writes_of cs) key) (option_map given_value old)
        → option_map given_value (cond same (given_by c.stamp c.value) (answer_after cs key old))
        ≡ value_or (last_write (write_of c ∷ writes_of cs) key) (option_map given_value old)
    by true e rest = given-is c.stamp c.value
        ∙ sym (ap (λ o. value_or o (option_map given_value old)) (last-here key (write_of c)
        (writes_of cs) ((bytes_eq-Decides c.key key).0 e) differ.0))
    by false e rest = rest ∙ sym (ap (λ o. value_or o (option_map given_value old))
        (last-other key (write_of c) (writes_of cs) e))

item-class : (key : List ℕ) (value : Option (List ℕ)) → item_class key value
    ≡ option_and_then (λ v. class_of all_classes (length key) (length v)) value
item-class key None = refl
item-class key (Some value) = refl

class-is : (c : Change) (new : Option Entry) → IsEntryAfter c new
    → option_map (λ e. e.place.class) new ≡ class_written all_classes (write_of c)
class-is c None is = sym (ap (option_and_then (λ v. class_of all_classes (length c.key)
    (length v))) is)
class-is c (Some e) is = sym is.1 ∙ item-class c.key c.value

-- a key is kept in its last write's class, or where it was
pub entry-class : (changes : List Change) (key : List ℕ) (old new : Option Entry)
    → DifferentKeys (writes_of changes) → HasEntryAfter changes key old new
    → option_map (λ e. e.place.class) new ≡ class_or all_classes
    (last_write (writes_of changes) key) (option_map (λ e. e.place.class) old)
entry-class [] key old new differ after = ap (option_map (λ (e : Entry). e.place.class)) after
entry-class (c ∷ cs) key old new differ (inl here) = class-is c new here.1
    ∙ sym (ap (λ o. class_or all_classes o (option_map (λ (e : Entry). e.place.class) old))
    (last-here key (write_of c) (writes_of cs) here.0 differ.0))
entry-class (c ∷ cs) key old new differ (inr other) =
    entry-class cs key old new differ.1 other.1
    ∙ sym (ap (λ o. class_or all_classes o (option_map (λ (e : Entry). e.place.class) old))
    (last-other key (write_of c) (writes_of cs) (differs c.key key other.0)))

-- that there is an entry
abbrev blank : Option Entry → Option (List ℕ)
blank entry = option_map (λ _. []) entry

value-there : (c : Change) (new : Option Entry) → IsEntryAfter c new
    → is_some new ≡ is_some c.value
value-there c None is = sym (ap is_some is)
value-there c (Some e) is = by c.value refl
  where
    by : (value : Option (List ℕ)) → c.value ≡ value → true ≡ is_some value
    by None v = absurd (none-some e.place.class (sym (ap (item_class c.key) v) ∙ is.1))
    by (Some bytes) v = refl

blank-there : (entry : Option Entry) → is_some entry ≡ is_some (blank entry)
blank-there None = refl
blank-there (Some e) = refl

-- a key has an entry exactly where its last write gives it a value, or where it had one
entry-there : (changes : List Change) (key : List ℕ) (old new : Option Entry)
    → DifferentKeys (writes_of changes) → HasEntryAfter changes key old new
    → is_some new ≡ is_some (value_or (last_write (writes_of changes) key) (blank old))
entry-there [] key old new differ after = ap is_some after ∙ blank-there old
entry-there (c ∷ cs) key old new differ (inl here) = value-there c new here.1
    ∙ sym (ap (λ o. is_some (value_or o (blank old))) (last-here key (write_of c) (writes_of cs)
    here.0 differ.0))
entry-there (c ∷ cs) key old new differ (inr other) = entry-there cs key old new differ.1 other.1
    ∙ sym (ap (λ o. is_some (value_or o (blank old))) (last-other key (write_of c) (writes_of cs)
    (differs c.key key other.0)))

pub same-self : (told : Bool) (value : Option (List ℕ)) → SameValue told value value
same-self told None = tt
same-self told (Some value) = λ _. refl

-- equal values are the same, however much is told
pub same-of : (told : Bool) (a b : Option (List ℕ)) → a ≡ b → SameValue told a b
same-of told a b e = subst (SameValue told a) e (same-self told a)

same-untold : (a b : Option (List ℕ)) → is_some a ≡ is_some b → SameValue false a b
same-untold None None e = tt
same-untold None (Some b) e = absurd (true≢false (sym e))
same-untold (Some a) None e = absurd (true≢false e)
same-untold (Some a) (Some b) e = λ told. absurd (true≢false (sym told))

-- behind the changes a key has its last write's value, or what it had, as far as it is told
pub changed-value : (tells : Bool) (changes : List Change) (key : List ℕ) (a b : Answer)
    (old new : Option Entry) → DifferentKeys (writes_of changes)
    → (IsTrue tells → b ≡ answer_after changes key a) → HasEntryAfter changes key old new
    → SameValue tells (value_told tells b new)
    (value_or (last_write (writes_of changes) key) (value_told tells a old))
changed-value true changes key a b old new differ is after =
    same-of true (option_map given_value b)
    (value_or (last_write (writes_of changes) key) (option_map given_value a))
    (ap (option_map given_value) (is refl) ∙ answer-last changes key a differ)
changed-value false changes key a b old new differ is after =
    same-untold (blank new) (value_or (last_write (writes_of changes) key) (blank old))
    (sym (blank-there new) ∙ entry-there changes key old new differ after)

-- no entry has a stamp from the bound on
pub entry-below : (changes : List Change) (key : List ℕ) (old new : Option Entry) (bound : ℕ)
    → HasEntryAfter changes key old new
    → AllByRecursion (λ write. write.stamp < bound) (writes_of changes)
    → ((e : Entry) → old ≡ Some e → e.stamp < bound) → (e : Entry) → new ≡ Some e
    → e.stamp < bound
entry-below [] key old new bound after below was e is = was e (sym after ∙ is)
entry-below (c ∷ cs) key old new bound (inl here) below was e is =
    let entry = subst (IsEntryAfter c) is here.1 in
    let stamp : e.stamp ≡ c.stamp = entry.0 in
    omega (arith, stamp, below.0)
entry-below (c ∷ cs) key old new bound (inr other) below was e is =
    entry-below cs key old new bound other.1 below.1 was e is
