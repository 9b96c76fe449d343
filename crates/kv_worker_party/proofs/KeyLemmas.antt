-- Lemmas on the keys that have an item of a class.
use Rattle.std.proofs.Common.{◌≡◌, ◌≢◌, ℕ, List, [], ◌∷◌, map, filter}
use Rattle.std.proofs.Common.{length, Option, Some, None, Bool, true, false, cond, ◌&&◌, refl, sym}
use Rattle.std.proofs.Common.{ap, subst, ◌∙◌, Contains, nat_le}
use Rattle.std.proofs.Common.{Ordering, Less, Equal, Greater, option_and_then, option_map, ◌==◌}
use Rattle.std.proofs.Common.{T}
use Rattle.std.specs.FinMap as finite
use Rattle.std.specs.FinMap.{is_sorted, find, entries_sorted, get-entries}
use Rattle.std.specs.FinMap.Entries.{below_all}
use Rattle.std.specs.List.{AllByRecursion}
use Rattle.std.specs.Ordering.{nat_cmp, is_eq, is_lt, eq_by_cmp, ordering_reverse}
use Rattle.std.specs.Cmp.{tied_itself}
use Rattle.std.specs.Cmp.Lexicographic.{slice_cmp}
use Rattle.std.specs.Str.{bytes_eq}
use Rattle.std.proofs.lemmas.Bool.{and_parts, eqb-true}
use Rattle.std.proofs.lemmas.Cmp.{nat_list_cmp_total}
use Rattle.std.proofs.lemmas.List.{length-map}
use Rattle.std.proofs.lemmas.List.Sums.{length-filter}
use Rattle.std.proofs.lemmas.Slice.Eq.{bytes_eq-Decides}
use Rattle.kv_index.specs.Entries.{Entries}
use Rattle.kv_index.specs.declared.entry.Entry.{Entry}
use Rattle.kv_model.proofs.ContainsLemmas.{Contains-first, Contains-behind}
use Rattle.kv_model.specs.History.{Write, latest, later_of, value_at}
use Rattle.kv_model.specs.Items.{class_with}
use Rattle.kv_model.specs.Layout.{all_classes}
use Rattle.kv_model.specs.Batch.{class_written}
use Rattle.kv_model.specs.Pairwise.{Pairwise}
use Rattle.kv_slab.specs.Memory.{items_in}
use Rattle.kv_worker_party.proofs.ListLemmas.{same-some, none-some}

abbrev order : List ℕ → List ℕ → Ordering
order = slice_cmp nat_cmp

abbrev KeyEntry : Type 0
KeyEntry = List ℕ × Entry

less-is : (o : Ordering) → T (is_lt o) → o ≡ Less
less-is Less h = refl
less-is Equal h = absurd h
less-is Greater h = absurd h

first-part : (a b : Bool) → T (a && b) → T a
first-part true b h = tt
first-part false b h = h

second-part : (a b : Bool) → T (a && b) → T b
second-part true b h = h
second-part false b h = absurd h

-- a key that is less is another
less-differs : (a b : List ℕ) → order a b ≡ Less → a ≢ b
less-differs a b less e =
    none (sym (tied_itself nat_list_cmp_total a) ∙ ap (order a) e ∙ less)
  where
    none : Equal ≡ Less → ⊥
    none h = cc

-- a key behind the first isn't found there
passes-first : (a b : List ℕ) → order a b ≡ Less → eq_by_cmp order b a ≡ false
passes-first a b less =
    ap is_eq (nat_list_cmp_total.antisymm b a ∙ ap ordering_reverse less)

-- each entry of a sorted list is found
found-each : (es : List KeyEntry) → T (is_sorted order es)
    → AllByRecursion (λ e. find order e.0 es ≡ Some e.1) es
found-each [] sorted = tt
found-each (e ∷ es) sorted = (
  ap (λ r. cond (is_eq r) (Some e.1) (find order e.0 es)) (tied_itself nat_list_cmp_total e.0),
  later-found es (first-part (below_all order e.0 es) (is_sorted order es) sorted)
      (found-each es (second-part (below_all order e.0 es) (is_sorted order es) sorted)),
) where
  later-found : (others : List KeyEntry) → T (below_all order e.0 others)
      → AllByRecursion (λ o. find order o.0 es ≡ Some o.1) others
      → AllByRecursion (λ o. find order o.0 (e ∷ es) ≡ Some o.1) others
  later-found [] below all = tt
  later-found (o ∷ others) below all = (
    ap (λ b. cond b (Some e.1) (find order o.0 es)) (passes-first e.0 o.0 (less-is (order e.0 o.0)
        (first-part (is_lt (order e.0 o.0)) (below_all order e.0 others) below))) ∙ all.0,
    later-found others (second-part (is_lt (order e.0 o.0)) (below_all order e.0 others) below)
        all.1,
  )

-- the entries of the class
abbrev of_class : ℕ → KeyEntry → Bool
of_class class pair = pair.1.place.class == class

abbrev pub keys_in : ℕ → List KeyEntry → List (List ℕ)
keys_in class es = map (λ pair. pair.0) (filter (of_class class) es)

keys-all : (P : List ℕ → Type 0) (class : ℕ) (es : List KeyEntry)
    → AllByRecursion (λ e. of_class class e ≡ true → P e.0) es
    → AllByRecursion P (keys_in class es)
keys-all P class [] all = tt
keys-all P class (e ∷ es) all = by (of_class class e) refl (keys-all P class es all.1)
  where
    by : (b : Bool) → of_class class e ≡ b → AllByRecursion P (keys_in class es)
        → AllByRecursion P (map (λ (pair : KeyEntry). pair.0) (cond b (e ∷ filter (of_class class)
        es) (filter (of_class class) es)))
    by true is rest = (all.0 is, rest)
    by false is rest = rest

keys-differ : (class : ℕ) (es : List KeyEntry) → T (is_sorted order es)
    → Pairwise (λ key other. key ≢ other) (keys_in class es)
keys-differ class [] sorted = tt
keys-differ class (e ∷ es) sorted = by (of_class class e)
    (keys-all (λ other. e.0 ≢ other) class es (others es
    (first-part (below_all order e.0 es) (is_sorted order es) sorted)))
    (keys-differ class es (second-part (below_all order e.0 es) (is_sorted order es) sorted))
  where
    others : (more : List KeyEntry) → T (below_all order e.0 more)
        → AllByRecursion (λ o. of_class class o ≡ true → e.0 ≢ o.0) more
    others [] below = tt
    others (o ∷ more) below = (
      λ is. less-differs e.0 o.0 (less-is (order e.0 o.0)
          (first-part (is_lt (order e.0 o.0)) (below_all order e.0 more) below)),
      others more (second-part (is_lt (order e.0 o.0)) (below_all order e.0 more) below),
    )

    by : (b : Bool) → AllByRecursion (λ other. e.0 ≢ other) (keys_in class es)
        → Pairwise (λ key other. key ≢ other) (keys_in class es)
        → Pairwise (λ key other. key ≢ other) (map (λ (pair : KeyEntry). pair.0)
        (cond b (e ∷ filter (of_class class) es) (filter (of_class class) es)))
    by true here rest = (here, rest)
    by false here rest = rest

-- the keys whose entries have the class
pub record ItemKeys (entries : Entries) (class : ℕ) : Type 0 where
  pub keys : List (List ℕ)
  pub apart : Pairwise (λ key other. key ≢ other) keys
  pub many : items_in entries class ≡ length keys
  pub each : AllByRecursion (λ key. option_map (λ entry. entry.place.class) (finite.get entries key)
      ≡ Some class) keys

pub item-keys : (entries : Entries) (class : ℕ) → ItemKeys entries class
item-keys entries class = record {
  keys = keys_in class es;
  apart = keys-differ class es (entries_sorted entries);
  many = sym (length-map (filter (of_class class) es) (λ (pair : KeyEntry). pair.0)
      ∙ length-filter (of_class class) es);
  each = keys-all (λ key. option_map (λ entry. entry.place.class) (finite.get entries key)
      ≡ Some class) class es (named es (found-each es (entries_sorted entries)));
} where
  es : List KeyEntry
  es = finite.entries entries

  named : (some : List KeyEntry) → AllByRecursion (λ e. find order e.0 es ≡ Some e.1) some
      → AllByRecursion (λ e. of_class class e ≡ true → option_map (λ entry. entry.place.class)
      (finite.get entries e.0) ≡ Some class) some
  named [] all = tt
  named (e ∷ some) all = (
    λ is. ap (option_map (λ entry. entry.place.class)) (get-entries entries e.0 ∙ all.0)
        ∙ ap (λ n. Some n) (eqb-true e.1.place.class class is),
    named some all.1,
  )

-- a key with an item of the class was written with one
abbrev pub HasWrite : ℕ → List Write → List ℕ → Type 0
HasWrite class history key = (write : Write) × Contains history write × (write.key ≡ key)
    × (class_written all_classes write ≡ Some class)

-- the latest write is one of them, of the key
latest-in : (history : List Write) (stamp : ℕ) (key : List ℕ) (write : Write)
    → latest history stamp key ≡ Some write → Contains history write × (write.key ≡ key)
latest-in [] stamp key write is = absurd (none-some write is)
latest-in (first ∷ history) stamp key write is =
    by (bytes_eq first.key key && nat_le first.stamp stamp) refl is (latest history stamp key) refl
    (λ other later. latest-in history stamp key other later)
  where
    own : (bytes_eq first.key key && nat_le first.stamp stamp) ≡ true → first.key ≡ key
    own e = (bytes_eq-Decides first.key key).0
        (and_parts (bytes_eq first.key key) (nat_le first.stamp stamp) e).0

    here : first.key ≡ key → first ≡ write → Contains (first ∷ history) write × (write.key ≡ key)
    here same e = subst (λ w. Contains (first ∷ history) w × (w.key ≡ key)) e
        (Contains-first first history, same)

    by : (b : Bool) → (bytes_eq first.key key && nat_le first.stamp stamp) ≡ b
        → cond b (Some (later_of first (latest history stamp key))) (latest history stamp key)
        ≡ Some write → (o : Option Write) → latest history stamp key ≡ o
        → ((other : Write) → latest history stamp key ≡ Some other
        → Contains history other × (other.key ≡ key))
        → Contains (first ∷ history) write × (write.key ≡ key)
    by true e is None none more = here (own e)
        (same-some first write (sym (ap (λ o. Some (later_of first o)) none) ∙ is))
    by true e is (Some other) some more = which (nat_le other.stamp first.stamp)
        (same-some (cond (nat_le other.stamp first.stamp) first other) write
        (sym (ap (λ o. Some (later_of first o)) some) ∙ is)) (more other some)
      where
        which : (b : Bool) → cond b first other ≡ write
            → Contains history other × (other.key ≡ key)
            → Contains (first ∷ history) write × (write.key ≡ key)
        which true f found = here (own e) f
        which false f found = subst (λ w. Contains (first ∷ history) w × (w.key ≡ key)) f
            (Contains-behind first history other found.0, found.1)
    by false e is o some more =
        let found = more write is in
        (Contains-behind first history write found.0, found.1)

pub class-write : (class : ℕ) (history : List Write) (stamp : ℕ) (key : List ℕ)
    → class_with all_classes key (value_at history stamp key) ≡ Some class
    → HasWrite class history key
class-write class history stamp key is = by (latest history stamp key) refl is
  where
    by : (o : Option Write) → latest history stamp key ≡ o
        → class_with all_classes key (option_and_then (λ w. w.value) o) ≡ Some class
        → HasWrite class history key
    by None e is = absurd (none-some class is)
    by (Some write) e is =
        let found = latest-in history stamp key write e in (
          write,
          found.0,
          found.1,
          ap (λ k. class_with all_classes k write.value) found.1 ∙ is,
        )
