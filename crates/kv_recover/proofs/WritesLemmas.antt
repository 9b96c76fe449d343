-- The entries of an index as writes, and what a key has by them.
use Rattle.std.proofs.Common.{◌≡◌, ◌≢◌, ◌⊎◌, inl, inr, ℕ, ◌≤◌, T, Bool, true, false, cond, ◌&&◌, nat_le}
use Rattle.std.proofs.Common.{List, [], ◌∷◌, map, Option, None, Some, Contains, is_some, option_map}
use Rattle.std.proofs.Common.{option_and_then, refl, sym, ap, ◌∙◌, subst, arith, le-leb}
use Rattle.std.specs.Cmp.{tied_itself}
use Rattle.std.specs.Cmp.Lexicographic.{slice_cmp}
use Rattle.std.specs.FinMap as finite
use Rattle.std.specs.FinMap.{find, is_sorted, get-entries, entries_sorted}
use Rattle.std.specs.FinMap.{slice_cmp-IsAntisymmetric, nat_cmp-IsAntisymmetric}
use Rattle.std.specs.FinMap.Entries.{below_all}
use Rattle.std.specs.List.{AllByRecursion}
use Rattle.std.specs.Ordering.{nat_cmp, is_lt, is_eq, eq_by_cmp}
use Rattle.std.specs.Str.{bytes_eq}
use Rattle.std.specs.declared.cmp.Ordering.{Ordering}
use Rattle.std.specs.declared.cmp.Ordering.TheVariants.{Less, Equal, Greater}
use Rattle.std.proofs.lemmas.Bool.{cases_Bool, cond-true, cond-false, false≢true}
use Rattle.std.proofs.lemmas.Cmp.{nat_list_cmp_total}
use Rattle.kv_index.specs.declared.entry.Entry.{Entry}
use Rattle.kv_index.specs.Entries.{Entries}
use Rattle.kv_model.specs.History.{Write, latest, later_of, value_at}
use Rattle.kv_model.specs.Pairwise.{Pairwise}
use Rattle.kv_model.specs.Reading.{Reading}
use Rattle.kv_model.specs.Slots.{Slot, Never, Item, Tombstone, Bad, Torn}
use Rattle.kv_model.proofs.ContainsLemmas.{Contains-cons, Contains-first, Contains-behind, All-members}
use Rattle.kv_slab.proofs.StepLemmas.{one_key}

abbrev order : List ℕ → List ℕ → Ordering
order = slice_cmp nat_cmp

abbrev Pairs : Type 0
Pairs = List (List ℕ × Entry)

-- the value of an item, and the empty one of anything else
abbrev pub value_in : Slot → List ℕ
value_in (Never stamp) = []
value_in (Item stamp key value) = value
value_in (Tombstone stamp link) = []
value_in (Bad stamp) = []
value_in (Torn stamp) = []

-- a key and its entry, with the value that stands in its place, as a write
abbrev pub write_of : Reading → List ℕ × Entry → Write
write_of reading pair = record {
  stamp = pair.1.stamp;
  key = pair.0;
  value = Some (value_in (reading pair.1.place.class pair.1.place.slot));
}

abbrev pub writes_of : Reading → List (List ℕ × Entry) → List Write
writes_of reading pairs = map (write_of reading) pairs

parts : (a b : Bool) → T (a && b) → T a × T b
parts true b both = (tt, both)
parts false b both = absurd both

less : (o : Ordering) → T (is_lt o) → o ≡ Less
less Less is = refl
less Equal is = absurd is
less Greater is = absurd is

equal : (o : Ordering) → is_eq o ≡ true → o ≡ Equal
equal Less is = absurd (false≢true is)
equal Equal is = refl
equal Greater is = absurd (false≢true is)

-- keys compare alike just where they are one
alike : (a b : List ℕ) → ((eq_by_cmp order a b ≡ true) × (a ≡ b))
    ⊎ ((eq_by_cmp order a b ≡ false) × (a ≡ b → ⊥))
alike a b = elim (cases_Bool (eq_by_cmp order a b)) [
  | inl yes_alike ↦ inl (
    yes_alike,
    slice_cmp-IsAntisymmetric nat_cmp-IsAntisymmetric a b (equal (order a b) yes_alike),
  )
  | inr differ ↦ inr (
    differ,
    λ same. false≢true (sym differ ∙ ap (eq_by_cmp order a) (sym same)
        ∙ ap is_eq (tied_itself nat_list_cmp_total a)),
  )
]

-- a key that is before all keys of a list isn't among them
none_below : (key : List ℕ) (pairs : Pairs) → T (below_all order key pairs)
    → find order key pairs ≡ None
none_below key [] below = refl
none_below key (pair ∷ pairs) below =
    let both = parts (is_lt (order key pair.0)) (below_all order key pairs) below in
    ap (λ o. cond (is_eq o) (Some pair.1) (find order key pairs)) (less (order key pair.0) both.0)
    ∙ none_below key pairs both.1

module _ (reading : Reading) where
  -- a write is that of an entry
  pub writes-found : (pairs : Pairs) → T (is_sorted order pairs) → (write : Write)
      → Contains (writes_of reading pairs) write → (entry : Entry)
      × (find order write.key pairs ≡ Some entry) × (write ≡ write_of reading (write.key, entry))
  writes-found [] sorted write has = absurd (omega (arith, has.1))
  writes-found (pair ∷ pairs) sorted write has =
      let both = parts (below_all order pair.0 pairs) (is_sorted order pairs) sorted in
      elim (Contains-cons (write_of reading pair) (writes_of reading pairs) write has) [
        | inl here ↦
            let key : pair.0 ≡ write.key = ap (λ w. w.key) here in (
              pair.1,
              cond-true (eq_by_cmp order write.key pair.0) _ _
                  (ap (λ k. eq_by_cmp order k pair.0) (sym key)
                  ∙ ap is_eq (tied_itself nat_list_cmp_total pair.0)),
              sym here ∙ ap (λ k. write_of reading (k, pair.1)) key,
            )
        | inr behind ↦
            let rest = writes-found pairs both.1 write behind in (
              rest.0,
              elim (alike write.key pair.0) [
                | inl same ↦ absurd (let none = none_below pair.0 pairs both.0 in
                    let found = subst (λ k. find order k pairs ≡ Some rest.0) same.1 rest.1 in cc)
                | inr other ↦ cond-false (eq_by_cmp order write.key pair.0) _ _ other.0 ∙ rest.1
              ],
              rest.2,
            )
      ]

  -- and each entry has its write
  pub found-writes : (pairs : Pairs) (key : List ℕ) (entry : Entry)
      → find order key pairs ≡ Some entry
      → Contains (writes_of reading pairs) (write_of reading (key, entry))
  found-writes [] key entry found = absurd (cc)
  found-writes (pair ∷ pairs) key entry found = elim (alike key pair.0) [
    | inl same ↦
        let is : Some pair.1 ≡ Some entry =
        sym (cond-true (eq_by_cmp order key pair.0) _ _ same.0) ∙ found in
        let entry_is : pair.1 ≡ entry = cc in
        let write_is : write_of reading pair ≡ write_of reading (key, entry) =
        ap (λ k. write_of reading (k, pair.1)) (sym same.1)
        ∙ ap (λ e. write_of reading (key, e)) entry_is in
        subst (Contains (writes_of reading (pair ∷ pairs))) write_is
        (Contains-first (write_of reading pair) (writes_of reading pairs))
    | inr other ↦ Contains-behind (write_of reading pair) (writes_of reading pairs)
        (write_of reading (key, entry)) (found-writes pairs key entry
        (sym (cond-false (eq_by_cmp order key pair.0) _ _ other.0) ∙ found))
  ]

  -- keys differ
  differ-below : (key : List ℕ) (pairs : Pairs) → T (below_all order key pairs)
      → AllByRecursion (λ other. key ≢ other.key) (writes_of reading pairs)
  differ-below key [] below = tt
  differ-below key (pair ∷ pairs) below =
      let both = parts (is_lt (order key pair.0)) (below_all order key pairs) below in (
        λ same. let is_less = less (order key pair.0) both.0 in
            let is_equal = ap (order key) (sym same) ∙ tied_itself nat_list_cmp_total key in cc,
        differ-below key pairs both.1,
      )

  pub writes-distinct : (pairs : Pairs) → T (is_sorted order pairs)
      → Pairwise (λ write other. write.key ≢ other.key) (writes_of reading pairs)
  writes-distinct [] sorted = tt
  writes-distinct (pair ∷ pairs) sorted =
      let both = parts (below_all order pair.0 pairs) (is_sorted order pairs) sorted in
      (differ-below pair.0 pairs both.0, writes-distinct pairs both.1)

  -- the latest write of a key is its entry's
  latest-found : (pairs : Pairs) (floor : ℕ) (key : List ℕ) → T (is_sorted order pairs)
      → AllByRecursion (λ write. write.stamp ≤ floor) (writes_of reading pairs)
      → latest (writes_of reading pairs) floor key
      ≡ option_map (λ entry. write_of reading (key, entry)) (find order key pairs)
  latest-found [] floor key sorted low = refl
  latest-found (pair ∷ pairs) floor key sorted low =
      let both = parts (below_all order pair.0 pairs) (is_sorted order pairs) sorted in
      let rest = latest (writes_of reading pairs) floor key in
      let so_far = latest-found pairs floor key both.1 low.1 in
      let write = write_of reading pair in
      elim (alike key pair.0) [
        | inl same ↦
            let none : find order key pairs ≡ None =
            subst (λ k. find order k pairs ≡ None) (sym same.1) (none_below pair.0 pairs both.0) in
            let test : bytes_eq pair.0 key && nat_le pair.1.stamp floor ≡ true =
            elim (one_key pair.0 key) [
              | inl one ↦ ap (λ b. b && nat_le pair.1.stamp floor) one.0
                  ∙ le-leb pair.1.stamp floor low.0
              | inr other ↦ absurd (other.1 (sym same.1))
            ] in
            cond-true (bytes_eq pair.0 key && nat_le pair.1.stamp floor) (Some (later_of write rest))
            rest test
            ∙ ap (λ (o : Option Write). Some (later_of write o))
            (so_far ∙ ap (option_map (λ entry. write_of reading (key, entry))) none)
            ∙ ap (λ k. Some (write_of reading (k, pair.1))) (sym same.1)
            ∙ sym (ap (option_map (λ entry. write_of reading (key, entry)))
            (cond-true (eq_by_cmp order key pair.0) (Some pair.1) (find order key pairs) same.0))
        | inr other ↦
            let test : bytes_eq pair.0 key && nat_le pair.1.stamp floor ≡ false =
            elim (one_key pair.0 key) [
              | inl one ↦ absurd (other.1 (sym one.1))
              | inr differ ↦ ap (λ b. b && nat_le pair.1.stamp floor) differ.0
            ] in
            cond-false (bytes_eq pair.0 key && nat_le pair.1.stamp floor)
            (Some (later_of write rest)) rest test
            ∙ so_far ∙ sym (ap (option_map (λ entry. write_of reading (key, entry)))
            (cond-false (eq_by_cmp order key pair.0) (Some pair.1) (find order key pairs) other.0))
      ]

  module _ (entries : Entries) (floor : ℕ)
      (low : (key : List ℕ) (entry : Entry) → finite.get entries key ≡ Some entry
      → entry.stamp ≤ floor) where
    pub entry-of : (write : Write) → Contains (writes_of reading (finite.entries entries)) write
        → (entry : Entry) × (finite.get entries write.key ≡ Some entry)
        × (write ≡ write_of reading (write.key, entry))
    entry-of write has =
        let one = writes-found (finite.entries entries) (entries_sorted entries) write has in
        (one.0, get-entries entries write.key ∙ one.1, one.2)

    pub write-of : (key : List ℕ) (entry : Entry) → finite.get entries key ≡ Some entry
        → Contains (writes_of reading (finite.entries entries)) (write_of reading (key, entry))
    write-of key entry has = found-writes (finite.entries entries) key entry
        (sym (get-entries entries key) ∙ has)

    pub all-low : AllByRecursion (λ write. write.stamp ≤ floor)
        (writes_of reading (finite.entries entries))
    all-low = All-members (λ write. write.stamp ≤ floor)
        (writes_of reading (finite.entries entries))
        (λ write has.
        let one = entry-of write has in
        let stamp : write.stamp ≡ one.0.stamp = ap (λ w. w.stamp) one.2 in
        let below = low write.key one.0 one.1 in omega arith)

    -- what a key has is what stands in its entry's place
    pub value-is : (key : List ℕ)
        → value_at (writes_of reading (finite.entries entries)) floor key
        ≡ option_map (λ entry. value_in (reading entry.place.class entry.place.slot))
        (finite.get entries key)
    value-is key =
        ap (option_and_then (λ write. write.value)) (latest-found (finite.entries entries) floor key
        (entries_sorted entries) all-low
        ∙ ap (option_map (λ entry. write_of reading (key, entry))) (sym (get-entries entries key)))
        ∙ of_entry (finite.get entries key)
      where
        of_entry : (o : Option Entry) → option_and_then (λ (write : Write). write.value)
            (option_map (λ entry. write_of reading (key, entry)) o)
            ≡ option_map (λ entry. value_in (reading entry.place.class entry.place.slot)) o
        of_entry None = refl
        of_entry (Some entry) = refl

    pub keys-are : (key : List ℕ)
        → is_some (value_at (writes_of reading (finite.entries entries)) floor key)
        ≡ is_some (finite.get entries key)
    keys-are key = ap is_some (value-is key) ∙ of_entry (finite.get entries key)
      where
        of_entry : (o : Option Entry) → is_some (option_map (λ (entry : Entry).
            value_in (reading entry.place.class entry.place.slot)) o) ≡ is_some o
        of_entry None = refl
        of_entry (Some entry) = refl
