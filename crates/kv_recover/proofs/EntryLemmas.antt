-- Entries and the slots in which they stand; floors; links.
use Rattle.std.proofs.Common.{◌≡◌, ◌⊎◌, inl, inr, ℕ, zero, suc, ◌-◌, ◌<◌, ◌≤◌, true, eqb, nat_lt, cond}
use Rattle.std.proofs.Common.{List, [], ◌∷◌, length, get_or, slice_get, Option, None, Some, refl, sym, ap}
use Rattle.std.proofs.Common.{◌∙◌, subst, arith}
use Rattle.std.specs.List.{AllByRecursion}
use Rattle.std.specs.FinMap as finite
use Rattle.std.proofs.lemmas.Bool.{cases_lt, eqb-true, and_parts, false≢true, cond-true, lt-ltb}
use Rattle.kv_free.specs.FreeList.{link_of}
use Rattle.kv_index.specs.declared.entry.Entry.{Entry}
use Rattle.kv_index.specs.Entries.{Entries}
use Rattle.kv_model.specs.Slots.{Slot, Never, Item, Tombstone, Bad, Torn}
use Rattle.kv_model.specs.Reading.{IsFloor}
use Rattle.kv_recover.specs.Free.{is_place, is_entry}
use Rattle.kv_recover.specs.Lists.{link_at}

-- the place of an entry that is there
pub place_of : (o : Option Entry) (c s : ℕ) → is_place o c s ≡ true
    → (entry : Entry) × (o ≡ Some entry) × (entry.place.class ≡ c) × (entry.place.slot ≡ s)
place_of None c s is = absurd (false≢true is)
place_of (Some entry) c s is =
    let both = and_parts (eqb entry.place.class c) (eqb entry.place.slot s) is in
    (entry, refl, eqb-true entry.place.class c both.0, eqb-true entry.place.slot s both.1)

-- an entry's slot has an item
pub record IsEntryItem (entries : Entries) (c s : ℕ) (what : Slot) : Type 0 where
  pub stamp : ℕ
  pub key : List ℕ
  pub value : List ℕ
  pub entry : Entry
  pub is : what ≡ Item stamp key value
  pub has : finite.get entries key ≡ Some entry
  pub class_is : entry.place.class ≡ c
  pub slot_is : entry.place.slot ≡ s

pub item_of : (entries : Entries) (c s : ℕ) (what : Slot) → is_entry entries c s what ≡ true
    → IsEntryItem entries c s what
item_of entries c s (Never stamp) is = absurd (false≢true is)
item_of entries c s (Item stamp key value) is =
    let at = place_of (finite.get entries key) c s is in
    record {
      stamp = stamp;
      key = key;
      value = value;
      entry = at.0;
      is = refl;
      has = at.1;
      class_is = at.2;
      slot_is = at.3;
    }
item_of entries c s (Tombstone stamp link) is = absurd (false≢true is)
item_of entries c s (Bad stamp) is = absurd (false≢true is)
item_of entries c s (Torn stamp) is = absurd (false≢true is)

pub option_cases : (o : Option Entry) → (o ≡ None) ⊎ ((entry : Entry) × (o ≡ Some entry))
option_cases None = inl refl
option_cases (Some entry) = inr (entry, refl)

all_at : (xs : List ℕ) (b x k : ℕ) → AllByRecursion (λ n. n ≤ b) xs → k < length xs
    → get_or xs k x ≤ b
all_at [] b x k bounded within = absurd (omega arith)
all_at (y ∷ ys) b x zero bounded within = bounded.0
all_at (y ∷ ys) b x (suc k) bounded within = all_at ys b x k bounded.1 (omega arith)

floor_up : (heads : ℕ → ℕ → List ℕ) (a b : ℕ) → IsFloor heads a → IsFloor heads b → a ≤ b
floor_up heads a b first next = elim first.one [
  | inl none ↦ omega arith
  | inr some ↦ subst (λ n. n ≤ b) some.2.2
      (all_at (heads some.0 some.1) b a some.2.0 (next.above some.0 some.1) some.2.1)
]

-- there is one floor
pub one_floor : (heads : ℕ → ℕ → List ℕ) (a b : ℕ) → IsFloor heads a → IsFloor heads b → a ≡ b
one_floor heads a b first next =
    let up = floor_up heads a b first next in
    let down = floor_up heads b a next first in
    omega arith

-- the link behind a front of a list
pub same_link : (front list : List ℕ) (place : ℕ) → length front ≡ place
    → ((k : ℕ) → k < place → slice_get front k ≡ slice_get list k)
    → link_of front ≡ link_at list place
same_link front list place count same =
    ap (λ n. cond (nat_lt n 64) None (slice_get front (n - 64))) count
    ∙ elim (cases_lt place 64) as (λ _. cond (nat_lt place 64) None (slice_get front (place - 64))
    ≡ cond (nat_lt place 64) None (slice_get list (place - 64))) [
      | inl few ↦ cond-true (nat_lt place 64) None _ (lt-ltb place 64 few)
          ∙ sym (cond-true (nat_lt place 64) None _ (lt-ltb place 64 few))
      | inr many ↦ ap (λ o. cond (nat_lt place 64) None o) (same (place - 64) (omega arith))
    ]
