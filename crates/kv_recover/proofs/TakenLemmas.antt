-- A class that has as many entries as slots below its end has no free slot.
use Rattle.std.proofs.Common.{◌≡◌, inl, inr, ℕ, zero, suc, ◌+◌, ◌<◌, ◌≤◌, true, false, List, [], ◌∷◌}
use Rattle.std.proofs.Common.{◌++◌, length, get_or, Option, None, Some, not, refl, sym, ap, ◌∙◌, subst}
use Rattle.std.proofs.Common.{arith, cond, eqb, length-append, slice_get}
use Rattle.std.specs.FinMap as finite
use Rattle.std.proofs.lemmas.Bool.{cases_Bool, cases_eq, false≢true, eq-eqb, cond-true, cond-false}
use Rattle.std.specs.Cmp.Derive.{both_true}
use Rattle.kv_base.specs.Image.{Image}
use Rattle.kv_index.specs.declared.entry.Entry.{Entry}
use Rattle.kv_index.specs.Entries.{Entries}
use Rattle.kv_index.proofs.LookupLemmas.{same_or_other, get_removed, get_removed_other}
use Rattle.kv_model.specs.Reading.{Reading}
use Rattle.kv_model.specs.Slots.{Item}
use Rattle.kv_slab.specs.Memory.{items_in}
use Rattle.kv_slab.proofs.CountLemmas.{items-remove, weight}
use Rattle.kv_recover.specs.Free.{is_place, is_entry, free_slots, IsFree, reading_of, AreFullTaken}
use Rattle.kv_recover.specs.FreeLarge.{EntriesStand}
use Rattle.kv_recover.specs.Placed.{HasCounts, ArePlaced}
use Rattle.kv_recover.proofs.CountLemmas.{items_in-none}
use Rattle.kv_recover.proofs.EntryLemmas.{item_of}
use Rattle.kv_recover.proofs.FilteredLemmas.{all, get-within}
use Rattle.kv_recover.proofs.PageLemmas.{free_slots-kept, free_slots-freed}

-- an entry weighs at most one
light : (class : ℕ) (o : Option Entry) → weight class o ≤ 1
light class None = omega arith
light class (Some entry) = elim (cases_Bool (eqb entry.place.class class)) [
  | inl yes_is ↦
      let one : weight class (Some entry) ≡ 1 =
      cond-true {A = ℕ} (eqb entry.place.class class) 1 0 yes_is in
      omega arith
  | inr no_is ↦
      let none : weight class (Some entry) ≡ 0 =
      cond-false {A = ℕ} (eqb entry.place.class class) 1 0 no_is in
      omega arith
]

-- some of the entries, whose slots of the class are below a bound
pub record IsPart (entries part : Entries) (class bound : ℕ) : Type 0 where
  pub within : (key : List ℕ) (entry : Entry) → finite.get part key ≡ Some entry
      → finite.get entries key ≡ Some entry
  pub below : (key : List ℕ) (entry : Entry) → finite.get part key ≡ Some entry
      → entry.place.class ≡ class → entry.place.slot < bound

module _ (entries : Entries) (reading : Reading) (class : ℕ)
    (stand : EntriesStand entries reading) where
  -- an entry's item stands at its place
  there : (key : List ℕ) (entry : Entry) (slot : ℕ) → finite.get entries key ≡ Some entry
      → entry.place.class ≡ class → entry.place.slot ≡ slot
      → (value : List ℕ) × (reading class slot ≡ Item entry.stamp key value)
  there key entry slot has class_is slot_is =
      let item = stand key entry has in (
        item.0,
        ap (λ c. reading c slot) (sym class_is) ∙ ap (reading entry.place.class) (sym slot_is) ∙ item.1,
      )

  -- where the slot is no entry's, the part has none there
  part-free : (part : Entries) (n : ℕ) → is_entry entries class n (reading class n) ≡ false
      → IsPart entries part class (n + 1) → IsPart entries part class n
  part-free part n none is = record {
    within = is.within;
    below = λ key entry has at. elim (cases_eq entry.place.slot n) [
      | inl here ↦
          let item = there key entry n (is.within key entry has) at here in
          let place : is_place (finite.get entries key) class n ≡ true =
          ap (λ o. is_place o class n) (is.within key entry has)
          ∙ both_true (eq-eqb entry.place.class class at) (eq-eqb entry.place.slot n here) in
          absurd (false≢true (sym none ∙ ap (is_entry entries class n) item.1 ∙ place))
      | inr other ↦ let less = is.below key entry has at in omega arith
    ];
  }

  -- where it is an entry's, no other entry is there
  part-taken : (part : Entries) (n stamp : ℕ) (key value : List ℕ)
      → reading class n ≡ Item stamp key value
      → IsPart entries part class (n + 1) → IsPart entries (finite.remove part key) class n
  part-taken part n stamp key value stands is = record {
    within = λ other entry has. is.within other entry (had other entry has);
    below = λ other entry has at. elim (cases_eq entry.place.slot n) [
      | inl here ↦
          let item = there other entry n (is.within other entry (had other entry has)) at here in
          let same : key ≡ other = (let both = sym stands ∙ item.1 in cc) in
          absurd (let none : None ≡ Some entry =
          sym (get_removed part key) ∙ ap (finite.get (finite.remove part key)) same ∙ has in cc)
      | inr apart ↦ let less = is.below other entry (had other entry has) at in omega arith
    ];
  } where
    had : (other : List ℕ) (entry : Entry) → finite.get (finite.remove part key) other ≡ Some entry
        → finite.get part other ≡ Some entry
    had other entry has = elim (same_or_other other key) [
      | inl same ↦ absurd (let none : None ≡ Some entry =
          sym (get_removed part key) ∙ ap (finite.get (finite.remove part key)) (sym same) ∙ has in cc)
      | inr apart ↦ sym (get_removed_other part key other apart) ∙ has
    ]

  -- so there are no more entries and free slots than slots
  abbrev IsMost : ℕ → Type 0
  IsMost n = (part : Entries) → IsPart entries part class n
      → items_in part class + length (free_slots entries reading class n) ≤ n

  most-next : (n : ℕ) → IsMost n → IsMost (n + 1)
  most-next n before part is = elim (cases_Bool (is_entry entries class n (reading class n))) [
    | inl entry ↦
        let item = item_of entries class n (reading class n) entry in
        let rest = before (finite.remove part item.key)
        (part-taken part n item.stamp item.key item.value item.is is) in
        let gone = items-remove part item.key class in
        let one = light class (finite.get part item.key) in
        let same = ap length (free_slots-kept entries reading class n entry) in
        omega arith
    | inr none ↦
        let rest = before part (part-free part n none is) in
        let longer = ap length (free_slots-freed entries reading class n none)
        ∙ length-append (free_slots entries reading class n) (n ∷ []) in
        omega arith
  ]

  most : (n : ℕ) → IsMost n
  unfolding free_slots
  most zero part is =
      let none = items_in-none part class (λ key entry has at.
      let less = is.below key entry has at in omega arith) in
      let empty : length (free_slots entries reading class 0) ≡ 0 = refl in
      omega arith
  most (suc n) part is =
      let next : n + 1 ≡ suc n = omega arith in
      subst IsMost next (most-next n (most n)) part is

  -- a class with as many entries as slots has no free one
  pub taken : (end : ℕ) → IsPart entries entries class end → items_in entries class ≡ end
      → (slot : ℕ) → IsFree entries reading end class slot → ⊥
  unfolding free_slots
  taken end is full slot free =
      let bound = most end entries is in
      let test : not (is_entry entries class slot (reading class slot)) ≡ true = ap not free.none in
      let at = all (λ s. not (is_entry entries class s (reading class s))) end slot free.below test in
      let within = get-within (free_slots entries reading class end) slot at.0 at.1 in
      omega arith

-- the same of all classes of a disk
pub full-taken : (entries : Entries) (counts : List ℕ) (floor : ℕ) (ends : ℕ → ℕ) (first : Image)
    → HasCounts entries counts → ArePlaced entries floor ends
    → EntriesStand entries (reading_of first) → AreFullTaken entries first ends counts
full-taken entries counts floor ends first counted placed stand class low full =
    taken entries (reading_of first) class stand (ends class)
    (record {
      within = λ key entry has. has;
      below = λ key entry has at. subst (λ c. entry.place.slot < ends c) at (placed key entry has).below;
    })
    (sym (counted.count class low) ∙ full)
