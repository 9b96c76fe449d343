-- Where the entries of an index are, once one more slot or one more class is seen.
use Rattle.std.proofs.Common.{◌≡◌, inl, inr, ℕ, ◌+◌, ◌<◌, ◌≤◌, Bool, true, false, cond, eqb, List}
use Rattle.std.proofs.Common.{length, get_or, set, None, Some, refl, sym, ap, ◌∙◌, subst}
use Rattle.std.proofs.Common.{arith, get_or-set_same, get_or-set_other}
use Rattle.std.specs.FinMap as finite
use Rattle.std.specs.Ordering.{nat_cmp}
use Rattle.std.specs.Cmp.Lexicographic.{slice_cmp}
use Rattle.std.proofs.lemmas.Bool.{cases_Bool, cases_eq, cond-true, cond-false, eq-eqb, ne_eqb}
use Rattle.kv_base.specs.Image.{zero_page}
use Rattle.kv_base.specs.Partition.{owner_of}
use Rattle.kv_index.specs.declared.entry.Entry.{Entry}
use Rattle.kv_index.specs.Entries.{Entries}
use Rattle.kv_model.specs.Layout.{all_classes}
use Rattle.kv_model.specs.Slots.{Slot, Never, Item, Tombstone, Bad, Torn, stamp_of_slot, read_small}
use Rattle.kv_model.specs.Slots.{stamp_field}
use Rattle.kv_slot.specs.Views.{read_front}
use Rattle.kv_recover.specs.Found.{entry_at, is_older, with_newer, with_slot}
use Rattle.kv_recover.specs.Large.{slot_from}
use Rattle.kv_recover.specs.Pass.{IsZeros}
use Rattle.kv_recover.specs.Placed.{IsPlaced, ArePlaced, with_end}
use Rattle.kv_recover.proofs.FoundLemmas.{get_put}
use Rattle.kv_recover.proofs.PassLemmas.{stamp_of-small}
use Rattle.kv_recover.proofs.SlabLemmas.{read_zeros}

-- the end of the class itself
end-here : (ends : ℕ → ℕ) (class end c : ℕ) → c ≡ class → with_end ends class end c ≡ end
end-here ends class end c same = cond-true (eqb c class) end (ends c) (eq-eqb c class same)

-- the end of another class
end-other : (ends : ℕ → ℕ) (class end c : ℕ) → (c ≡ class → ⊥) → with_end ends class end c ≡ ends c
end-other ends class end c other = cond-false (eqb c class) end (ends c) (ne_eqb c class other)

-- a floor and an end that go up
entry_up : (entry : Entry) (floor now class end last : ℕ) (ends : ℕ → ℕ) → floor ≤ now → end ≤ last
    → IsPlaced floor (with_end ends class end) entry
    → IsPlaced now (with_end ends class last) entry
entry_up entry floor now class end last ends floor_up end_up is = record {
  low = is.low;
  high = is.high;
  below = elim (cases_eq entry.place.class class) [
    | inl same ↦
        let was = end-here ends class end entry.place.class same in
        let will = end-here ends class last entry.place.class same in
        let below = is.below in
        omega arith
    | inr other ↦
        let was = end-other ends class end entry.place.class other in
        let will = end-other ends class last entry.place.class other in
        let below = is.below in
        omega arith
  ];
  stamp = let stamp = is.stamp in omega arith;
}

module _ (worker workers class slot floor now end last : ℕ) (ends : ℕ → ℕ) (low : 1 ≤ class)
    (high : class ≤ 11) (floor_up : floor ≤ now) (end_up : end ≤ last) where
  -- no entry is new
  same_entries : (entries : Entries) → ArePlaced entries floor (with_end ends class end)
      → ArePlaced entries now (with_end ends class last)
  same_entries entries placed key entry has =
      entry_up entry floor now class end last ends floor_up end_up (placed key entry has)

  -- an item of the slot may be
  newer_entry : (entries : Entries) (key : List ℕ) (stamp : ℕ) → stamp ≤ now → last ≡ slot + 1
      → ArePlaced entries floor (with_end ends class end)
      → ArePlaced (with_newer entries key (entry_at class slot stamp)) now
      (with_end ends class last)
  newer_entry entries key stamp fits behind placed other entry has =
      let new = entry_at class slot stamp in
      let older = is_older (finite.get entries key) stamp in
      elim (cases_Bool older) [
        | inl yes_is ↦
            let map_is : with_newer entries key new ≡ finite.insert entries key new =
            cond-true older (finite.insert entries key new) entries yes_is in
            elim (get_put entries key new other) [
              | inl same ↦
                  let at : Some entry ≡ Some new =
                  sym (sym (ap (λ m. finite.get m other) map_is) ∙ has) ∙ same.1 in
                  let same_entry : entry ≡ new = cc in
                  subst (IsPlaced now (with_end ends class last)) (sym same_entry) (record {
                    low = low;
                    high = high;
                    below = let here = end-here ends class last class refl in omega arith;
                    stamp = fits;
                  })
              | inr differ ↦ same_entries entries placed other entry
                  (sym differ.1 ∙ sym (ap (λ m. finite.get m other) map_is) ∙ has)
            ]
        | inr no_is ↦ same_entries entries placed other entry
            (sym (ap (λ m. finite.get m other)
            (cond-false older (finite.insert entries key new) entries no_is)) ∙ has)
      ]

  -- one slot more
  pub placed-slot : (entries : Entries) (what : Slot) → stamp_of_slot what ≤ now
      → ((stamp : ℕ) (key value : List ℕ) → what ≡ Item stamp key value → last ≡ slot + 1)
      → ArePlaced entries floor (with_end ends class end)
      → ArePlaced (with_slot entries worker workers class slot what) now (with_end ends class last)
  placed-slot entries (Never stamp) fits behind placed = same_entries entries placed
  placed-slot entries (Item stamp key value) fits behind placed =
      elim (cases_Bool (eqb (owner_of key workers) worker)) [
        | inl own ↦ subst (λ m. ArePlaced m now (with_end ends class last))
            (sym (cond-true (eqb (owner_of key workers) worker)
            (with_newer entries key (entry_at class slot stamp)) entries own))
            (newer_entry entries key stamp fits (behind stamp key value refl) placed)
        | inr foreign ↦ subst (λ m. ArePlaced m now (with_end ends class last))
            (sym (cond-false (eqb (owner_of key workers) worker)
            (with_newer entries key (entry_at class slot stamp)) entries foreign))
            (same_entries entries placed)
      ]
  placed-slot entries (Tombstone stamp link) fits behind placed = same_entries entries placed
  placed-slot entries (Bad stamp) fits behind placed = same_entries entries placed
  placed-slot entries (Torn stamp) fits behind placed = same_entries entries placed

-- the end once a slot is seen
end_seen : (zeros : Bool) (end slot last : ℕ) → end ≤ slot → last ≡ cond zeros end (slot + 1)
    → end ≤ last
end_seen zeros end slot last behind is = elim (cases_Bool zeros) [
  | inl all ↦ let same = is ∙ cond-true zeros end (slot + 1) all in omega arith
  | inr some ↦ let same = is ∙ cond-false zeros end (slot + 1) some in omega arith
]

-- a small slot is seen
pub placed-small : (worker workers class slot floor now end last : ℕ) (ends : ℕ → ℕ)
    (entries later : Entries) (bytes : List ℕ) (what : Slot) (zeros : Bool) → 1 ≤ class
    → class ≤ 11 → floor ≤ now → end ≤ slot → stamp_of_slot what ≤ now
    → what ≡ read_small all_classes class bytes → (zeros ≡ true → IsZeros bytes)
    → last ≡ cond zeros end (slot + 1)
    → later ≡ with_slot entries worker workers class slot what
    → ArePlaced entries floor (with_end ends class end)
    → ArePlaced later now (with_end ends class last)
placed-small worker workers class slot floor now end last ends entries later bytes what zeros low
    high floor_up behind fits what_is zeros_are last_is later_is placed =
    subst (λ m. ArePlaced m now (with_end ends class last)) (sym later_is)
    (placed-slot worker workers class slot floor now end last ends low high floor_up
    (end_seen zeros end slot last behind last_is) entries what fits
    (λ stamp key value item. elim (cases_Bool zeros) [
      | inl all ↦
          let never = read_zeros class bytes
          (record { count = length bytes; is = zeros_are all }) in
          absurd (let both : Never 0 ≡ Item stamp key value = sym never ∙ sym what_is ∙ item in cc)
      | inr some ↦ last_is ∙ cond-false zeros end (slot + 1) some
    ]) placed)

-- what a first page says, read as a small slot
front_small : (class : ℕ) (page : List ℕ) → read_front class page ≡ read_small all_classes class page
unfolding read_small
front_small class page = refl

-- the stamp that it says
front_stamp : (class : ℕ) (page : List ℕ) → stamp_of_slot (read_front class page) ≡ stamp_field page
front_stamp class page = ap stamp_of_slot (front_small class page) ∙ stamp_of-small class page

-- a page of zeros says nothing
zero_front : (class : ℕ) (page : List ℕ) → page ≡ zero_page → read_front class page ≡ Never 0
unfolding zero_page
zero_front class page zeros = front_small class page
    ∙ read_zeros class page (record { count = 4096; is = zeros })

-- the stamp of a slot is that of its first page
from_stamp : (front : Slot) (whole : Bool) (value : List ℕ)
    → stamp_of_slot (slot_from front whole value) ≡ stamp_of_slot front
from_stamp (Never stamp) whole value = refl
from_stamp (Item stamp key front) true value = refl
from_stamp (Item stamp key front) false value = refl
from_stamp (Tombstone stamp link) whole value = refl
from_stamp (Bad stamp) whole value = refl
from_stamp (Torn stamp) whole value = refl

-- a large slot is seen
pub placed-large : (worker workers class slot floor now end last : ℕ) (ends : ℕ → ℕ)
    (entries later : Entries) (page value : List ℕ) (whole zeros : Bool) → 1 ≤ class
    → class ≤ 11 → floor ≤ now → end ≤ slot → stamp_field page ≤ now
    → (zeros ≡ true → page ≡ zero_page) → last ≡ cond zeros end (slot + 1)
    → later ≡ with_slot entries worker workers class slot
    (slot_from (read_front class page) whole value)
    → ArePlaced entries floor (with_end ends class end)
    → ArePlaced later now (with_end ends class last)
placed-large worker workers class slot floor now end last ends entries later page value whole zeros
    low high floor_up behind fits zeros_are last_is later_is placed =
    let what = slot_from (read_front class page) whole value in
    let stamp_is : stamp_of_slot what ≡ stamp_field page =
    from_stamp (read_front class page) whole value ∙ front_stamp class page in
    subst (λ m. ArePlaced m now (with_end ends class last)) (sym later_is)
    (placed-slot worker workers class slot floor now end last ends low high floor_up
    (end_seen zeros end slot last behind last_is) entries what (omega arith)
    (λ stamp key it item. elim (cases_Bool zeros) [
      | inl all ↦
          let never : what ≡ Never 0 = ap (λ s. slot_from s whole value)
          (zero_front class page (zeros_are all)) in
          absurd (let both : Never 0 ≡ Item stamp key it = sym never ∙ item in cc)
      | inr some ↦ last_is ∙ cond-false zeros end (slot + 1) some
    ]) placed)

-- no entry is placed anywhere
pub placed-none : (entries : Entries) (floor : ℕ) (ends : ℕ → ℕ) → entries ≡ finite.empty
    → ArePlaced entries floor ends
placed-none entries floor ends none key entry has =
    absurd (let nothing : None ≡ Some entry = sym (finite.get-empty {X = Entry} (slice_cmp nat_cmp) key)
    ∙ sym (ap (λ m. finite.get m key) none) ∙ has in cc)

-- ends that are the same one by one
same_ends : (entries : Entries) (floor : ℕ) (ends other : ℕ → ℕ) → ((c : ℕ) → ends c ≡ other c)
    → ArePlaced entries floor ends → ArePlaced entries floor other
same_ends entries floor ends other same placed key entry has =
    let is = placed key entry has in
    record {
      low = is.low;
      high = is.high;
      below = let at = same entry.place.class in let below = is.below in omega arith;
      stamp = is.stamp;
    }

-- a class begins with no end
pub placed-begin : (entries : Entries) (floor class : ℕ) (ends : List ℕ) → get_or ends class 0 ≡ 0
    → ArePlaced entries floor (λ c. get_or ends c 0)
    → ArePlaced entries floor (with_end (λ c. get_or ends c 0) class 0)
placed-begin entries floor class ends none placed =
    same_ends entries floor (λ c. get_or ends c 0) (with_end (λ c. get_or ends c 0) class 0)
    (λ c. elim (cases_eq c class) [
      | inl same ↦ ap (λ x. get_or ends x 0) same ∙ none
          ∙ sym (end-here (λ x. get_or ends x 0) class 0 c same)
      | inr other ↦ sym (end-other (λ x. get_or ends x 0) class 0 c other)
    ]) placed

-- and its end is set
pub placed-end : (entries : Entries) (floor class end : ℕ) (ends : List ℕ) → class < length ends
    → ArePlaced entries floor (with_end (λ c. get_or ends c 0) class end)
    → ArePlaced entries floor (λ c. get_or (set ends class end) c 0)
placed-end entries floor class end ends within placed =
    same_ends entries floor (with_end (λ c. get_or ends c 0) class end)
    (λ c. get_or (set ends class end) c 0)
    (λ c. elim (cases_eq c class) [
      | inl same ↦ end-here (λ x. get_or ends x 0) class end c same
          ∙ sym (ap (λ x. get_or (set ends class end) x 0) same
          ∙ get_or-set_same ends class end 0 within)
      | inr other ↦ end-other (λ x. get_or ends x 0) class end c other
          ∙ sym (get_or-set_other ends class c end 0 other)
    ]) placed

-- the classes behind it have none yet
pub ends-rest : (class end : ℕ) (ends : List ℕ) → ((c : ℕ) → class ≤ c → get_or ends c 0 ≡ 0)
    → (c : ℕ) → class + 1 ≤ c → get_or (set ends class end) c 0 ≡ 0
ends-rest class end ends rest c from =
    get_or-set_other ends class c end 0 (λ same. omega arith) ∙ rest c (omega arith)
