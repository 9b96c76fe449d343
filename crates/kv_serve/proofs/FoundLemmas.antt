-- An image that opens keeps one of the items of each key.
use Rattle.std.proofs.Common.{◌≡◌, inl, inr, ℕ, zero, suc, ◌+◌, ◌*◌, ◌/◌, ◌≤◌}
use Rattle.std.proofs.Common.{None, Some, refl, sym, ◌∙◌, subst, arith, add-one, pow_pos, true, false, ◌-◌}
use Rattle.std.proofs.lemmas.Bool.{cases_lt, cases_eq, cond-true, cond-false, le-leb, lt-leb}
use Rattle.std.proofs.Math.Nat.{mul-le-mul_right, le-div_iff_mul-le, div-mul-le_self}
use Rattle.std.specs.FinMap as finite
use Rattle.kv_base.specs.Image.{Image}
use Rattle.kv_index.specs.declared.entry.Entry.{Entry}
use Rattle.kv_index.specs.Entries.{Entries}
use Rattle.kv_model.specs.Layout.{all_classes, is_small, slots_in_page, pages_in_slot}
use Rattle.kv_model.specs.Reading.{Reading, slot_at, small_slot, large_slot, page_of}
use Rattle.kv_model.specs.Recovery.{OpensAs, KeepsEach, most_pages, most_slots}
use Rattle.kv_model.specs.Slots.{Never}
use Rattle.kv_recover.specs.Found.{HoldsKept, copy_of, with_slot}
use Rattle.kv_recover.specs.SoFar.{so_far}
use Rattle.kv_recover.proofs.EntryLemmas.{option_cases}
use Rattle.kv_recover.proofs.FoundLemmas.{Grows, holds-slot}
use Rattle.kv_recover.proofs.LargeLemmas.{slot_at-large, all_range, read_zero_pages}
use Rattle.kv_recover.proofs.OpenedLemmas.{class_cases, at_none, all-slots}
use Rattle.kv_recover.proofs.PassLemmas.{has_class-some, slot_at-small}
use Rattle.kv_recover.proofs.SlabLemmas.{slot-zeros, read_zeros}
use Rattle.kv_recover.proofs.SoFarLemmas.{so_far-here, so_far-others, so_far-behind, so_far-same}

some_entry : (entry : Entry) → None ≡ Some entry → ⊥
some_entry entry e = cc

-- the index of what is kept in the slots before the place
Finds : Reading → ℕ → ℕ → ℕ → ℕ → Type 0
Finds reading worker workers class slot = (entries : Entries)
    × HoldsKept entries (so_far (Never 0) reading class slot) worker workers

module _ (reading : Reading) (worker workers most : ℕ)
    (unused : (class slot : ℕ) → most ≤ slot → reading class slot ≡ Never 0) where
  grows : (class slot : ℕ) → Grows (Never 0) (so_far (Never 0) reading class slot) class slot
      (reading class slot) (so_far (Never 0) reading class (slot + 1))
  grows class slot = record {
    here = so_far-here (Never 0) reading class slot;
    others = so_far-others (Never 0) reading class slot;
    behind = so_far-behind (Never 0) reading class slot;
  }

  find-slot : (class slot : ℕ) → Finds reading worker workers class slot
      → Finds reading worker workers class (slot + 1)
  unfolding Finds
  find-slot class slot found = (
    with_slot found.0 worker workers class slot (reading class slot),
    holds-slot (so_far (Never 0) reading class slot) (so_far (Never 0) reading class (slot + 1))
        worker workers class slot (reading class slot) (grows class slot) found.0
        (reading class slot) refl found.1,
  )

  find-slots : (class count : ℕ) → Finds reading worker workers class 0
      → Finds reading worker workers class count
  find-slots class zero found = found
  find-slots class (suc count) found = subst (Finds reading worker workers class) (add-one count)
      (find-slot class count (find-slots class count found))

  find-class : (class : ℕ) → Finds reading worker workers class most
      → Finds reading worker workers (class + 1) 0
  unfolding Finds
  find-class class found = (
    found.0,
    subst (λ table. HoldsKept found.0 table worker workers)
        (so_far-same (Never 0) reading class most (class + 1) 0
        (λ c s before. inl (omega (arith, before)))
        (λ c s within behind. unused c s (elim (cases_lt s most) [
          | inl below ↦ absurd (behind (elim (cases_eq c class) [
            | inl at ↦ inr (at, below)
            | inr other ↦ inl (omega (arith, within, other))
          ]))
          | inr from ↦ from
        ]))) found.1,
  )

  find-none : Finds reading worker workers 0 0
  unfolding Finds
  find-none = (
    finite.empty,
    record {
      each = λ key entry has. absurd (some_entry entry (sym (finite.get-empty _ key) ∙ has));
      none = λ key none copy found. absurd (
          let never : so_far (Never 0) reading 0 0 copy.class copy.slot ≡ Never 0 =
          so_far-behind (Never 0) reading 0 0 copy.class copy.slot
          (λ before. omega (arith, before)) in
          let stands = found.stands in cc);
    },
  )

  find-classes : (class : ℕ) → Finds reading worker workers class 0
  find-classes zero = find-none
  find-classes (suc class) = subst (λ c. Finds reading worker workers c 0) (add-one class)
      (find-class class (find-slots class most (find-classes class)))

-- past the most slots of a class nothing stands
no_slot : (image : Image) (worker workers : ℕ) → OpensAs all_classes image worker workers
    → (class slot : ℕ) → most_slots ≤ slot → slot_at all_classes image class slot ≡ Never 0
no_slot image worker workers opens class slot from = elim (class_cases class) [
  | inl small ↦
      let is : is_small class ≡ true = le-leb class 7 small.1 in
      let k = slots_in_page class in
      let page : page_of class slot ≡ slot / k = cond-true (is_small class) _ _ is in
      let most : most_pages class ≡ most_slots / k = cond-true (is_small class) _ _ is in
      let up : most_slots / k ≤ slot / k =
      (le-div_iff_mul-le {k = k} {x = most_slots / k} {y = slot} (pow_pos (7 - class))).1
      (omega (arith, div-mul-le_self most_slots k)) in
      slot_at-small image class slot small.0 small.1
      ∙ read_zeros class (small_slot image class slot) (slot-zeros image class slot
      (opens.bounded class (page_of class slot) (has_class-some class small.0
      (omega (arith, small.1))) (omega arith)))
  | inr other ↦ elim other [
    | inl large ↦
        let is : is_small class ≡ false = lt-leb class 7 (omega (arith, large.0)) in
        let k = pages_in_slot class in
        let page : page_of class slot ≡ slot * k = cond-false (is_small class) _ _ is in
        let most : most_pages class ≡ most_slots * k = cond-false (is_small class) _ _ is in
        let up : most_slots * k ≤ slot * k = mul-le-mul_right k from in
        slot_at-large image class slot large.0 large.1
        ∙ read_zero_pages class (large_slot image class slot) (all_range (image class)
        (page_of class slot) k (λ number at. opens.bounded class number
        (has_class-some class (omega (arith, large.0)) large.1) (omega (arith, at))))
    | inr out ↦ at_none image class slot out
  ]
]

-- of each key of which an item is found one is kept
pub keeps-each : (image : Image) (worker workers : ℕ) → OpensAs all_classes image worker workers
    → KeepsEach (slot_at all_classes image) worker workers
unfolding Finds
keeps-each image worker workers opens key copy found =
    let all = find-classes (slot_at all_classes image) worker workers most_slots
    (no_slot image worker workers opens) 12 in
    let holds : HoldsKept all.0 (slot_at all_classes image) worker workers =
    subst (λ table. HoldsKept all.0 table worker workers) (all-slots image) all.1 in
    elim (option_cases (finite.get all.0 key)) [
      | inl none ↦ absurd (holds.none key none copy found)
      | inr some ↦
          let each = holds.each key some.0 some.1 in (copy_of some.0 each.0, each.1)
    ]
