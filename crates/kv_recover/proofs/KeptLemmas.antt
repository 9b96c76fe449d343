-- The entries of what was found on a disk are the writes that its image keeps.
use Rattle.std.proofs.Common.{◌≡◌, inl, inr, ℕ, ◌≤◌, List, Option, None, Some, Contains, IsTrue}
use Rattle.std.proofs.Common.{option_map, refl, sym, ap, ◌∙◌, subst, subst₂}
use Rattle.std.specs.FinMap as finite
use Rattle.std.specs.FinMap.{entries_sorted}
use Rattle.kv_base.specs.Image.{Image}
use Rattle.kv_disk.specs.declared.disk.Disk as disks
use Rattle.kv_index.specs.declared.entry.Entry.{Entry}
use Rattle.kv_index.specs.declared.index.Index as indexes
use Rattle.kv_index.specs.Entries.{Entries}
use Rattle.kv_model.specs.History.{Write, value_at}
use Rattle.kv_model.specs.Items.{class_with}
use Rattle.kv_model.specs.Layout.{all_classes}
use Rattle.kv_model.specs.Reading.{Reading, Copy, IsKept, slot_at}
use Rattle.kv_model.specs.Recovery.{AreKept, KeepsEach}
use Rattle.kv_model.specs.Slots.{Item}
use Rattle.kv_slab.specs.Rounds.{answer_of, item_of}
use Rattle.kv_slab.specs.View.{View}
use Rattle.kv_recover.specs.Found.{copy_of}
use Rattle.kv_recover.specs.Freed.{KeepsSame}
use Rattle.kv_recover.specs.Opened.{HasFoundStore}
use Rattle.kv_recover.specs.Placed.{AreOwned}
use Rattle.kv_recover.specs.Writes.{HasWrites}
use Rattle.kv_recover.proofs.EntryLemmas.{option_cases}
use Rattle.kv_recover.proofs.FreedLemmas.{one_copy_place}
use Rattle.kv_recover.proofs.WritesLemmas.{value_in, writes_of, writes-distinct, entry-of, write-of}
use Rattle.kv_recover.proofs.WritesLemmas.{all-low, value-is, keys-are}

-- of a key one item is kept
same_copy : (reading : Reading) (worker workers : ℕ) (key : List ℕ) (a b : Copy)
    → IsKept reading worker workers key a → IsKept reading worker workers key b
    → (a.stamp ≡ b.stamp) × (a.value ≡ b.value)
same_copy reading worker workers key a b first next =
    let at = one_copy_place a b (first.first b next.found) (next.first a first.found) in
    let there : reading b.class b.slot ≡ Item a.stamp key a.value =
    subst₂ (λ c s. reading c s ≡ Item a.stamp key a.value) at.0 at.1 first.found.stands in
    let stands = next.found.stands in
    ((cc), (cc))

-- a write of this value
abbrev with_value : List ℕ → ℕ → List ℕ → Write
with_value key stamp value = record { stamp = stamp; key = key; value = Some value }

module _ (image : Image) (worker workers : ℕ) (entries : Entries) (floor : ℕ)
    (low : (key : List ℕ) (entry : Entry) → finite.get entries key ≡ Some entry
    → entry.stamp ≤ floor) (found : HasFoundStore image worker workers entries floor) where
  -- what stands in an entry's place is kept
  entry-kept : (key : List ℕ) (entry : Entry) → finite.get entries key ≡ Some entry
      → IsKept (slot_at all_classes image) worker workers key (copy_of entry
      (value_in (slot_at all_classes image entry.place.class entry.place.slot)))
  entry-kept key entry has =
      let one = found.holds.each key entry has in
      subst (λ value. IsKept (slot_at all_classes image) worker workers key (copy_of entry value))
      (sym (ap value_in one.1.found.stands)) one.1

  writes-kept : AreKept all_classes image worker workers
      (writes_of (slot_at all_classes image) (finite.entries entries))
  writes-kept = record {
    distinct = writes-distinct (slot_at all_classes image) (finite.entries entries)
        (entries_sorted entries);
    each = λ write has.
        let one = entry-of (slot_at all_classes image) entries floor low write has in (
          copy_of one.0
              (value_in (slot_at all_classes image one.0.place.class one.0.place.slot)),
          entry-kept write.key one.0 one.1,
          ap (λ w. w.stamp) one.2,
          ap (λ w. w.value) one.2,
        );
    all = λ key copy is. elim (option_cases (finite.get entries key)) [
      | inl none ↦ absurd (found.holds.none key none copy is.found)
      | inr some ↦
          let same = same_copy (slot_at all_classes image) worker workers key (copy_of some.0
          (value_in (slot_at all_classes image some.0.place.class some.0.place.slot))) copy
          (entry-kept key some.0 some.1) is in
          subst₂ (λ stamp value. Contains
          (writes_of (slot_at all_classes image) (finite.entries entries))
          (with_value key stamp value)) same.0 same.1
          (write-of (slot_at all_classes image) entries floor low key some.0 some.1)
    ];
  }

  each-kept : KeepsEach (slot_at all_classes image) worker workers
  each-kept key copy is = elim (option_cases (finite.get entries key)) [
    | inl none ↦ absurd (found.holds.none key none copy is)
    | inr some ↦ (
      copy_of some.0
          (value_in (slot_at all_classes image some.0.place.class some.0.place.slot)),
      entry-kept key some.0 some.1,
    )
  ]

  -- a reading that keeps the same has their values
  values-are : (now : Reading) → KeepsSame (slot_at all_classes image) worker workers now
      → (key : List ℕ)
      → option_map (λ answer. answer.1) (answer_of now (finite.get entries key))
      ≡ value_at (writes_of (slot_at all_classes image) (finite.entries entries)) floor key
  values-are now same key = by (finite.get entries key) refl
      ∙ sym (value-is (slot_at all_classes image) entries floor low key)
    where
      by : (o : Option Entry) → finite.get entries key ≡ o
          → option_map (λ answer. answer.1) (answer_of now o)
          ≡ option_map (λ entry. value_in (slot_at all_classes image entry.place.class
          entry.place.slot)) o
      by None has = refl
      by (Some entry) has =
          let kept = (same key (copy_of entry (value_in (slot_at all_classes image
          entry.place.class entry.place.slot)))).0 (entry-kept key entry has) in
          ap (λ slot. option_map (λ answer. answer.1) (item_of slot)) kept.found.stands

  -- each entry has the class of its item
  classes-are : (key : List ℕ)
      → option_map (λ entry. entry.place.class) (finite.get entries key)
      ≡ class_with all_classes key
      (value_at (writes_of (slot_at all_classes image) (finite.entries entries)) floor key)
  classes-are key = by (finite.get entries key) refl
      ∙ ap (class_with all_classes key)
      (sym (value-is (slot_at all_classes image) entries floor low key))
    where
      by : (o : Option Entry) → finite.get entries key ≡ o
          → option_map (λ (entry : Entry). entry.place.class) o ≡ class_with all_classes key
          (option_map (λ entry. value_in (slot_at all_classes image entry.place.class
          entry.place.slot)) o)
      by None has = refl
      by (Some entry) has = sym (found.fits entry.place.class entry.place.slot entry.stamp key
          (value_in (slot_at all_classes image entry.place.class entry.place.slot))
          (entry-kept key entry has).found.stands)

-- the items of a store that was opened, as writes
pub has-writes : {D I : Type 0} (d : disks.Ghosts D) (i : indexes.Ghosts I) (old : D)
    (worker workers : ℕ) (store : View D I) (floor : ℕ)
    → ((key : List ℕ) (entry : Entry) → finite.get (i.entries store.index) key ≡ Some entry
    → entry.stamp ≤ floor)
    → AreOwned (i.entries store.index) worker workers
    → (IsTrue d.tells → HasFoundStore (d.seen old) worker workers (i.entries store.index) floor)
    → (IsTrue d.tells → KeepsSame (slot_at all_classes (d.seen old)) worker workers
    (slot_at all_classes (d.seen store.disk.disk)))
    → HasWrites d i old worker workers store floor
has-writes d i old worker workers store floor low owned found same =
    let reading : Reading = slot_at all_classes (d.seen old) in
    let entries : Entries = i.entries store.index in
    record {
      writes = writes_of reading (finite.entries entries);
      distinct = writes-distinct reading (finite.entries entries) (entries_sorted entries);
      stamps = all-low reading entries floor low;
      entries = λ write has.
          let one = entry-of reading entries floor low write has in
          (one.0, one.1, ap (λ w. w.stamp) one.2);
      owned = λ write has.
          let one = entry-of reading entries floor low write has in
          owned write.key one.0 one.1;
      keys = keys-are reading entries floor low;
      kept = λ tells. writes-kept (d.seen old) worker workers entries floor low (found tells);
      keeps_each = λ tells. each-kept (d.seen old) worker workers entries floor low (found tells);
      values = λ tells. values-are (d.seen old) worker workers entries floor low (found tells)
          (slot_at all_classes (d.seen store.disk.disk)) (same tells);
      classes = λ tells. classes-are (d.seen old) worker workers entries floor low (found tells);
    }
