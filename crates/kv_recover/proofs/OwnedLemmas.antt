-- The keys of an index are the worker's own, once one more slot is seen.
use Rattle.std.proofs.Common.{◌≡◌, inl, inr, ℕ, List, Bool, true, eqb, None, Some, sym, ap, ◌∙◌}
use Rattle.std.proofs.Common.{subst}
use Rattle.std.specs.FinMap as finite
use Rattle.std.specs.Ordering.{nat_cmp}
use Rattle.std.specs.Cmp.Lexicographic.{slice_cmp}
use Rattle.std.proofs.lemmas.Bool.{cases_Bool, cond-true, cond-false, eqb-true}
use Rattle.kv_base.specs.Partition.{owner_of}
use Rattle.kv_index.specs.declared.entry.Entry.{Entry}
use Rattle.kv_index.specs.Entries.{Entries}
use Rattle.kv_model.specs.Slots.{Slot, Never, Item, Tombstone, Bad, Torn}
use Rattle.kv_recover.specs.Found.{entry_at, is_older, with_newer, with_slot}
use Rattle.kv_recover.specs.Placed.{AreOwned}
use Rattle.kv_recover.proofs.FoundLemmas.{get_put}

module _ (worker workers : ℕ) where
  -- an own key may have a newer entry
  newer_own : (entries : Entries) (key : List ℕ) (new : Entry) → owner_of key workers ≡ worker
      → AreOwned entries worker workers → AreOwned (with_newer entries key new) worker workers
  newer_own entries key new own owned other entry has =
      let older = is_older (finite.get entries key) new.stamp in
      elim (cases_Bool older) [
        | inl yes_is ↦
            let map_is : with_newer entries key new ≡ finite.insert entries key new =
            cond-true older (finite.insert entries key new) entries yes_is in
            elim (get_put entries key new other) [
              | inl same ↦ ap (λ k. owner_of k workers) same.0 ∙ own
              | inr differ ↦ owned other entry
                  (sym differ.1 ∙ sym (ap (λ m. finite.get m other) map_is) ∙ has)
            ]
        | inr no_is ↦ owned other entry (sym (ap (λ m. finite.get m other)
            (cond-false older (finite.insert entries key new) entries no_is)) ∙ has)
      ]

  with_own : (class slot : ℕ) (entries : Entries) (what : Slot) → AreOwned entries worker workers
      → AreOwned (with_slot entries worker workers class slot what) worker workers
  with_own class slot entries (Never stamp) owned = owned
  with_own class slot entries (Item stamp key value) owned =
      let own = eqb (owner_of key workers) worker in
      let newer = with_newer entries key (entry_at class slot stamp) in
      elim (cases_Bool own) [
        | inl yes_own ↦ subst (λ m. AreOwned m worker workers)
            (sym (cond-true own newer entries yes_own))
            (newer_own entries key (entry_at class slot stamp)
            (eqb-true (owner_of key workers) worker yes_own) owned)
        | inr foreign ↦ subst (λ m. AreOwned m worker workers)
            (sym (cond-false own newer entries foreign)) owned
      ]
  with_own class slot entries (Tombstone stamp link) owned = owned
  with_own class slot entries (Bad stamp) owned = owned
  with_own class slot entries (Torn stamp) owned = owned

  -- one slot more is seen
  pub owned-slot : (class slot : ℕ) (entries later : Entries) (what : Slot)
      → later ≡ with_slot entries worker workers class slot what
      → AreOwned entries worker workers → AreOwned later worker workers
  owned-slot class slot entries later what later_is owned =
      subst (λ m. AreOwned m worker workers) (sym later_is)
      (with_own class slot entries what owned)

-- no entry has a key
pub owned-none : (entries : Entries) (worker workers : ℕ) → entries ≡ finite.empty
    → AreOwned entries worker workers
owned-none entries worker workers none key entry has =
    absurd (let nothing : None ≡ Some entry =
    sym (finite.get-empty {X = Entry} (slice_cmp nat_cmp) key)
    ∙ sym (ap (λ m. finite.get m key) none) ∙ has in cc)
