-- A disk that is read and not written.
use Rattle.std.proofs.Common.{◌≡◌, inl, inr, ℕ, ◌^◌, ◌<◌, ◌≤◌, Bool, true, false, List, Some, slice_get, get_or}
use Rattle.std.proofs.Common.{subst, arith}
use Rattle.std.specs.FinMap as finite
use Rattle.kv_base.specs.Image.{Image}
use Rattle.kv_index.specs.Entries.{Entries}
use Rattle.kv_model.specs.Layout.{all_classes}
use Rattle.kv_model.specs.Reading.{slot_at}
use Rattle.kv_model.specs.Recovery.{OpensAs}
use Rattle.kv_slot.proofs.HeadLemmas.{zeros_no_head}
use Rattle.kv_recover.specs.declared.entries.Kept.{Kept}
use Rattle.kv_recover.specs.Causes.{IsNoOthers, IsOwn}
use Rattle.kv_recover.specs.Found.{HoldsKept}
use Rattle.kv_recover.specs.HeadCheck.{IsReadable}
use Rattle.kv_recover.specs.Listed.{AreListed, AreKept, IsSlabPlace, entry_of}
use Rattle.kv_recover.specs.Opened.{FindsAllBelow}
use Rattle.kv_recover.specs.Placed.{ArePlaced}
use Rattle.kv_recover.proofs.EntryLemmas.{option_cases}
use Rattle.kv_recover.proofs.OpenedLemmas.{all-slots}
use Rattle.kv_recover.proofs.PrepareSteps.{same_head, class_within}

-- if it has a head, that is this worker's
pub readable-own : (fresh : Bool) (first : Image) (worker workers : ℕ) → worker < workers
    → workers ≤ 16 → IsReadable fresh first worker workers → IsNoOthers (first 0 0) worker workers
readable-own true first worker workers below limit new a b head =
    absurd (zeros_no_head (first 0 0) a b new.head head)
readable-own false first worker workers below limit head_is a b head =
    same_head (first 0 0) a b worker workers head
    (record { worker_is = record { below = below; limit = limit }; page_is = head_is })

-- it is new, or this worker's
pub readable-start : (fresh : Bool) (image : Image) (worker workers : ℕ)
    → IsReadable fresh image worker workers → IsOwn image worker workers
readable-start true image worker workers new = inl new
readable-start false image worker workers head = inr head

-- it opens
pub readable-opens : (fresh : Bool) (first : Image) (worker workers : ℕ) (entries : Entries)
    (floor : ℕ) (ends : List ℕ) → worker < workers → workers ≤ 16
    → IsReadable fresh first worker workers
    → FindsAllBelow first worker workers 12 entries floor ends
    → OpensAs all_classes first worker workers
readable-opens fresh first worker workers entries floor ends below limit readable found = record {
  worker_is = record { below = below; limit = limit };
  head = readable-start fresh first worker workers readable;
  bounded = λ class page has from.
      let within = class_within class has in
      found.bounded class page within.0 (omega (arith, within.1)) from;
}

-- what is found is kept
pub found-holds : (first : Image) (worker workers : ℕ) (entries : Entries) (floor : ℕ)
    (ends : List ℕ) → FindsAllBelow first worker workers 12 entries floor ends
    → HoldsKept entries (slot_at all_classes first) worker workers
found-holds first worker workers entries floor ends found =
    subst (λ r. HoldsKept entries r worker workers) (all-slots first) found.found.holds

-- the entries are the items that are kept
pub listed-kept : (first : Image) (worker workers : ℕ) (entries : Entries) (list : List Kept)
    → HoldsKept entries (slot_at all_classes first) worker workers → AreListed entries list
    → AreKept first worker workers list
listed-kept first worker workers entries list holds listed = record {
  each = λ i kept is. holds.each kept.key (entry_of kept) (listed.each i kept is);
  every = λ key copy is. elim (option_cases (finite.get entries key)) [
    | inl none ↦ absurd (holds.none key none copy is.found)
    | inr some ↦ listed.every key some.0 some.1
  ];
  rising = listed.rising;
}

-- and each has its place
pub listed-places : (entries : Entries) (floor : ℕ) (ends : List ℕ) (list : List Kept)
    → ((class : ℕ) → get_or ends class 0 ≤ 2 ^ 24)
    → ArePlaced entries floor (λ class. get_or ends class 0) → AreListed entries list
    → (i : ℕ) (kept : Kept) → slice_get list i ≡ Some kept → IsSlabPlace kept.place
listed-places entries floor ends list small placed listed i kept is =
    let place = placed kept.key (entry_of kept) (listed.each i kept is) in
    record {
      low = place.low;
      high = place.high;
      slot = let below = place.below in let end = small kept.place.class in omega arith;
    }
