-- The slabs of a prepared disk are opened.
use Rattle.std.proofs.Common.{◌≡◌, ◌⊎◌, inl, inr, ℕ, ◌<◌, ◌≤◌, List, [], ◌∷◌, refl, sym, lit<, ap}
use Rattle.std.proofs.lemmas.Bool.{cases_Bool, false≢true}
use Rattle.std.proofs.Common.{◌∙◌, subst, arith, IsTrue, zero, suc, get_or, length}
use Rattle.std.specs.List.{AllByRecursion}
use Rattle.kv_base.specs.Image.{Image}
use Rattle.kv_base.specs.Crash.{LeavesOnly}
use Rattle.kv_base.proofs.CrashLemmas.{joins}
use Rattle.kv_disk.specs.declared.disk.Disk.{Ghosts}
use Rattle.kv_disk.specs.Steps.{OnlyReads}
use Rattle.kv_index.specs.Entries.{Entries}
use Rattle.kv_free.specs.FreeList.{Tail}
use Rattle.kv_model.specs.Layout.{all_classes, pages_in_slot}
use Rattle.kv_model.specs.Reading.{heads_at, large_slot, small_slot, page_of, IsFloor}
use Rattle.kv_model.specs.Recovery.{OpensAs, IsNew}
use Rattle.kv_recover.specs.declared.fault.OpenFault.{OpenFault}
use Rattle.kv_recover.specs.declared.fault.OpenFault.TheVariants.{NotAStore, OtherStore, StampsSpent}
use Rattle.kv_recover.specs.declared.fault.OpenFault.TheVariants.{DiskFault, NoMemory}
use Rattle.kv_recover.specs.Causes.{HasSlabCause, HasMakeCause, HasOpenCause}
use Rattle.kv_recover.specs.Causes.{IsSpared, IsUntouched, AreBounded, HasStampsLeft, IsUsable}
use Rattle.kv_recover.specs.HeadCheck.{AreBlank}
use Rattle.kv_recover.specs.Found.{HoldsKept}
use Rattle.kv_recover.specs.Opened.{KeepsStore, KeepsSlabs, IsOpenedStore, LeftOrKept, IsPrepared}
use Rattle.kv_recover.specs.Opened.{HasFoundStore}
use Rattle.kv_recover.proofs.FreeSteps.{Told}
use Rattle.kv_recover.proofs.OpenSteps.{weaker-told}
use Rattle.kv_recover.proofs.OpenedLemmas.{class_cases, heads_none}
use Rattle.kv_recover.proofs.PassLemmas.{heads_at-small}
use Rattle.kv_recover.proofs.SlabLemmas.{slot-zeros, stamp_zeros}
use Rattle.kv_recover.proofs.LargeLemmas.{heads_at-large, heads_zero_pages, all_range}
use Rattle.kv_recover.proofs.PrepareSteps.{same_slots, same_heads, store-slabs, prepared-headed, prepared-keeps}
use Rattle.kv_recover.proofs.PrepareSteps.{prepared-slabs, prepared-opens, prepared-own}
use Rattle.kv_recover.proofs.PrepareSteps.{prepared-start, class_within}

-- all numbers at the heads of blank slabs are 0
blank-heads : (image : Image) → AreBlank image → (c s : ℕ)
    → AllByRecursion (λ n. n ≡ 0) (heads_at all_classes image c s)
blank-heads image blank c s = elim (class_cases c) [
  | inl small ↦ subst (AllByRecursion (λ n. n ≡ 0)) (sym (heads_at-small image c s small.0 small.1)) (
    stamp_zeros (small_slot image c s)
        (slot-zeros image c s (blank c (page_of c s) small.0 (omega (arith, small.1)))),
    tt,
  )
  | inr other ↦ elim other [
    | inl large ↦
        let low : 1 ≤ c = omega (arith, large.0) in
        subst (AllByRecursion (λ n. n ≡ 0)) (sym (heads_at-large image c s large.0 large.1))
        (heads_zero_pages (large_slot image c s) (all_range (image c) (page_of c s)
        (pages_in_slot c) (λ page from. blank c page low large.1)))
    | inr out ↦ subst (AllByRecursion (λ n. n ≡ 0)) (sym (heads_none image c s out)) tt
  ]
]

all-none : (xs : List ℕ) → AllByRecursion (λ n. n ≡ 0) xs → AllByRecursion (λ n. n ≤ 0) xs
all-none [] all = tt
all-none (x ∷ xs) all = (omega (arith, all.0), all-none xs all.1)

all_zero_at : (xs : List ℕ) (x k : ℕ) → AllByRecursion (λ n. n ≡ 0) xs → k < length xs
    → get_or xs k x ≡ 0
all_zero_at [] x k all within = absurd (omega arith)
all_zero_at (y ∷ ys) x zero all within = all.0
all_zero_at (y ∷ ys) x (suc k) all within = all_zero_at ys x k all.1 (omega arith)

-- the floor of blank slabs is 0
blank-floor : (image : Image) (floor : ℕ) → AreBlank image → IsFloor (heads_at all_classes image) floor
    → floor ≡ 0
blank-floor image floor blank is = elim is.one [
  | inl none ↦ none
  | inr some ↦ sym some.2.2
      ∙ all_zero_at (heads_at all_classes image some.0 some.1) floor some.2.0
      (blank-heads image blank some.0 some.1) some.2.1
]

-- a new disk can be used
pub usable-new : (image : Image) (worker workers : ℕ) → worker < workers → workers ≤ 16
    → IsNew image → IsUsable image worker workers
usable-new image worker workers below limit new = record {
  opens = record {
    worker_is = record { below = below; limit = limit };
    head = inl new;
    bounded = λ class page has from.
        let within = class_within class has in new.slabs class page within.0 within.1;
  };
  left = record {
    floor = 0;
    floor_is = record {
      above = λ class slot. all-none (heads_at all_classes image class slot)
          (blank-heads image new.slabs class slot);
      one = inl refl;
    };
    spare = lit< tt;
  };
}

module _ {D : Type 0} (d : Ghosts D) (told : Told d) (worker workers : ℕ) (old mid new : D)
    (prepared : IsTrue d.tells → IsPrepared d worker workers old mid) where
  -- each image keeps the store, or could be left at the beginning
  pub parts-moments : LeavesOnly (d.calls old) (d.calls mid) (d.leaves old) (d.leaves mid)
      (LeftOrKept d old worker workers)
      → LeavesOnly (d.calls mid) (d.calls new) (d.leaves mid) (d.leaves new)
      (KeepsSlabs (d.seen mid) worker workers)
      → LeavesOnly (d.calls old) (d.calls new) (d.leaves old) (d.leaves new)
      (LeftOrKept d old worker workers)
  parts-moments so_far run = joins (d.calls old) (d.calls mid) (d.calls new) (d.leaves old)
      (d.leaves mid) (d.leaves new) (LeftOrKept d old worker workers) so_far
      (weaker-told (d.calls mid) (d.calls new) (d.leaves mid) (d.leaves new)
      (KeepsSlabs (d.seen mid) worker workers) (LeftOrKept d old worker workers) (IsTrue d.tells)
      (λ t f p c left. (told new t f p c left).0) run
      (λ image tells slabs. inr (store-slabs (d.seen old) (d.seen mid) image worker workers
      (prepared-headed d worker workers old mid tells (prepared tells))
      (prepared-keeps d worker workers old mid tells (prepared tells)) slabs)))

  -- and so does the disk
  pub parts-same : (IsTrue d.tells → KeepsSlabs (d.seen mid) worker workers (d.seen new))
      → IsTrue d.tells → KeepsStore (d.seen old) worker workers (d.seen new)
  parts-same slabs tells = store-slabs (d.seen old) (d.seen mid) (d.seen new) worker workers
      (prepared-headed d worker workers old mid tells (prepared tells))
      (prepared-keeps d worker workers old mid tells (prepared tells)) (slabs tells)

  module _ (below : worker < workers) (limit : workers ≤ 16) where
    -- what is opened could be
    pub parts-opens : (entries : Entries) (floor : ℕ) (ends : List ℕ) (stacks : List Tail)
        → (IsTrue d.tells → KeepsSlabs (d.seen mid) worker workers (d.seen new))
        → (IsTrue d.tells
        → IsOpenedStore (d.seen new) worker workers entries floor ends stacks)
        → IsTrue d.tells → OpensAs all_classes (d.seen old) worker workers
    parts-opens entries floor ends stacks slabs opened tells =
        prepared-opens d worker workers old mid tells (prepared tells) below limit
        (λ class page low high from. sym ((slabs tells).past class page from)
        ∙ (opened tells).bounded class page low high from)

    -- each refusal has its cause
    pub parts-cause : (fault : OpenFault) → HasSlabCause (IsTrue d.tells) (d.seen mid) fault
        → HasOpenCause (IsTrue d.tells) (d.seen old) worker workers fault
    parts-cause NotAStore cause = λ tells.
        let past = cause tells in (
          inr (inr (
            past.0,
            past.1,
            past.2,
            (
              past.3.0,
              past.3.1,
              (λ zeros. past.3.2 (prepared-slabs d worker workers old mid tells (prepared tells) past.0
                  past.3.0 past.1 ∙ zeros)),
            ),
          )),
          prepared-own d worker workers old mid tells (prepared tells) below limit,
        )
    parts-cause (OtherStore a b x y) cause = absurd cause
    parts-cause (StampsSpent stamp) cause = (
      cause.0,
      (λ tells. (
        subst (λ heads. IsFloor heads stamp) (same_heads (d.seen mid) (d.seen old)
            (prepared-slabs d worker workers old mid tells (prepared tells))) (cause.1 tells).0,
        prepared-opens d worker workers old mid tells (prepared tells) below limit
            (cause.1 tells).1,
      )),
    )
    parts-cause DiskFault cause = tt
    parts-cause NoMemory cause = λ tells.
        prepared-start d worker workers old mid tells (prepared tells)

    -- what was found is that of the disk that was handed in
    pub parts-found : (entries : Entries) (floor : ℕ)
        → (IsTrue d.tells → HasFoundStore (d.seen mid) worker workers entries floor)
        → IsTrue d.tells → HasFoundStore (d.seen old) worker workers entries floor
    parts-found entries floor is tells =
        let slabs = prepared-slabs d worker workers old mid tells (prepared tells) in
        let slots = same_slots (d.seen mid) (d.seen old) slabs in
        record {
          holds = subst (λ r. HoldsKept entries r worker workers) slots (is tells).holds;
          floor_is = subst (λ heads. IsFloor heads floor)
              (same_heads (d.seen mid) (d.seen old) slabs) (is tells).floor_is;
          fits = λ class slot stamp key value stands. (is tells).fits class slot stamp key value
              (ap (λ r. r class slot) slots ∙ stands);
        }

    -- what was written to can be used
    pub parts-written : OnlyReads d mid new
        ⊎ (IsTrue d.tells → AreBounded (d.seen mid) × HasStampsLeft (d.seen mid))
        → IsUntouched d old new ⊎ (IsTrue d.tells → IsUsable (d.seen old) worker workers)
    parts-written (inl reads) = elim (cases_Bool d.tells) [
      | inl yes_tells ↦ elim (prepared yes_tells) [
        | inl was ↦ inl (record {
          seen = λ again. reads.seen again ∙ was.0.seen again;
          crash = λ f p x left. was.0.crash f p x (reads.crash.no_more f p x left);
        })
        | inr made ↦ inr (λ tells. usable-new (d.seen old) worker workers below limit made.0)
      ]
      | inr not_tells ↦ inr (λ tells. absurd (false≢true (sym not_tells ∙ tells)))
    ]
    parts-written (inr left) = inr (λ tells. record {
      opens = prepared-opens d worker workers old mid tells (prepared tells) below limit
          (left tells).0;
      left = record {
        floor = (left tells).1.floor;
        floor_is = subst (λ heads. IsFloor heads (left tells).1.floor)
            (same_heads (d.seen mid) (d.seen old)
            (prepared-slabs d worker workers old mid tells (prepared tells)))
            (left tells).1.floor_is;
        spare = (left tells).1.spare;
      };
    })

  -- a disk that was made a store isn't refused before anything is written
  not_made : (fault : OpenFault) → IsTrue d.tells → IsSpared fault
      → HasSlabCause (IsTrue d.tells) (d.seen mid) fault
      → AreBlank (d.seen mid) → ⊥
  not_made NotAStore tells spared cause blank =
      let past = cause tells in past.3.2 (blank past.0 past.3.0 past.1 past.2)
  not_made (OtherStore a b x y) tells spared cause blank = absurd cause
  not_made (StampsSpent stamp) tells spared cause blank =
      let none = blank-floor (d.seen mid) stamp blank (cause.1 tells).0 in omega (arith, cause.0)
  not_made DiskFault tells spared cause blank = absurd spared
  not_made NoMemory tells spared cause blank = absurd spared

  module _ (fault : OpenFault) (spared : IsSpared fault)
      (cause : HasSlabCause (IsTrue d.tells) (d.seen mid) fault)
      (reads : OnlyReads d mid new) where
    untouched_by : IsTrue d.tells → IsUntouched d old new
    untouched_by tells = elim (prepared tells) [
      | inl was ↦ record {
        seen = λ again. reads.seen again ∙ was.0.seen again;
        crash = λ f p x left. was.0.crash f p x (reads.crash.no_more f p x left);
      }
      | inr made ↦ absurd (not_made fault tells spared cause
          (λ class page low high. prepared-slabs d worker workers old mid tells (prepared tells)
          class page low ∙ made.0.slabs class page low high))
    ]

    -- a refusal before anything is written leaves the disk as it was
    pub parts-spared : IsUntouched d old new
    parts-spared = record {
      seen = λ tells. (untouched_by tells).seen tells;
      crash = λ f p x left. (untouched_by (told new (d.calls new) f p x left).0).crash f p x left;
    }

-- a refusal before the slabs are read has its cause
pub prepare-cause : (tells : Type 0) (first : Image) (worker workers : ℕ)
    (fault : OpenFault) → HasMakeCause tells first worker workers fault
    → HasOpenCause tells first worker workers fault
prepare-cause tells first worker workers NotAStore cause = cause
prepare-cause tells first worker workers (OtherStore a b x y) cause = cause
prepare-cause tells first worker workers (StampsSpent stamp) cause = absurd cause
prepare-cause tells first worker workers DiskFault cause = cause
prepare-cause tells first worker workers NoMemory cause = cause
