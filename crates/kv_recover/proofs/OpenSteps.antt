-- The steps of opening the slabs of a disk, in the images that a crash may leave.
use Rattle.std.proofs.Common.{◌≡◌, inl, inr, ℕ, ◌+◌, ◌-◌, ◌<◌, ◌≤◌, ◌^◌, List, length, get_or, set}
use Rattle.std.proofs.Common.{refl, sym, ◌∙◌, subst, arith, IsTrue, get_or-set_same, get_or-set_other}
use Rattle.std.proofs.lemmas.Bool.{cases_eq}
use Rattle.kv_base.specs.Image.{Image}
use Rattle.kv_disk.specs.declared.disk.Disk.{Ghosts}
use Rattle.kv_base.specs.Crash.{Choices, Only, NoMore, LeavesOnly}
use Rattle.kv_base.proofs.CrashLemmas.{started, joins, left-before}
use Rattle.kv_base.proofs.ImageLemmas.{only_image}
use Rattle.kv_free.specs.FreeList.{Tail}
use Rattle.kv_index.specs.Entries.{Entries}
use Rattle.kv_model.specs.Head.{head_page}
use Rattle.kv_model.specs.Layout.{all_classes, pages_in_slot}
use Rattle.kv_model.specs.Reading.{Reading, page_of, large_slot, slot_at, heads_at, IsFloor}
use Rattle.kv_disk.specs.Steps.{OnlyReads}
use Rattle.kv_disk.proofs.StepsLemmas.{reads_on}
use Rattle.kv_recover.specs.Causes.{AreBounded, HasStampsLeft}
use Rattle.kv_recover.specs.Found.{HoldsKept}
use Rattle.kv_recover.specs.Pass.{FindsBelow, ItemsFit}
use Rattle.kv_recover.specs.Large.{FindsLargeClass}
use Rattle.kv_recover.specs.Free.{MayBeFreed, IsFreed, HasFreedBelow, FreesBelow, reading_of}
use Rattle.kv_recover.specs.FreeLarge.{AnyMayBeFreed, AreFreed, FreesAnyBelow, EntriesStand}
use Rattle.kv_recover.specs.Opened.{KeepsSlabs, IsOpenedStore, IsEndOf, FindsAllBelow, HasFoundStore}
use Rattle.kv_recover.proofs.FreeLemmas.{may-later}
use Rattle.kv_recover.proofs.FreeSteps.{Told}
use Rattle.kv_recover.proofs.FreeLargeLemmas.{same_pages}
use Rattle.kv_recover.proofs.FreeLargeSteps.{any-later}
use Rattle.kv_recover.proofs.FilteredLemmas.{get-within}
use Rattle.kv_recover.proofs.OpenedLemmas.{class_cases, at_none}
use Rattle.kv_recover.proofs.OpenedLemmas.{all-slots, all-heads, same-store, freed-may, holds-still, floor-stays, has-list}

-- the classes 1 to 7 were seen
pub all-start : (image : Image) (worker workers : ℕ) (entries : Entries) (floor : ℕ)
    (ends : List ℕ) → FindsBelow image worker workers 8 entries floor ends
    → FindsAllBelow image worker workers 8 entries floor ends
all-start image worker workers entries floor ends small = record {
  found = small.found;
  ends_are = λ c low high. record {
    small = λ _. small.ends_are c low high;
    large = λ large. absurd (omega arith);
  };
  bounded = small.bounded;
  fits = small.fits;
}

-- one class of 8 to 11 more
pub all-next : (image : Image) (worker workers class : ℕ) (before now : Entries)
    (floor greatest end : ℕ) (ends : List ℕ) → 8 ≤ class → class < length ends
    → FindsAllBelow image worker workers class before floor ends
    → FindsLargeClass image worker workers class before now floor greatest end
    → FindsAllBelow image worker workers (class + 1) now greatest (set ends class end)
all-next image worker workers class before now floor greatest end ends large within below next =
    record {
      found = next.found below.found;
      ends_are = λ c low high. elim (cases_eq c class) [
        | inl same ↦
            let at : get_or (set ends class end) class 0 ≡ end =
            get_or-set_same ends class end 0 within in
            subst (λ x. IsEndOf image x (get_or (set ends class end) x 0)) (sym same)
            (subst (IsEndOf image class) (sym at) (record {
              small = λ small. absurd (omega arith);
              large = λ _. next.end_is below.found;
            }))
        | inr other ↦
            subst (IsEndOf image c) (sym (get_or-set_other ends class c end 0 other))
            (below.ends_are c low (let differ : (c ≡ class) → ⊥ = other in omega arith))
      ];
      bounded = λ c page low high from. elim (cases_eq c class) [
        | inl same ↦ subst (λ x. image x page ≡ Rattle.kv_base.specs.Image.zero_page) (sym same)
            (next.bounded page (subst (λ x. Rattle.kv_model.specs.Recovery.most_pages x ≤ page) same
            from))
        | inr other ↦ below.bounded c page low
            (let differ : (c ≡ class) → ⊥ = other in omega arith) from
      ];
      fits = λ c low high. elim (cases_eq c class) [
        | inl same ↦ subst (ItemsFit image) (sym same) next.fits
        | inr other ↦ below.fits c low (let differ : (c ≡ class) → ⊥ = other in omega arith)
      ];
    }

-- large slots in the same files
files_same : (a b : Image) (c s : ℕ) → ((p : ℕ) → a c p ≡ b c p)
    → large_slot a c s ≡ large_slot b c s
files_same a b c s same = same_pages (a c) (b c) (page_of c s) (pages_in_slot c)
    (λ p from below. same p)

module _ (entries : Entries) (first : Image) (ends : ℕ → ℕ) (floor : ℕ) where
  -- the small classes may be freed, and the large ones are as they were
  pub any-small : (image : Image) → MayBeFreed entries first ends floor 8 0 image
      → AnyMayBeFreed entries first ends floor 8 0 image
  any-small image may = record {
    slots = may.slots;
    large = λ c s low high. inl (files_same image first c s
        (λ p. may.others c p (inr (omega arith))));
    others = λ f p out. may.others f p (elim out [ inl head ↦ inl head | inr past ↦ inr (omega arith) ]);
    past = may.past;
  }

  pub are-small : (image : Image) → IsFreed entries first ends floor 8 0 image
      → AreFreed entries first ends floor 8 0 image
  are-small image is = record {
    freed = λ c s low high free. is.freed c s low high (inl (omega arith)) free;
    kept = λ c s low high not_free. is.kept c s low high (λ _ free. not_free free);
    large_freed = λ c s low high before. absurd (omega (arith, before));
    large_kept = λ c s low high not_freed. files_same image first c s
        (λ p. is.others c p (inr (omega arith)));
    others = λ f p out. is.others f p (elim out [ inl head ↦ inl head | inr past ↦ inr (omega arith) ]);
    past = is.past;
  }

  pub any-all : (image : Image) → AnyMayBeFreed entries first ends floor 8 0 image
      → AnyMayBeFreed entries first ends floor 12 0 image
  any-all image = any-later entries first ends floor 8 0 12 0 image
      (λ c s before. inl (omega (arith, before)))

-- the large classes are freed next
pub large-start : {D : Type 0} (d : Ghosts D) (entries : Entries) (first : Image) (ends : ℕ → ℕ)
    (floor : ℕ) (disk : D) (stacks : List Tail)
    → (IsTrue d.tells → EntriesStand entries (reading_of first))
    → FreesBelow d entries first ends floor 8 disk stacks
    → FreesAnyBelow d entries first ends floor 8 disk stacks
large-start d entries first ends floor disk stacks stand small = record {
  seen = λ tells. are-small entries first ends floor (d.seen disk) (small.freed.seen tells);
  crash = λ image left. any-small entries first ends floor image (small.freed.crash image left);
  stacks_are = small.stacks_are;
  stand = stand;
}

-- what may be freed below the large classes may be freed below all
pub small-all : (entries : Entries) (first : Image) (ends : ℕ → ℕ) (floor : ℕ) (image : Image)
    → MayBeFreed entries first ends floor 8 0 image
    → AnyMayBeFreed entries first ends floor 12 0 image
small-all entries first ends floor image may = any-all entries first ends floor image
    (any-small entries first ends floor image may)

-- what may be freed below the first class may be freed below all
pub none-all : (entries : Entries) (first : Image) (ends : ℕ → ℕ) (floor : ℕ) (image : Image)
    → MayBeFreed entries first ends floor 1 0 image
    → AnyMayBeFreed entries first ends floor 12 0 image
none-all entries first ends floor image may = small-all entries first ends floor image
    (may-later entries first ends floor 1 0 8 0 image (λ c s before. inl (omega (arith, before))) may)

-- all classes are freed, and then synced
pub freed-synced : {D : Type 0} (d : Ghosts D) (entries : Entries) (first : Image) (ends : ℕ → ℕ)
    (floor : ℕ) (disk synced : D) (stacks : List Tail)
    → (IsTrue d.tells → d.seen synced ≡ d.seen disk)
    → NoMore (d.leaves disk (d.calls disk)) (d.leaves synced (d.calls synced))
    → FreesAnyBelow d entries first ends floor 12 disk stacks
    → FreesAnyBelow d entries first ends floor 12 synced stacks
freed-synced d entries first ends floor disk synced stacks seen no_more freed = record {
  seen = λ tells. subst (AreFreed entries first ends floor 12 0) (sym (seen tells))
      (freed.seen tells);
  crash = λ image left. freed.crash image
      (left-before (d.leaves disk (d.calls disk)) (d.leaves synced (d.calls synced)) image no_more
      left);
  stacks_are = freed.stacks_are;
  stand = freed.stand;
}

-- what is kept stands in its place
pub kept-stand : (entries : Entries) (reading : Reading) (worker workers : ℕ)
    → HoldsKept entries reading worker workers → EntriesStand entries reading
kept-stand entries reading worker workers holds key entry has =
    let each = holds.each key entry has in (each.0, each.1.found.stands)

-- the slabs are the same as themselves
pub keeps-self : (first : Image) (worker workers : ℕ) → KeepsSlabs first worker workers first
keeps-self first worker workers = record {
  kept = λ key copy. ((λ is. is), (λ is. is));
  floor = λ floor is. is;
  head = refl;
  past = λ class page from. refl;
}

-- the same run of a disk that tells, of which less is asked
pub weaker-told : (from to : ℕ) (past since : ℕ → Choices) (P Q : Image → Type 0) (tells : Type 0)
    → ((t f p : ℕ) (c : List ℕ) → since t f p c → tells)
    → LeavesOnly from to past since P → ((image : Image) → tells → P image → Q image)
    → LeavesOnly from to past since Q
weaker-told from to past since P Q tells told run so = record {
  later = run.later;
  each = λ t above below image left. so image (told t 0 0 (image 0 0) (left 0 0))
      (run.each t above below image left);
  before = run.before;
}

-- the slabs of a disk with nothing pending are read
module _ {D : Type 0} (d : Ghosts D) (worker workers : ℕ) (old read : D)
    (only : Only (d.seen old) (d.leaves old (d.calls old))) (reads : OnlyReads d old read) where
  -- what is kept is found
  pub slabs-read : LeavesOnly (d.calls old) (d.calls read) (d.leaves old) (d.leaves read)
      (KeepsSlabs (d.seen old) worker workers)
  slabs-read = reads_on d (d.calls old) (d.leaves old) (KeepsSlabs (d.seen old) worker workers) old
      read (started (d.calls old) (d.leaves old) (KeepsSlabs (d.seen old) worker workers)
      (λ image left. subst (KeepsSlabs (d.seen old) worker workers)
      (sym (only_image (d.seen old) (d.leaves old (d.calls old)) image only left))
      (keeps-self (d.seen old) worker workers))) reads

  -- nothing is freed yet
  below-start : (entries : Entries) (floor : ℕ) (ends : List ℕ)
      → HasFreedBelow d entries (d.seen old) (λ c. get_or ends c 0) floor 1 read
  below-start entries floor ends = record {
    seen = λ tells. subst (IsFreed entries (d.seen old) (λ c. get_or ends c 0) floor 1 0)
        (sym (reads.seen tells)) (record {
          freed = λ c s low high before free. absurd (omega (arith, before));
          kept = λ c s low high not_freed. refl;
          others = λ f p out. refl;
          past = λ f p from. refl;
        });
    crash = λ image left.
        let before = left-before (d.leaves old (d.calls old)) (d.leaves read (d.calls read)) image
        reads.crash.no_more left in
        let same = only_image (d.seen old) (d.leaves old (d.calls old)) image only before in
        subst (MayBeFreed entries (d.seen old) (λ c. get_or ends c 0) floor 1 0) (sym same)
        (record {
          slots = λ c s low high. inl refl;
          others = λ f p out. refl;
          past = λ f p from. refl;
        });
  }

-- all slabs of a disk with nothing pending were read
pub record SlabsRead {D : Type 0} (d : Ghosts D) (worker workers : ℕ) (old read : D)
    (entries : Entries) (floor : ℕ) (ends : List ℕ) : Type 0 where
  pub told : Told d
  pub settled : Only (d.seen old) (d.leaves old (d.calls old))
  pub reads : OnlyReads d old read
  pub found : IsTrue d.tells → FindsAllBelow (d.seen old) worker workers 12 entries floor ends

pub are-read : {D : Type 0} {d : Ghosts D} {worker workers : ℕ} {old read : D} {entries : Entries}
    {floor : ℕ} {ends : List ℕ} → Told d → Only (d.seen old) (d.leaves old (d.calls old))
    → OnlyReads d old read
    → (IsTrue d.tells → FindsAllBelow (d.seen old) worker workers 12 entries floor ends)
    → SlabsRead d worker workers old read entries floor ends
are-read told settled reads found =
    record { told = told; settled = settled; reads = reads; found = found }

-- then what isn't kept is freed
module _ {D : Type 0} {d : Ghosts D} {worker workers : ℕ} {old read : D} {entries : Entries}
    {floor : ℕ} {ends : List ℕ} (slabs : SlabsRead d worker workers old read entries floor ends) where
  holds : IsTrue d.tells → HoldsKept entries (slot_at all_classes (d.seen old)) worker workers
  holds tells = subst (λ r. HoldsKept entries r worker workers) (all-slots (d.seen old))
      (slabs.found tells).found.holds

  floor-found : IsTrue d.tells → IsFloor (heads_at all_classes (d.seen old)) floor
  floor-found tells = subst (λ h. IsFloor h floor) (all-heads (d.seen old))
      (slabs.found tells).found.floor_is

  bounded-found : IsTrue d.tells → AreBounded (d.seen old)
  bounded-found tells class page low high =
      (slabs.found tells).bounded class page low (omega arith)

  -- why no stamp is left
  pub spent-found : IsTrue d.tells → IsFloor (heads_at all_classes (d.seen old)) floor
      × AreBounded (d.seen old)
  spent-found tells = (floor-found tells, bounded-found tells)

  -- some are left
  pub left-found : floor < 2 ^ 62 - 1 → IsTrue d.tells → AreBounded (d.seen old)
      × HasStampsLeft (d.seen old)
  left-found spare tells = (
    bounded-found tells,
    record { floor = floor; floor_is = floor-found tells; spare = spare },
  )

  -- each item has its class
  fits-found : IsTrue d.tells → (class : ℕ) → ItemsFit (d.seen old) class
  fits-found tells class slot stamp key value stands = elim (class_cases class) [
    | inl small ↦ (slabs.found tells).fits class small.0 (omega (arith, small.1)) slot stamp key
        value stands
    | inr other ↦ elim other [
      | inl large ↦ (slabs.found tells).fits class (omega (arith, large.0)) (omega (arith, large.1))
          slot stamp key value stands
      | inr out ↦ absurd (let never = at_none (d.seen old) class slot out in cc)
    ]
  ]

  pub store-found : IsTrue d.tells → HasFoundStore (d.seen old) worker workers entries floor
  store-found tells = record {
    holds = holds tells;
    floor_is = floor-found tells;
    fits = fits-found tells;
  }

  entries-stand : IsTrue d.tells → EntriesStand entries (reading_of (d.seen old))
  entries-stand tells = kept-stand entries (reading_of (d.seen old)) worker workers (holds tells)

  module _ (fits : floor < 2 ^ 64) (freed : D) where
    same-image : (image : Image) → IsTrue d.tells
        → AnyMayBeFreed entries (d.seen old) (λ c. get_or ends c 0) floor 12 0 image
        → KeepsSlabs (d.seen old) worker workers image
    same-image image tells may = same-store (d.seen old) worker workers floor entries (holds tells)
        (λ c. get_or ends c 0) fits image may (floor-found tells)

    -- each image keeps the slabs
    pub slabs-freed : ((first : Image)
        → HasFreedBelow d entries first (λ c. get_or ends c 0) floor 1 read
        → (IsTrue d.tells → EntriesStand entries (reading_of first))
        → LeavesOnly (d.calls read) (d.calls freed) (d.leaves read) (d.leaves freed)
        (AnyMayBeFreed entries first (λ c. get_or ends c 0) floor 12 0))
        → LeavesOnly (d.calls old) (d.calls freed) (d.leaves old) (d.leaves freed)
        (KeepsSlabs (d.seen old) worker workers)
    slabs-freed run = joins (d.calls old) (d.calls read) (d.calls freed) (d.leaves old)
        (d.leaves read) (d.leaves freed) (KeepsSlabs (d.seen old) worker workers)
        (slabs-read d worker workers old read slabs.settled slabs.reads)
        (weaker-told (d.calls read) (d.calls freed) (d.leaves read) (d.leaves freed)
        (AnyMayBeFreed entries (d.seen old) (λ c. get_or ends c 0) floor 12 0)
        (KeepsSlabs (d.seen old) worker workers) (IsTrue d.tells)
        (λ t f p c left. (slabs.told freed t f p c left).0) (run (d.seen old)
        (below-start d worker workers old read slabs.settled slabs.reads entries floor ends)
        entries-stand) same-image)

    module _ (stacks : List Tail)
        (done : (first : Image)
        → HasFreedBelow d entries first (λ c. get_or ends c 0) floor 1 read
        → (IsTrue d.tells → EntriesStand entries (reading_of first))
        → FreesAnyBelow d entries first (λ c. get_or ends c 0) floor 12 freed stacks) where
      frees : FreesAnyBelow d entries (d.seen old) (λ c. get_or ends c 0) floor 12 freed stacks
      frees = done (d.seen old)
          (below-start d worker workers old read slabs.settled slabs.reads entries floor ends)
          entries-stand

      freed_may : IsTrue d.tells
          → AnyMayBeFreed entries (d.seen old) (λ c. get_or ends c 0) floor 12 0 (d.seen freed)
      freed_may tells = freed-may (d.seen old) worker workers floor entries (holds tells) ends fits
          (d.seen freed) (frees.seen tells)

      -- the disk has the same slabs
      pub slabs-same : IsTrue d.tells → KeepsSlabs (d.seen old) worker workers (d.seen freed)
      slabs-same tells = same-image (d.seen freed) tells (freed_may tells)

      -- which are opened
      pub slabs-opened : IsTrue d.tells → d.seen old 0 0 ≡ head_page worker workers
          → IsOpenedStore (d.seen freed) worker workers entries floor ends stacks
      slabs-opened tells headed =
          let all = frees.seen tells in
          let lists = frees.stacks_are tells in
          let may = freed_may tells in
          record {
            holds = holds-still (d.seen old) worker workers floor entries (holds tells)
                (λ c. get_or ends c 0) fits (d.seen freed) may;
            floor_is = floor-stays (d.seen old) worker workers floor entries (holds tells)
                (λ c. get_or ends c 0) fits (d.seen freed) may (floor-found tells);
            count = omega (arith, lists.count);
            none = lists.none;
            lists = λ class stack low has.
                let within = get-within stacks stack class has in
                let count = lists.count in
                let high : class ≤ 11 = omega arith in
                has-list (d.seen old) worker workers floor entries (holds tells) ends fits
                (d.seen freed) all class low high stack
                ((slabs.found tells).ends_are class low (omega arith))
                (lists.each class stack low has);
            head = may.others 0 0 (inl refl) ∙ headed;
            bounded = λ class page low high from. may.past class page from
                ∙ bounded-found tells class page low high from;
          }
