-- A page is read, and written with its free slots freed, on a disk.
use Rattle.std.proofs.Common.{◌≡◌, ◌⊎◌, inl, inr, ℕ, zero, suc, ◌+◌, ◌*◌, ◌<◌, ◌≤◌, List, [], ◌∷◌}
use Rattle.std.proofs.Common.{◌++◌, Result, Ok, Err, OnOk, Some, length, slice_get, length-append}
use Rattle.std.proofs.lemmas.Bool.{cases_eq, cases_Bool}
use Rattle.kv_recover.specs.SoFar.{IsBefore}
use Rattle.std.proofs.Common.{refl, sym, ap, ◌∙◌, subst, arith, IsTrue}
use Rattle.kv_base.specs.Image.{Image, with_page}
use Rattle.kv_disk.specs.declared.disk.Disk.{Ghosts}
use Rattle.kv_base.specs.Crash.{MayLeave, Adds, Advances, LeavesOnly}
use Rattle.kv_base.proofs.CrashLemmas.{writes, weaker}
use Rattle.kv_free.specs.FreeList.{Tail, StandsFor}
use Rattle.kv_index.specs.Entries.{Entries}
use Rattle.kv_model.specs.Layout.{all_classes, slots_in_page}
use Rattle.kv_model.specs.Recovery.{most_pages}
use Rattle.kv_model.specs.Slots.{read_small}
use Rattle.kv_model.specs.Reading.{Reading, page_of}
use Rattle.kv_recover.specs.Pass.{bytes_in}
use Rattle.kv_disk.specs.Steps.{OnlyReads}
use Rattle.kv_recover.specs.Free.{free_slots, FreesPage, reading_of, MayBeFreed, IsFreed, HasFreed}
use Rattle.kv_recover.specs.Free.{is_entry, IsFree, HasFreedBelow, HasStacks, AreTaken}
use Rattle.kv_recover.proofs.FilteredLemmas.{get-within}
use Rattle.kv_recover.proofs.PageLemmas.{free_slots-kept}
use Rattle.kv_recover.proofs.FreeLemmas.{Puts, page_reads, may-write, freed-write, puts-same, puts-with, may-up, may-later}

-- what follows of an Ok call, given what the call ensures where the disk tells
pub on_ok : {T E : Type 0} (result : Result T E) (X P Q : Type 0) → (X → OnOk result P)
    → ((X → P) → Q) → OnOk result Q
on_ok (Ok x) X P Q ensured so = so ensured
on_ok (Err e) X P Q ensured so = tt

-- a disk that leaves something tells what it reads
abbrev pub Told : {D : Type 0} → Ghosts D → Type 0
Told {D} d = (disk : D) (t f p : ℕ) (c : List ℕ) → d.leaves disk t f p c → IsTrue d.tells
    × MayLeave (d.leaves disk (d.calls disk)) (d.seen disk)

module _ {D : Type 0} (d : Ghosts D) (told : Told d) (entries : Entries) (first : Image)
    (ends : ℕ → ℕ) (floor class number end start last : ℕ) (low : 1 ≤ class) (high : class ≤ 7)
    (end_is : ends class ≡ end) (start_is : start ≡ number * slots_in_page class)
    (after : start ≤ last) (limit : last ≤ start + slots_in_page class)
    (within : number < most_pages class) (old mid : D)
    (stack : Tail) (has : HasFreed d entries first ends floor class start old stack)
    (reads : OnlyReads d old mid) where
  -- while the page is read
  pub read-moments : LeavesOnly (d.calls old) (d.calls mid) (d.leaves old) (d.leaves mid)
      (MayBeFreed entries first ends floor class last)
  read-moments = weaker (d.calls old) (d.calls mid) (d.leaves old) (d.leaves mid)
      (MayLeave (d.leaves old (d.calls old))) (MayBeFreed entries first ends floor class last)
      reads.any_moment
      (λ image left. may-up entries first ends floor class number last low high start start_is
      after limit within image (has.crash image left))

  -- once it was read
  may-mid : (image : Image) → MayLeave (d.leaves mid (d.calls mid)) image
      → MayBeFreed entries first ends floor class start image
  may-mid image left = has.crash image
      (reads.any_moment.each (d.calls mid) reads.any_moment.later (omega arith) image left)

  seen-mid : IsTrue d.tells → IsFreed entries first ends floor class start (d.seen mid)
  seen-mid tells = subst (IsFreed entries first ends floor class start) (sym (reads.seen tells))
      (has.seen tells)

  module _ (page content : List ℕ) (page_is : IsTrue d.tells → page ≡ d.seen old class number)
      (behind : Tail)
      (frees : (reading : Reading)
      → ((s : ℕ) → page_of class s ≡ number
      → reading class s ≡ read_small all_classes class (bytes_in page class s))
      → StandsFor stack (free_slots entries reading class start)
      → FreesPage entries reading end class floor number last page content
      × StandsFor behind (free_slots entries reading class last)) where
    page_mid : IsTrue d.tells → page ≡ d.seen mid class number
    page_mid tells = page_is tells ∙ ap (λ image. image class number) (sym (reads.seen tells))

    got : IsTrue d.tells
        → FreesPage entries (reading_of first) (ends class) class floor number last page content
        × StandsFor behind (free_slots entries (reading_of first) class last)
    got tells =
        let both = frees (reading_of first) (page_reads entries first ends floor class number last
        low high start start_is after limit within (d.seen mid) page (page_mid tells) (seen-mid tells))
        (has.list tells) in (
          subst (λ n. FreesPage entries (reading_of first) n class floor number last page content)
              (sym end_is) both.0,
          both.1,
        )

    -- where the page would not change
    pub same-done : page ≡ content → HasFreed d entries first ends floor class last mid behind
    same-done same = record {
      seen = λ tells. freed-write entries first ends floor class number last low high start
          start_is after limit within (d.seen mid) (seen-mid tells) page content (page_mid tells)
          (got tells).0 (d.seen mid)
          (puts-same entries first ends floor class number last low high start start_is after limit within
          (d.seen mid) content (sym same ∙ page_mid tells));
      crash = λ image left. may-up entries first ends floor class number last low high start
          start_is after limit within image (may-mid image left);
      list = λ tells. (got tells).1;
    }

    module _ {T E : Type 0} (result : Result T E) (new : D)
        (call : Advances (d.calls mid) (d.calls new) (d.leaves mid) (d.leaves new))
        (adds : Adds class number content result (d.leaves mid (d.calls mid))
        (d.leaves new (d.calls new))) where
      -- while it is written
      pub write-moments : LeavesOnly (d.calls old) (d.calls new) (d.leaves old) (d.leaves new)
          (MayBeFreed entries first ends floor class last)
      write-moments =
          writes class number content result (d.calls old) (d.calls mid) (d.calls new)
          (d.leaves old) (d.leaves mid) (d.leaves new)
          (MayBeFreed entries first ends floor class last) (d.seen mid)
          (λ f p c left. (told mid (d.calls mid) f p c left).1) read-moments call adds
          (λ before left.
          let tells = (told mid (d.calls mid) 0 0 (before 0 0) (left 0 0)).0 in
          may-write entries first ends floor class number last low high start start_is after limit within
          (d.seen mid) (seen-mid tells) page content (page_mid tells) (got tells).0 before
          (with_page before class number content) (puts-with before class number content)
          (may-mid before left))

      -- once it was written
      pub write-done : (IsTrue d.tells
          → d.seen new ≡ with_page (d.seen mid) class number content)
          → HasFreed d entries first ends floor class last new behind
      write-done written = record {
        seen = λ tells. freed-write entries first ends floor class number last low high start
            start_is after limit within (d.seen mid) (seen-mid tells) page content (page_mid tells)
            (got tells).0 (d.seen new)
            (subst (λ image. Puts (d.seen mid) class number content image) (sym (written tells))
            (puts-with (d.seen mid) class number content));
        crash = λ image left. write-moments.each (d.calls new) write-moments.later (omega arith)
            image left;
        list = λ tells. (got tells).1;
      }

module _ (entries : Entries) (first : Image) (ends : ℕ → ℕ) (floor class end : ℕ)
    (end_is : ends class ≡ end) where
  -- what is before the class's end, or before the next class
  pub past_end : (c s : ℕ) → IsBefore c s (class + 1) 0 → IsFree entries (reading_of first) (ends c) c s
      → IsBefore c s class end
  past_end c s before free = elim (cases_eq c class) [
    | inl same ↦
        let ends_same : ends c ≡ end = ap ends same ∙ end_is in
        let below = free.below in
        inr (same, omega arith)
    | inr other ↦ let differ : (c ≡ class) → ⊥ = other in inl (omega (arith, before))
  ]

  next_class : (c s : ℕ) → IsBefore c s class end → IsBefore c s (class + 1) 0
  next_class c s before = inl (omega (arith, before))

  -- the class is freed to its end, so all before the next is freed
  pub freed-class : (image : Image) → IsFreed entries first ends floor class end image
      → IsFreed entries first ends floor (class + 1) 0 image
  freed-class image freed = record {
    freed = λ c s low high before free. freed.freed c s low high (past_end c s before free) free;
    kept = λ c s low high not_freed. freed.kept c s low high
        (λ before free. not_freed (next_class c s before) free);
    others = freed.others;
    past = freed.past;
  }

  pub may-class : (image : Image) → MayBeFreed entries first ends floor class end image
      → MayBeFreed entries first ends floor (class + 1) 0 image
  may-class image = may-later entries first ends floor class end (class + 1) 0 image next_class

-- before a class's first slot its stack is empty
pub freed-start : {D : Type 0} (d : Ghosts D) (entries : Entries) (first : Image) (ends : ℕ → ℕ)
    (floor class : ℕ) (disk : D) (stack : Tail) → StandsFor stack []
    → HasFreedBelow d entries first ends floor class disk
    → HasFreed d entries first ends floor class 0 disk stack
unfolding free_slots
freed-start d entries first ends floor class disk stack empty below = record {
  seen = below.seen;
  crash = below.crash;
  list = λ tells. empty;
}

-- behind its last slot
pub freed-end : {D : Type 0} (d : Ghosts D) (entries : Entries) (first : Image) (ends : ℕ → ℕ)
    (floor class end : ℕ) (disk : D) (stack : Tail) → ends class ≡ end
    → HasFreed d entries first ends floor class end disk stack
    → HasFreedBelow d entries first ends floor (class + 1) disk
freed-end d entries first ends floor class end disk stack end_is has = record {
  seen = λ tells. freed-class entries first ends floor class end end_is (d.seen disk)
      (has.seen tells);
  crash = λ image left. may-class entries first ends floor class end end_is image
      (has.crash image left);
}

-- an item behind a list
get-push : {A : Type 0} (xs : List A) (x y : A) (i : ℕ) → slice_get (xs ++ x ∷ []) i ≡ Some y
    → (slice_get xs i ≡ Some y) ⊎ ((i ≡ length xs) × (x ≡ y))
get-push [] x y zero is = inr (refl, cc)
get-push [] x y (suc i) is = inl is
get-push (z ∷ zs) x y zero is = inl is
get-push (z ∷ zs) x y (suc i) is = elim (get-push zs x y i is) [
  | inl within ↦ inl within
  | inr last ↦ inr (ap suc last.0, last.1)
]

-- one stack more
pub stacks-next : (entries : Entries) (first : Image) (ends : ℕ → ℕ) (class : ℕ)
    (stacks : List Tail) (stack : Tail) → HasStacks entries first ends class stacks
    → StandsFor stack (free_slots entries (reading_of first) class (ends class))
    → HasStacks entries first ends (class + 1) (stacks ++ stack ∷ [])
stacks-next entries first ends class stacks stack has stands = record {
  some = omega arith;
  count = omega (arith, length-append stacks (stack ∷ []), has.count);
  none = λ tail is. elim (get-push stacks stack tail 0 is) [
    | inl within ↦ has.none tail within
    | inr last ↦ absurd (let count = has.count in let some = has.some in let place = last.0 in
        omega arith)
  ];
  each = λ c tail low is. elim (get-push stacks stack tail c is) [
    | inl within ↦ has.each c tail low within
    | inr last ↦
        let at : class ≡ c = (let count = has.count in let place = last.0 in omega arith) in
        subst (λ x. StandsFor tail (free_slots entries (reading_of first) x (ends x))) at
        (subst (λ t. StandsFor t (free_slots entries (reading_of first) class (ends class))) last.1
        stands)
  ];
}

-- the stack of class 0 alone
pub stacks-start : (entries : Entries) (first : Image) (ends : ℕ → ℕ) (stacks : List Tail)
    → length stacks ≡ 1
    → ((stack : Tail) → slice_get stacks 0 ≡ Some stack → StandsFor stack [])
    → HasStacks entries first ends 1 stacks
stacks-start entries first ends stacks one empty = record {
  some = omega arith;
  count = one;
  none = empty;
  each = λ c stack low is. absurd (let within = get-within stacks stack c is in omega arith);
}

-- where no slot below the end is free the list has none
pub none-free : (entries : Entries) (reading : Reading) (class end n : ℕ) → n ≤ end
    → ((slot : ℕ) → IsFree entries reading end class slot → ⊥)
    → free_slots entries reading class n ≡ free_slots entries reading class 0
none-free entries reading class end zero within taken = refl
none-free entries reading class end (suc n) within taken =
    let next : suc n ≡ n + 1 = omega arith in
    elim (cases_Bool (is_entry entries class n (reading class n))) [
      | inl entry ↦ ap (free_slots entries reading class) next
          ∙ free_slots-kept entries reading class n entry
          ∙ none-free entries reading class end n (omega arith) taken
      | inr none ↦ absurd (taken n (record { below = omega arith; none = none }))
    ]

-- what is before the class's end is free below its first slot, where none of its own is free
module _ (entries : Entries) (first : Image) (ends : ℕ → ℕ) (class end : ℕ)
    (taken : AreTaken entries first ends class) where
  pub free-before : (c s : ℕ) → IsBefore c s class end
      → IsFree entries (reading_of first) (ends c) c s → IsBefore c s class 0
  free-before c s before free = elim before [
    | inl less ↦ inl less
    | inr at ↦
        absurd (taken s (subst (λ x. IsFree entries (reading_of first) (ends x) x s) at.0 free))
  ]

  pub before-end : (c s : ℕ) → IsBefore c s class 0 → IsBefore c s class end
  before-end c s before = elim before [
    | inl less ↦ inl less
    | inr at ↦ absurd (omega (arith, at.1))
  ]

-- a class without a free slot is freed as it is
pub freed-none : {D : Type 0} (d : Ghosts D) (entries : Entries) (first : Image) (ends : ℕ → ℕ)
    (floor class end : ℕ) (disk : D) (stack : Tail) → ends class ≡ end
    → (IsTrue d.tells → AreTaken entries first ends class)
    → HasFreed d entries first ends floor class 0 disk stack
    → HasFreed d entries first ends floor class end disk stack
freed-none d entries first ends floor class end disk stack end_is taken has = record {
  seen = λ tells.
      let freed = has.seen tells in
      record {
        freed = λ c s low high before free. freed.freed c s low high
            (free-before entries first ends class end (taken tells) c s before free) free;
        kept = λ c s low high not_freed. freed.kept c s low high (λ before free. not_freed
            (before-end entries first ends class end (taken tells) c s before) free);
        others = freed.others;
        past = freed.past;
      };
  crash = λ image left. may-later entries first ends floor class 0 class end image
      (λ c s before. elim before [ inl less ↦ inl less | inr at ↦ absurd (omega (arith, at.1)) ])
      (has.crash image left);
  list = λ tells. subst (StandsFor stack) (sym (none-free entries (reading_of first) class end end
      (omega arith) (subst (λ e. (slot : ℕ) → IsFree entries (reading_of first) e class slot → ⊥)
      end_is (taken tells)))) (has.list tells);
}
