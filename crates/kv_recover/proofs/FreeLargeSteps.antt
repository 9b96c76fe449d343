-- A slot of the classes 8 to 11 is read, and its first page written where it is free, on a disk.
use Rattle.std.proofs.Common.{◌≡◌, inl, inr, ℕ, ◌+◌, ◌-◌, ◌<◌, ◌≤◌, ◌^◌, true, false, List, [], ◌∷◌, ◌++◌}
use Rattle.std.specs.List.{range_with_len}
use Rattle.std.proofs.Common.{map, drop, length, IfSome, Result, refl, sym, ap, ◌∙◌, subst, arith, IsTrue}
use Rattle.std.proofs.lemmas.Bool.{false≢true}
use Rattle.kv_base.specs.Image.{Image, with_page}
use Rattle.kv_disk.specs.declared.disk.Disk.{Ghosts}
use Rattle.kv_base.specs.Crash.{MayLeave, Adds, Advances, LeavesOnly}
use Rattle.kv_base.proofs.CrashLemmas.{writes, weaker}
use Rattle.kv_free.specs.FreeList.{Tail, StandsFor, link_of}
use Rattle.kv_index.specs.Entries.{Entries}
use Rattle.kv_model.specs.Layout.{all_classes, pages_in_slot}
use Rattle.kv_model.specs.SlotBytes.{tombstone_bytes}
use Rattle.kv_model.specs.Slots.{read_large}
use Rattle.kv_model.specs.Reading.{page_of}
use Rattle.kv_disk.specs.Steps.{OnlyReads}
use Rattle.kv_recover.specs.Free.{is_entry, free_slots, IsFree, reading_of}
use Rattle.kv_recover.specs.FreeLarge.{AnyMayBeFreed, AreFreed, HasFreedAny, FreesAnyBelow}
use Rattle.kv_recover.specs.Free.{HasStacks, AreTaken}
use Rattle.kv_recover.specs.SoFar.{IsBefore}
use Rattle.kv_recover.proofs.FreeLemmas.{Puts, puts-with}
use Rattle.kv_recover.proofs.FreeSteps.{Told, past_end, stacks-next, none-free, free-before}
use Rattle.kv_recover.proofs.FreeSteps.{before-end}
use Rattle.kv_recover.proofs.PageLemmas.{free_slots-kept, free_slots-freed}
use Rattle.kv_recover.proofs.LargeLemmas.{slot_at-large}
use Rattle.kv_slot.specs.Views.{read_front}
use Rattle.kv_recover.proofs.FrontLemmas.{entry-front}
use Rattle.kv_recover.proofs.FreeLargeLemmas.{large_split, any-up, are-up, any-put, are-put}

module _ {D : Type 0} (d : Ghosts D) (told : Told d) (entries : Entries) (first : Image)
    (ends : ℕ → ℕ) (floor class slot : ℕ) (low : 8 ≤ class) (high : class ≤ 11)
    (small : slot < 2 ^ 24) (below : slot < ends class) (old read : D) (stack : Tail)
    (has : HasFreedAny d entries first ends floor class slot old stack)
    (reads : OnlyReads d old read) where
  -- while the slot is read
  pub large-read : LeavesOnly (d.calls old) (d.calls read) (d.leaves old) (d.leaves read)
      (AnyMayBeFreed entries first ends floor class (slot + 1))
  large-read = weaker (d.calls old) (d.calls read) (d.leaves old) (d.leaves read)
      (MayLeave (d.leaves old (d.calls old))) (AnyMayBeFreed entries first ends floor class (slot + 1))
      reads.any_moment
      (λ image left. any-up entries first ends floor class slot low high small image
      (has.crash image left))

  any-read : (image : Image) → MayLeave (d.leaves read (d.calls read)) image
      → AnyMayBeFreed entries first ends floor class slot image
  any-read image left = has.crash image
      (reads.any_moment.each (d.calls read) reads.any_moment.later (omega arith) image left)

  are-read : IsTrue d.tells → AreFreed entries first ends floor class slot (d.seen read)
  are-read tells = subst (AreFreed entries first ends floor class slot) (sym (reads.seen tells))
      (has.seen tells)

  module _ (page : List ℕ) (page_is : IsTrue d.tells → page ≡ d.seen old class (page_of class slot))
      (whole : 255 ≤ length (drop 16 page)) where
    -- whether the slot is an entry's, by its first page
    by_front : IsTrue d.tells → is_entry entries class slot (reading_of first class slot)
        ≡ is_entry entries class slot (read_front class page)
    by_front tells =
        let same = (has.seen tells).large_kept class slot low high (λ before _. omega (arith, before)) in
        entry-front entries (reading_of first) class slot page
        (map (d.seen old class) (range_with_len (page_of class slot + 1) (pages_in_slot class - 1)))
        whole (slot_at-large first class slot low high
        ∙ ap (read_large all_classes class) (sym same ∙ large_split (d.seen old) class slot
        ∙ ap (λ x. x ∷ map (d.seen old class)
        (range_with_len (page_of class slot + 1) (pages_in_slot class - 1))) (sym (page_is tells))))
        (has.stand tells)

    -- the slot is an entry's
    pub large-entry : is_entry entries class slot (read_front class page) ≡ true
        → HasFreedAny d entries first ends floor class (slot + 1) read stack
    large-entry entry = record {
      seen = λ tells. are-up entries first ends floor class slot low high small (d.seen read)
          (λ free. false≢true (sym free.none ∙ by_front tells ∙ entry)) (are-read tells);
      crash = λ image left. any-up entries first ends floor class slot low high small image
          (any-read image left);
      list = λ tells. subst (StandsFor stack) (sym (free_slots-kept entries (reading_of first) class
          slot (by_front tells ∙ entry))) (has.list tells);
      stand = has.stand;
    }

    module _ (none : is_entry entries class slot (read_front class page) ≡ false)
        (content : List ℕ) (behind : Tail)
        (freed : (list : List ℕ) → StandsFor stack list
        → (content ≡ tombstone_bytes class floor (link_of list))
        × IfSome (link_of list) (λ other. other < 2 ^ 24)
        × StandsFor behind (list ++ slot ∷ [])) where
      is_none : IsTrue d.tells → is_entry entries class slot (reading_of first class slot) ≡ false
      is_none tells = by_front tells ∙ none

      free_here : IsTrue d.tells → IsFree entries (reading_of first) (ends class) class slot
      free_here tells = record { below = below; none = is_none tells }

      list_next : IsTrue d.tells
          → StandsFor behind (free_slots entries (reading_of first) class (slot + 1))
      list_next tells = subst (StandsFor behind) (sym (free_slots-freed entries (reading_of first)
          class slot (is_none tells))) (freed (free_slots entries (reading_of first) class slot)
          (has.list tells)).2

      put-any : IsTrue d.tells → (before now : Image)
          → Puts before class (page_of class slot) content now
          → AnyMayBeFreed entries first ends floor class slot before
          → AnyMayBeFreed entries first ends floor class (slot + 1) now
      put-any tells before now puts may =
          let got = freed (free_slots entries (reading_of first) class slot) (has.list tells) in
          any-put entries first ends floor class slot low high small before now content puts
          (link_of (free_slots entries (reading_of first) class slot)) got.0 refl got.1
          (free_here tells) may

      put-are : IsTrue d.tells → (now : Image)
          → Puts (d.seen read) class (page_of class slot) content now
          → AreFreed entries first ends floor class (slot + 1) now
      put-are tells now puts =
          let got = freed (free_slots entries (reading_of first) class slot) (has.list tells) in
          are-put entries first ends floor class slot low high small (d.seen read) now content puts
          (link_of (free_slots entries (reading_of first) class slot)) got.0 refl got.1
          (free_here tells) (are-read tells)

      -- its first page would not change
      pub large-same : page ≡ content
          → HasFreedAny d entries first ends floor class (slot + 1) read behind
      large-same same = record {
        seen = λ tells. put-are tells (d.seen read) (record {
          here = ap (λ image. image class (page_of class slot)) (reads.seen tells)
              ∙ sym (page_is tells) ∙ same;
          others = λ f p _. refl;
        });
        crash = λ image left. any-up entries first ends floor class slot low high small image
            (any-read image left);
        list = list_next;
        stand = has.stand;
      }

      module _ {T E : Type 0} (result : Result T E) (new : D)
          (call : Advances (d.calls read) (d.calls new) (d.leaves read) (d.leaves new))
          (adds : Adds class (page_of class slot) content result (d.leaves read (d.calls read))
          (d.leaves new (d.calls new))) where
        -- while it is written
        pub large-moments : LeavesOnly (d.calls old) (d.calls new) (d.leaves old) (d.leaves new)
            (AnyMayBeFreed entries first ends floor class (slot + 1))
        large-moments =
            writes class (page_of class slot) content result (d.calls old) (d.calls read)
            (d.calls new) (d.leaves old) (d.leaves read) (d.leaves new)
            (AnyMayBeFreed entries first ends floor class (slot + 1)) (d.seen read)
            (λ f p c left. (told read (d.calls read) f p c left).1) large-read call adds
            (λ before left.
            let tells = (told read (d.calls read) 0 0 (before 0 0) (left 0 0)).0 in
            put-any tells before (with_page before class (page_of class slot) content)
            (puts-with before class (page_of class slot) content) (any-read before left))

        -- once it was written
        pub large-done : (IsTrue d.tells
            → d.seen new ≡ with_page (d.seen read) class (page_of class slot) content)
            → HasFreedAny d entries first ends floor class (slot + 1) new behind
        large-done written = record {
          seen = λ tells. put-are tells (d.seen new)
              (subst (Puts (d.seen read) class (page_of class slot) content) (sym (written tells))
              (puts-with (d.seen read) class (page_of class slot) content));
          crash = λ image left. large-moments.each (d.calls new) large-moments.later (omega arith)
              image left;
          list = list_next;
          stand = has.stand;
        }

-- up to a later place
pub any-later : (entries : Entries) (first : Image) (ends : ℕ → ℕ) (floor a b c d : ℕ)
    (image : Image) → ((class slot : ℕ) → IsBefore class slot a b → IsBefore class slot c d)
    → AnyMayBeFreed entries first ends floor a b image
    → AnyMayBeFreed entries first ends floor c d image
any-later entries first ends floor a b c d image up may = record {
  slots = may.slots;
  large = λ class slot low high. elim (may.large class slot low high) [
    | inl same ↦ inl same
    | inr freed ↦ inr (up class slot freed.0, freed.1, freed.2)
  ];
  others = may.others;
  past = may.past;
}

-- before a class's first slot its stack is empty
pub any-start : {D : Type 0} (d : Ghosts D) (entries : Entries) (first : Image) (ends : ℕ → ℕ)
    (floor class : ℕ) (disk : D) (stacks : List Tail) (stack : Tail) → StandsFor stack []
    → FreesAnyBelow d entries first ends floor class disk stacks
    → HasFreedAny d entries first ends floor class 0 disk stack
unfolding free_slots
any-start d entries first ends floor class disk stacks stack empty below = record {
  seen = below.seen;
  crash = below.crash;
  list = λ tells. empty;
  stand = below.stand;
}

module _ {D : Type 0} (d : Ghosts D) (entries : Entries) (first : Image) (ends : ℕ → ℕ)
    (floor class end : ℕ) (end_is : ends class ≡ end) where
  next_place : (c s : ℕ) → IsBefore c s class end → IsBefore c s (class + 1) 0
  next_place c s before = inl (omega (arith, before))

  pub any-class : (image : Image) → AnyMayBeFreed entries first ends floor class end image
      → AnyMayBeFreed entries first ends floor (class + 1) 0 image
  any-class image = any-later entries first ends floor class end (class + 1) 0 image next_place

  -- behind its last slot
  pub any-end : (disk : D) (stacks : List Tail) (stack : Tail)
      → (IsTrue d.tells → HasStacks entries first ends class stacks)
      → HasFreedAny d entries first ends floor class end disk stack
      → FreesAnyBelow d entries first ends floor (class + 1) disk (stacks ++ stack ∷ [])
  any-end disk stacks stack has_stacks has = record {
    seen = λ tells.
        let are = has.seen tells in
        record {
          freed = are.freed;
          kept = are.kept;
          large_freed = λ c s low high before free. are.large_freed c s low high
              (past_end entries first ends floor class end end_is c s before free) free;
          large_kept = λ c s low high not_freed. are.large_kept c s low high
              (λ before free. not_freed (next_place c s before) free);
          others = are.others;
          past = are.past;
        };
    crash = λ image left. any-class image (has.crash image left);
    stacks_are = λ tells. stacks-next entries first ends class stacks stack (has_stacks tells)
        (subst (λ n. StandsFor stack (free_slots entries (reading_of first) class n)) (sym end_is)
        (has.list tells));
    stand = has.stand;
  }

-- a class without a free slot is freed as it is
pub any-none : {D : Type 0} (d : Ghosts D) (entries : Entries) (first : Image) (ends : ℕ → ℕ)
    (floor class end : ℕ) (disk : D) (stack : Tail) → ends class ≡ end
    → (IsTrue d.tells → AreTaken entries first ends class)
    → HasFreedAny d entries first ends floor class 0 disk stack
    → HasFreedAny d entries first ends floor class end disk stack
any-none d entries first ends floor class end disk stack end_is taken has = record {
  seen = λ tells.
      let freed = has.seen tells in
      record {
        freed = freed.freed;
        kept = freed.kept;
        large_freed = λ c s low high before free. freed.large_freed c s low high
            (free-before entries first ends class end (taken tells) c s before free) free;
        large_kept = λ c s low high not_freed. freed.large_kept c s low high (λ before free.
            not_freed (before-end entries first ends class end (taken tells) c s before) free);
        others = freed.others;
        past = freed.past;
      };
  crash = λ image left. any-later entries first ends floor class 0 class end image
      (λ c s before. elim before [ inl less ↦ inl less | inr at ↦ absurd (omega (arith, at.1)) ])
      (has.crash image left);
  list = λ tells. subst (StandsFor stack) (sym (none-free entries (reading_of first) class end end
      (omega arith) (subst (λ e. (slot : ℕ) → IsFree entries (reading_of first) e class slot → ⊥)
      end_is (taken tells)))) (has.list tells);
  stand = has.stand;
}
