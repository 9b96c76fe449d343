-- The slots of the classes 8 to 11 that are freed while a disk is opened.
use Rattle.std.specs.Prelude.{◌≡◌, ◌⊎◌, ℕ, ◌<◌, ◌≤◌, ◌^◌, List, ◌∷◌, drop, Option, Some, IfSome, IsTrue}
use Rattle.std.specs.FinMap as finite
use Rattle.kv_base.specs.Image.{Image}
use Rattle.kv_disk.specs.declared.disk.Disk.{Ghosts}
use Rattle.kv_base.specs.Crash.{MayLeave}
use Rattle.kv_free.specs.FreeList.{Tail, StandsFor, link_of}
use Rattle.kv_index.specs.declared.entry.Entry.{Entry}
use Rattle.kv_index.specs.Entries.{Entries}
use Rattle.kv_model.specs.Recovery.{most_pages}
use Rattle.kv_model.specs.SlotBytes.{tombstone_bytes}
use Rattle.kv_model.specs.Slots.{Item}
use Rattle.kv_model.specs.Reading.{Reading, large_slot, small_slot}
use Rattle.kv_recover.specs.SoFar.{IsBefore}
use Rattle.kv_recover.specs.Free.{free_slots, IsFree, IsFreedSlot, SlotMayBeFreed, reading_of}
use Rattle.kv_recover.specs.Free.{HasStacks}

-- the first page is a tombstone that links to the 64th free slot before it, the later ones are as
-- they were
pub record IsFreedLarge (entries : Entries) (reading : Reading) (class floor slot : ℕ)
    (before now : List (List ℕ)) : Type 0 where
  pub link : Option ℕ
  pub link_is : link ≡ link_of (free_slots entries reading class slot)
  pub small : IfSome link (λ other. other < 2 ^ 24)
  pub is : now ≡ tombstone_bytes class floor link ∷ drop 1 before

-- a large slot of the image is as in the first one, or is a free one before the place that has its
-- tombstone
abbrev pub LargeMayBeFreed : Entries → Image → (ℕ → ℕ) → ℕ → ℕ → ℕ → Image → ℕ → ℕ → Type 0
LargeMayBeFreed entries first ends floor class slot image c s =
    (large_slot image c s ≡ large_slot first c s)
    ⊎ (IsBefore c s class slot × IsFree entries (reading_of first) (ends c) c s
    × IsFreedLarge entries (reading_of first) c floor s (large_slot first c s)
    (large_slot image c s))

-- each slot before the place may have been freed, all small ones among them, and nothing else has
-- changed
pub record AnyMayBeFreed (entries : Entries) (first : Image) (ends : ℕ → ℕ) (floor class slot : ℕ)
    (image : Image) : Type 0 where
  pub slots : (c s : ℕ) → 1 ≤ c → c ≤ 7 → SlotMayBeFreed entries first ends floor 8 0 image c s
  pub large : (c s : ℕ) → 8 ≤ c → c ≤ 11
      → LargeMayBeFreed entries first ends floor class slot image c s
  pub others : (f p : ℕ) → (f ≡ 0) ⊎ (11 < f) → image f p ≡ first f p
  pub past : (f p : ℕ) → most_pages f ≤ p → image f p ≡ first f p

-- each free slot before the place was freed, all small ones among them, and nothing else has changed
pub record AreFreed (entries : Entries) (first : Image) (ends : ℕ → ℕ) (floor class slot : ℕ)
    (image : Image) : Type 0 where
  pub freed : (c s : ℕ) → 1 ≤ c → c ≤ 7 → IsFree entries (reading_of first) (ends c) c s
      → IsFreedSlot entries (reading_of first) c floor s (small_slot image c s)
  pub kept : (c s : ℕ) → 1 ≤ c → c ≤ 7 → (IsFree entries (reading_of first) (ends c) c s → ⊥)
      → small_slot image c s ≡ small_slot first c s
  pub large_freed : (c s : ℕ) → 8 ≤ c → c ≤ 11 → IsBefore c s class slot
      → IsFree entries (reading_of first) (ends c) c s
      → IsFreedLarge entries (reading_of first) c floor s (large_slot first c s)
      (large_slot image c s)
  pub large_kept : (c s : ℕ) → 8 ≤ c → c ≤ 11
      → (IsBefore c s class slot → IsFree entries (reading_of first) (ends c) c s → ⊥)
      → large_slot image c s ≡ large_slot first c s
  pub others : (f p : ℕ) → (f ≡ 0) ⊎ (11 < f) → image f p ≡ first f p
  pub past : (f p : ℕ) → most_pages f ≤ p → image f p ≡ first f p

-- in the place of each entry stands its item
abbrev pub EntriesStand : Entries → Reading → Type 0
EntriesStand entries reading = (key : List ℕ) (entry : Entry) → finite.get entries key ≡ Some entry
    → (value : List ℕ) × (reading entry.place.class entry.place.slot ≡ Item entry.stamp key value)

-- the disk reads with the free slots before the place freed, a crash now leaves an image in which
-- they may have been freed, the stack has the class's free slots so far, and each entry has its item
pub record HasFreedAny {D : Type 0} (d : Ghosts D) (entries : Entries) (first : Image)
    (ends : ℕ → ℕ) (floor class slot : ℕ) (disk : D) (stack : Tail) : Type 0 where
  pub seen : IsTrue d.tells → AreFreed entries first ends floor class slot (d.seen disk)
  pub crash : (image : Image) → MayLeave (d.leaves disk (d.calls disk)) image
      → AnyMayBeFreed entries first ends floor class slot image
  pub list : IsTrue d.tells → StandsFor stack (free_slots entries (reading_of first) class slot)
  pub stand : IsTrue d.tells → EntriesStand entries (reading_of first)

-- all classes below this one, from 8 on, are freed, and each class has its stack
pub record FreesAnyBelow {D : Type 0} (d : Ghosts D) (entries : Entries) (first : Image)
    (ends : ℕ → ℕ) (floor class : ℕ) (disk : D) (stacks : List Tail) : Type 0 where
  pub seen : IsTrue d.tells → AreFreed entries first ends floor class 0 (d.seen disk)
  pub crash : (image : Image) → MayLeave (d.leaves disk (d.calls disk)) image
      → AnyMayBeFreed entries first ends floor class 0 image
  pub stacks_are : IsTrue d.tells → HasStacks entries first ends class stacks
  pub stand : IsTrue d.tells → EntriesStand entries (reading_of first)
