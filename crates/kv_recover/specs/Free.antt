-- The slots that are freed while a disk is opened, and what they are written with.
use Rattle.std.specs.Prelude.{◌≡◌, ◌⊎◌, ℕ, ◌<◌, ◌≤◌, ◌^◌, List, Option, None, Some, IfSome, IsTrue}
use Rattle.std.specs.Prelude.{[], Bool, false, not, ◌==◌, ◌&&◌, length, slice_get, slice_index}
use Rattle.std.specs.List.{filter, range_with_len}
use Rattle.std.specs.FinMap as finite
use Rattle.kv_base.specs.Image.{Image}
use Rattle.kv_disk.specs.declared.disk.Disk.{Ghosts}
use Rattle.kv_base.specs.Crash.{MayLeave}
use Rattle.kv_free.specs.FreeList.{Tail, StandsFor, link_of}
use Rattle.kv_index.specs.declared.entry.Entry.{Entry}
use Rattle.kv_index.specs.Entries.{Entries}
use Rattle.kv_model.specs.Layout.{all_classes}
use Rattle.kv_model.specs.Recovery.{most_pages}
use Rattle.kv_model.specs.SlotBytes.{tombstone_bytes}
use Rattle.kv_model.specs.Slots.{Slot, Never, Item, Tombstone, Bad, Torn}
use Rattle.kv_model.specs.Reading.{Reading, page_of, small_slot, slot_at}
use Rattle.kv_recover.specs.SoFar.{IsBefore}
use Rattle.kv_recover.specs.Pass.{bytes_in}

-- the entry is there and has this place
abbrev pub is_place : Option Entry → ℕ → ℕ → Bool
is_place None class slot = false
is_place (Some entry) class slot = (entry.place.class == class) && (entry.place.slot == slot)

-- the slot, in which this stands, is that of its key's entry
abbrev pub is_entry : Entries → ℕ → ℕ → Slot → Bool
is_entry entries class slot (Never stamp) = false
is_entry entries class slot (Item stamp key value) = is_place (finite.get entries key) class slot
is_entry entries class slot (Tombstone stamp link) = false
is_entry entries class slot (Bad stamp) = false
is_entry entries class slot (Torn stamp) = false

-- the slots below this number that are no entry's, in order
unfoldable pub free_slots : Entries → Reading → ℕ → ℕ → List ℕ
free_slots entries reading class count =
    filter (λ slot. not (is_entry entries class slot (reading class slot))) (range_with_len 0 count)

-- a slot below the end that is no entry's
pub record IsFree (entries : Entries) (reading : Reading) (end class slot : ℕ) : Type 0 where
  pub below : slot < end
  pub none : is_entry entries class slot (reading class slot) ≡ false

-- a tombstone with this stamp, which links to the 64th free slot before it
pub record IsFreedSlot (entries : Entries) (reading : Reading) (class floor slot : ℕ)
    (bytes : List ℕ) : Type 0 where
  pub link : Option ℕ
  pub link_is : link ≡ link_of (free_slots entries reading class slot)
  pub small : IfSome link (λ other. other < 2 ^ 24)
  pub is : bytes ≡ tombstone_bytes class floor link

-- of a page's slots below this one the free ones have their tombstones, and all others are as they were
pub record FreesPage (entries : Entries) (reading : Reading) (end class floor number slot : ℕ)
    (old now : List ℕ) : Type 0 where
  pub freed : (s : ℕ) → page_of class s ≡ number → s < slot → IsFree entries reading end class s
      → IsFreedSlot entries reading class floor s (bytes_in now class s)
  pub kept : (s : ℕ) → page_of class s ≡ number
      → (s < slot → IsFree entries reading end class s → ⊥)
      → bytes_in now class s ≡ bytes_in old class s

-- what the slots of the first image read as
abbrev pub reading_of : Image → Reading
reading_of first = slot_at all_classes first

-- a slot of the image is as it was in the first one, or is a free one before the place that has its
-- tombstone
abbrev pub SlotMayBeFreed : Entries → Image → (ℕ → ℕ) → ℕ → ℕ → ℕ → Image → ℕ → ℕ → Type 0
SlotMayBeFreed entries first ends floor class slot image c s =
    (small_slot image c s ≡ small_slot first c s)
    ⊎ (IsBefore c s class slot × IsFree entries (reading_of first) (ends c) c s
    × IsFreedSlot entries (reading_of first) c floor s (small_slot image c s))

-- each slot before the place may have been freed, and nothing else has changed
pub record MayBeFreed (entries : Entries) (first : Image) (ends : ℕ → ℕ) (floor class slot : ℕ)
    (image : Image) : Type 0 where
  pub slots : (c s : ℕ) → 1 ≤ c → c ≤ 7
      → SlotMayBeFreed entries first ends floor class slot image c s
  pub others : (f p : ℕ) → (f ≡ 0) ⊎ (7 < f) → image f p ≡ first f p
  pub past : (f p : ℕ) → most_pages f ≤ p → image f p ≡ first f p

-- each free slot before the place was freed, and nothing else has changed
pub record IsFreed (entries : Entries) (first : Image) (ends : ℕ → ℕ) (floor class slot : ℕ)
    (image : Image) : Type 0 where
  pub freed : (c s : ℕ) → 1 ≤ c → c ≤ 7 → IsBefore c s class slot
      → IsFree entries (reading_of first) (ends c) c s
      → IsFreedSlot entries (reading_of first) c floor s (small_slot image c s)
  pub kept : (c s : ℕ) → 1 ≤ c → c ≤ 7
      → (IsBefore c s class slot → IsFree entries (reading_of first) (ends c) c s → ⊥)
      → small_slot image c s ≡ small_slot first c s
  pub others : (f p : ℕ) → (f ≡ 0) ⊎ (7 < f) → image f p ≡ first f p
  pub past : (f p : ℕ) → most_pages f ≤ p → image f p ≡ first f p

-- the disk reads with the free slots before the place freed, a crash now leaves an image in which
-- they may have been freed, and the stack has the class's free slots so far
pub record HasFreed {D : Type 0} (d : Ghosts D) (entries : Entries) (first : Image) (ends : ℕ → ℕ)
    (floor class slot : ℕ) (disk : D) (stack : Tail) : Type 0 where
  pub seen : IsTrue d.tells → IsFreed entries first ends floor class slot (d.seen disk)
  pub crash : (image : Image) → MayLeave (d.leaves disk (d.calls disk)) image
      → MayBeFreed entries first ends floor class slot image
  pub list : IsTrue d.tells → StandsFor stack (free_slots entries (reading_of first) class slot)

-- the same before the first slot of a class
pub record HasFreedBelow {D : Type 0} (d : Ghosts D) (entries : Entries) (first : Image)
    (ends : ℕ → ℕ) (floor class : ℕ) (disk : D) : Type 0 where
  pub seen : IsTrue d.tells → IsFreed entries first ends floor class 0 (d.seen disk)
  pub crash : (image : Image) → MayLeave (d.leaves disk (d.calls disk)) image
      → MayBeFreed entries first ends floor class 0 image

-- of each class below this one there is a stack, which has the class's free slots
pub record HasStacks (entries : Entries) (first : Image) (ends : ℕ → ℕ) (class : ℕ)
    (stacks : List Tail) : Type 0 where
  pub some : 1 ≤ class
  pub count : length stacks ≡ class
  pub none : (stack : Tail) → slice_get stacks 0 ≡ Some stack → StandsFor stack []
  pub each : (c : ℕ) (stack : Tail) → 1 ≤ c → slice_get stacks c ≡ Some stack
      → StandsFor stack (free_slots entries (reading_of first) c (ends c))

-- all classes below this one are freed
pub record FreesBelow {D : Type 0} (d : Ghosts D) (entries : Entries) (first : Image)
    (ends : ℕ → ℕ) (floor class : ℕ) (disk : D) (stacks : List Tail) : Type 0 where
  pub freed : HasFreedBelow d entries first ends floor class disk
  pub stacks_are : IsTrue d.tells → HasStacks entries first ends class stacks

-- below the class's end no slot is free
abbrev pub AreTaken : Entries → Image → (ℕ → ℕ) → ℕ → Type 0
AreTaken entries first ends class =
    (slot : ℕ) → IsFree entries (reading_of first) (ends class) class slot → ⊥

-- a class that has as many entries as slots below its end has no free one
abbrev pub AreFullTaken : Entries → Image → (ℕ → ℕ) → List ℕ → Type 0
AreFullTaken entries first ends counts =
    (class : ℕ) → class < 12 → slice_index counts class ≡ ends class
    → AreTaken entries first ends class
