-- The report of all items that disks keep.
use Rattle.std.specs.Prelude.{◌≡◌, ◌<◌, ◌⊎◌, ℕ, List, [], map, length, slice_get, Some, IsTrue, Option}
use Rattle.std.specs.Prelude.{Contains}
use Rattle.std.specs.List.{concat}
use Rattle.std.specs.Option.{option_map_or}
use Rattle.kv_base.specs.Image.{Image}
use Rattle.kv_base.specs.Stream.{Takes}
use Rattle.kv_disk.specs.declared.disk.Disk.{Ghosts}
use Rattle.kv_model.specs.Layout.{all_classes}
use Rattle.kv_model.specs.Reading.{Copy, IsKept, slot_at}
use Rattle.kv_model.specs.Slots.{Slot, Never, Item, Tombstone, Bad, Torn}
use Rattle.kv_recover.specs.Listed.{IsSlabPlace, copy_with}
use Rattle.kv_tools.specs.declared.fault.ToolFault.{ToolFault}
use Rattle.kv_tools.specs.declared.fault.ToolFault.TheVariants.{Store, DiskFault, SinkFault, NoMemory}
use Rattle.kv_tools.specs.declared.merge.Listed.{Listed}
use Rattle.kv_tools.specs.Disks.{AreStores}
use Rattle.kv_tools.specs.Lines.{item_line}
use Rattle.kv_tools.specs.Merged.{Rises}
use Rattle.kv_tools.specs.Sent.{TakesSome}

-- the value of the item that stands in a slot
abbrev pub value_in : Slot → List ℕ
value_in (Never stamp) = []
value_in (Item stamp key value) = value
value_in (Tombstone stamp link) = []
value_in (Bad stamp) = []
value_in (Torn stamp) = []

-- the line of an item whose value stands in the image
abbrev pub line_in : Image → Listed → List ℕ
line_in image item = item_line item.kept.stamp item.kept.key
    (value_in (slot_at all_classes image item.kept.place.class item.kept.place.slot))

-- its line, by the disk of its worker
abbrev pub line_of : {D : Type 0} → Ghosts D → List D → Listed → List ℕ
line_of d disks item =
    option_map_or (λ disk. line_in (d.seen disk) item) (slice_get disks item.worker) []

-- the lines of items
abbrev pub lines_of : {D : Type 0} → Ghosts D → List D → List Listed → List ℕ
lines_of d disks items = concat (map (line_of d disks) items)

-- the item is kept on the disk of this worker of so many
abbrev pub IsKeptIn : {D : Type 0} → Ghosts D → D → ℕ → ℕ → Listed → Type 0
IsKeptIn d disk worker workers item = (value : List ℕ)
    × IsKept (slot_at all_classes (d.seen disk)) worker workers item.kept.key
    (copy_with item.kept value)

-- the item is kept on the disk of its worker
abbrev pub IsKeptOn : {D : Type 0} → Ghosts D → List D → Listed → Type 0
IsKeptOn {D} d disks item = (disk : D) × (slice_get disks item.worker ≡ Some disk)
    × IsKeptIn d disk item.worker (length disks) item

-- the items have one of the worker with this key
abbrev pub HasKey : List Listed → ℕ → List ℕ → Type 0
HasKey items worker key = (item : Listed) × Contains items item × (item.worker ≡ worker)
    × (item.kept.key ≡ key)

-- the items are those that the first disks keep, so many, by rising key, and each of these disks
-- opens as its worker's store
pub record AreItemsOf {D : Type 0} (d : Ghosts D) (disks : List D) (count : ℕ)
    (items : List Listed) : Type 0 where
  pub each : (item : Listed) → Contains items item → IsKeptOn d disks item
  pub every : (worker : ℕ) (disk : D) (key : List ℕ) (copy : Copy) → worker < count
      → slice_get disks worker ≡ Some disk
      → IsKept (slot_at all_classes (d.seen disk)) worker (length disks) key copy
      → HasKey items worker key
  pub rising : Rises items
  pub stores : AreStores d disks count

-- each item has the number of a disk below this one, and stands in a slot that a slab may have
abbrev pub ArePlaced : ℕ → List Listed → Type 0
ArePlaced count items = (item : Listed) → Contains items item
    → (item.worker < count) × IsSlabPlace item.kept.place

-- the lines of all items that the disks keep were appended to what a sink holds
pub record Dumps {D : Type 0} (d : Ghosts D) (disks : List D) (before now : Option (List ℕ)) :
    Type 0 where
  pub items : List Listed
  pub items_are : AreItemsOf d disks (length disks) items
  pub took : Takes before now (lines_of d disks items)

-- a front of those lines was appended
pub record DumpsFront {D : Type 0} (d : Ghosts D) (disks : List D)
    (before now : Option (List ℕ)) : Type 0 where
  pub items : List Listed
  pub items_are : AreItemsOf d disks (length disks) items
  pub took : TakesSome before now (lines_of d disks items)

-- how far the report came: to nothing where a disk was refused, behind disks that open as stores, or
-- to some byte
abbrev pub DumpsUntil : {D : Type 0} → Ghosts D → List D → Option (List ℕ) → Option (List ℕ)
    → ToolFault → Type 0
DumpsUntil d disks before now (Store worker fault) = Takes before now []
    × (IsTrue d.tells → AreStores d disks worker)
DumpsUntil d disks before now (DiskFault worker) = IsTrue d.tells → DumpsFront d disks before now
DumpsUntil d disks before now SinkFault = IsTrue d.tells → DumpsFront d disks before now
DumpsUntil d disks before now NoMemory = Takes before now []
    ⊎ (IsTrue d.tells → DumpsFront d disks before now)
