-- A store as its callers see it.
use Rattle.std.specs.Prelude.{◌≡◌, ◌⊎◌, ℕ, ◌≤◌, Bool, List, Option, None, Some, IsTrue, IsSome}
use Rattle.std.specs.Prelude.{length}
use Rattle.std.specs.FinMap as finite
use Rattle.kv_base.specs.Image.{Image, zero_page}
use Rattle.kv_base.specs.Partition.{owner_of}
use Rattle.kv_base.specs.declared.limits.Limits.{Limits}
use Rattle.kv_cache.specs.Cache.{Cache}
use Rattle.kv_base.specs.Crash.{Choices, Only}
use Rattle.kv_disk.specs.declared.disk.Disk as disks
use Rattle.kv_index.specs.declared.index.Index as indexes
use Rattle.kv_index.specs.declared.entry.Entry.{Entry}
use Rattle.kv_index.specs.Entries.{Entries, HasNoneFrom, IsNext}
use Rattle.kv_model.specs.Head.{head_page}
use Rattle.kv_model.specs.Layout.{all_classes, class_of}
use Rattle.kv_model.specs.Reading.{Copy, Gives, IsFound, slot_at}
use Rattle.kv_model.specs.Recovery.{most_pages}
use Rattle.kv_model.specs.Slots.{Never, Item}
use Rattle.kv_slab.specs.Given.{Answer}
use Rattle.kv_slab.specs.Rounds.{Index, answer_of}
use Rattle.kv_slab.specs.Images.{IsZeroSlot}
use Rattle.kv_slab.specs.Moves.{ArePlaces, answer_after}
use Rattle.kv_slab.specs.Rooms.{Rooms, AreRooms, ArePlaced, AreLinked}
use Rattle.kv_slab.specs.Assigned.{AreEnds}
use Rattle.kv_slab.specs.declared.change.Change.{Change}
use Rattle.kv_slab.specs.declared.change.Item.{Item as ItemOf}
use Rattle.kv_slab.specs.declared.plan.Plan.{Plan}
use Rattle.kv_slab.specs.declared.room.Room.{Room}

-- the disk with its cache, the index, the free slots and the ends by class, the limits, the worker
-- and the number of workers, the plan that is kept, and whether the store is closed
pub record View (D I : Type 0) : Type 0 where
  pub disk : Cache D
  pub index : I
  pub rooms : List Room
  pub limits : Limits
  pub worker : ℕ
  pub workers : ℕ
  pub plan : Option Plan
  pub closed : Bool

-- the head page names the worker, and no page past the most slots of a slab has a byte other than
-- zero; this holds of each image that a crash may leave, and of a closed store too
pub record IsOfWorker (worker workers : ℕ) (image : Image) : Type 0 where
  pub head : image 0 0 ≡ head_page worker workers
  pub bounded : (class page : ℕ) → 1 ≤ class → class ≤ 11 → most_pages class ≤ page
      → image class page ≡ zero_page

-- the image holds the store: each entry's item stands at its place; each slot below an end is an
-- entry's or in its class's list, with its link; from the end on a slab is zeros
pub record Stands (image : Image) (index : Index) (rooms : Rooms)
    (worker workers : ℕ) : Type 0 where
  pub items : (k : List ℕ) (e : Entry) → index k ≡ Some e → (value : List ℕ)
      × (slot_at all_classes image e.place.class e.place.slot ≡ Item e.stamp k value)
  pub owned : (k : List ℕ) (e : Entry) → index k ≡ Some e → owner_of k workers ≡ worker
  pub placed : ArePlaced index rooms
  pub linked : AreLinked (slot_at all_classes image) rooms
  pub unused : (c s : ℕ) → (rooms c).end ≤ s → slot_at all_classes image c s ≡ Never 0
  pub zeros : (c s : ℕ) → 1 ≤ c → c ≤ 11 → (rooms c).end ≤ s → IsZeroSlot image c s
  pub of_worker : IsOfWorker worker workers image

-- the store is open: nothing is pending; and where the disk tells what it reads, that holds the
-- store, with the lists and ends that memory stands for
pub record IsOpen (tells : Bool) (seen : Image) (choices : Choices) (index : Index)
    (kept : List Room) (worker workers : ℕ) : Type 0 where
  pub settled : Only seen choices
  pub ends : AreEnds kept
  pub places : ArePlaces index
  pub stands : IsTrue tells → (rooms : Rooms) × AreRooms kept rooms
      × Stands seen index rooms worker workers

-- what each key has
abbrev pub map_of : Image → Index → List ℕ → Answer
map_of seen index k = answer_of (slot_at all_classes seen) (index k)

-- what each key of the store has
abbrev pub store_map : {D I : Type 0} → disks.Ghosts D → indexes.Ghosts I → View D I → List ℕ
    → Answer
store_map d i store k = map_of (d.seen store.disk.disk) (finite.get (i.entries store.index)) k

-- each key has what it had, or what it has after the changes
abbrev pub OldOrNewMap : (List ℕ → Answer) → List Change → ℕ → ℕ → Image → Type 0
OldOrNewMap map changes worker workers image = (k : List ℕ)
    → Gives (slot_at all_classes image) worker workers k (map k)
    ⊎ Gives (slot_at all_classes image) worker workers k (answer_after changes k (map k))

-- what the image keeps for each key is what the map has, and each key is found at one place at most
pub record KeepsMap (image : Image) (map : List ℕ → Answer) (worker workers : ℕ) : Type 0 where
  pub gives : (k : List ℕ) → Gives (slot_at all_classes image) worker workers k (map k)
  pub single : (k : List ℕ) (a b : Copy) → IsFound (slot_at all_classes image) worker workers k a
      → IsFound (slot_at all_classes image) worker workers k b
      → (a.class ≡ b.class) × (a.slot ≡ b.slot)

-- this is the key's item
abbrev pub IsAnswer : Option ItemOf → List ℕ → Answer → Type 0
IsAnswer None key None = Unit {0}
IsAnswer None key (Some answer) = ⊥
IsAnswer (Some item) key None = ⊥
IsAnswer (Some item) key (Some answer) = (item.key ≡ key) × (item.stamp ≡ answer.0)
    × (item.value ≡ answer.1)

-- the item of each entry stands at its place
abbrev pub HasItems : Image → Index → Type 0
HasItems seen index = (k : List ℕ) (e : Entry) → index k ≡ Some e → (value : List ℕ)
    × (slot_at all_classes seen e.place.class e.place.slot ≡ Item e.stamp k value)

-- this is the item with the least key at or after the given one
abbrev pub IsNextItem : Entries → Image → List ℕ → Option ItemOf → Type 0
IsNextItem entries seen low None = HasNoneFrom entries low
IsNextItem entries seen low (Some item) = (e : Entry) × IsNext entries low item.key e
    × IsAnswer (Some item) item.key (map_of seen (finite.get entries) item.key)

-- on a disk that tells what it reads these are the store's free slots and ends, and its image holds
-- it with them
abbrev pub HasRooms : {D I : Type 0} → disks.Ghosts D → indexes.Ghosts I → View D I → Rooms
    → Type 0
HasRooms d i store rooms = IsTrue d.tells → AreRooms store.rooms rooms
    × Stands (d.seen store.disk.disk) (finite.get (i.entries store.index)) rooms store.worker
    store.workers

-- on every disk: the item has the key and its entry's stamp, and there is one exactly where there is
-- an entry
abbrev pub IsEntryItem : Option ItemOf → List ℕ → Option Entry → Type 0
IsEntryItem None key None = Unit {0}
IsEntryItem None key (Some e) = ⊥
IsEntryItem (Some item) key None = ⊥
IsEntryItem (Some item) key (Some e) = (item.key ≡ key) × (item.stamp ≡ e.stamp)

-- key and value of the item have a class
abbrev pub HasClass : ItemOf → Type 0
HasClass item = IsSome (class_of all_classes (length item.key) (length item.value))

-- on every disk: the item has the least key at or after the given one, and its entry's stamp
abbrev pub IsNextEntry : Entries → List ℕ → Option ItemOf → Type 0
IsNextEntry entries low None = HasNoneFrom entries low
IsNextEntry entries low (Some item) = (e : Entry) × IsNext entries low item.key e
    × (item.stamp ≡ e.stamp)
