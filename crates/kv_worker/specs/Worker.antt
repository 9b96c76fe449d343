-- A worker as its callers see it, and what a batch finds at it.
use Rattle.std.specs.Prelude.{ℕ, ◌-◌, ◌^◌, ◌<◌, ◌≤◌, ◌≡◌, List, [], Option, Some, Bool, IsTrue}
use Rattle.std.specs.Prelude.{if◌then◌else◌, option_map, false}
use Rattle.std.specs.FinMap as finite
use Rattle.kv_disk.specs.declared.disk.Disk as disks
use Rattle.kv_index.specs.declared.entry.Entry.{Entry}
use Rattle.kv_index.specs.declared.index.Index as indexes
use Rattle.kv_model.specs.Batch.{Start}
use Rattle.kv_model.specs.Head.{IsWorker}
use Rattle.kv_model.specs.Layout.{all_classes}
use Rattle.kv_model.specs.Reading.{heads_at, IsFloor}
use Rattle.kv_slab.specs.Given.{Answer}
use Rattle.kv_slab.specs.Memory.{items_in}
use Rattle.kv_slab.specs.View.{View, store_map}

-- the store, and the last stamp of the latest batch that it answered, or the floor before the first
pub record WorkerView (D I : Type 0) : Type 0 where
  pub store : View D I
  pub highest : ℕ

-- an open store right after opening or behind a batch: the number is below 2^62 - 1, and at least
-- every stamp of the map; and where the disk tells what it reads it is the floor of that
pub record IsOpened {D I : Type 0} (d : disks.Ghosts D) (i : indexes.Ghosts I) (store : View D I)
    (floor : ℕ) : Type 0 where
  pub open_ : store.closed ≡ false
  pub worker_is : IsWorker store.worker store.workers
  pub spare : floor < 2 ^ 62 - 1
  pub stamps : (key : List ℕ) (entry : Entry)
      → finite.get (i.entries store.index) key ≡ Some entry → entry.stamp ≤ floor
  pub floor_is : IsTrue d.tells → IsFloor (heads_at all_classes (d.seen store.disk.disk)) floor

-- what the key has: its value where the disk tells what it reads, else only whether it has one
abbrev pub value_told : Bool → Answer → Option Entry → Option (List ℕ)
value_told tells answer entry = if tells then option_map (λ given. given.1) answer
    else option_map (λ _. []) entry

-- what a batch finds at the store
abbrev pub start_of : {D I : Type 0} → disks.Ghosts D → indexes.Ghosts I → View D I → Start
start_of d i store = record {
  layout = all_classes;
  limit = store.limits.slots;
  value = λ key. value_told d.tells (store_map d i store key)
      (finite.get (i.entries store.index) key);
  class = λ key. option_map (λ entry. entry.place.class) (finite.get (i.entries store.index) key);
  items = λ class. items_in (i.entries store.index) class;
}
