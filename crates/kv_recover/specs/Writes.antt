-- The items of a store that was opened, as writes.
use Rattle.std.specs.Prelude.{◌≡◌, ◌≢◌, ℕ, ◌≤◌, List, Some, IsTrue, Contains, is_some}
use Rattle.std.specs.List.{AllByRecursion}
use Rattle.std.specs.Option.{option_map}
use Rattle.std.specs.FinMap as finite
use Rattle.kv_base.specs.Partition.{owner_of}
use Rattle.kv_disk.specs.declared.disk.Disk as disks
use Rattle.kv_index.specs.declared.entry.Entry.{Entry}
use Rattle.kv_index.specs.declared.index.Index as indexes
use Rattle.kv_model.specs.History.{Write, value_at}
use Rattle.kv_model.specs.Items.{class_with}
use Rattle.kv_model.specs.Layout.{all_classes}
use Rattle.kv_model.specs.Pairwise.{Pairwise}
use Rattle.kv_model.specs.Reading.{slot_at}
use Rattle.kv_model.specs.Recovery.{AreKept, KeepsEach}
use Rattle.kv_slab.specs.View.{View, store_map}

-- the writes stand for the store's items: one for each key of its index, with the stamp of its
-- entry, none above the floor, each of a key that the worker owns; on a disk that tells what
-- it reads they are the items that were kept on the disk that was handed in, the store has their
-- values, and each entry the class of its item
pub record HasWrites {D I : Type 0} (d : disks.Ghosts D) (i : indexes.Ghosts I) (old : D)
    (worker workers : ℕ) (store : View D I) (floor : ℕ) : Type 0 where
  pub writes : List Write
  pub distinct : Pairwise (λ write other. write.key ≢ other.key) writes
  pub stamps : AllByRecursion (λ write. write.stamp ≤ floor) writes
  pub entries : (write : Write) → Contains writes write → (entry : Entry)
      × (finite.get (i.entries store.index) write.key ≡ Some entry)
      × (write.stamp ≡ entry.stamp)
  pub owned : (write : Write) → Contains writes write → owner_of write.key workers ≡ worker
  pub keys : (key : List ℕ) → is_some (value_at writes floor key)
      ≡ is_some (finite.get (i.entries store.index) key)
  pub kept : IsTrue d.tells → AreKept all_classes (d.seen old) worker workers writes
  pub keeps_each : IsTrue d.tells → KeepsEach (slot_at all_classes (d.seen old)) worker workers
  pub values : IsTrue d.tells → (key : List ℕ)
      → option_map (λ answer. answer.1) (store_map d i store key) ≡ value_at writes floor key
  pub classes : IsTrue d.tells → (key : List ℕ)
      → option_map (λ entry. entry.place.class) (finite.get (i.entries store.index) key)
      ≡ class_with all_classes key (value_at writes floor key)
