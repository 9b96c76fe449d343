-- What recovery owes: an image that opens, and gives each key the value after a prefix of its
-- writes.
use Rattle.std.specs.Prelude.{◌≡◌, ◌≢◌, ℕ, ◌*◌, ◌/◌, ◌≤◌, ◌⊎◌, List, Option, None, Some, IsTrue}
use Rattle.std.specs.Prelude.{Contains, if◌then◌else◌}
use Rattle.std.specs.List.{AllByRecursion}
use Rattle.kv_base.specs.Image.{Image, zero_page}
pub use Rattle.kv_base.specs.Limits.{most_slots}
use Rattle.kv_base.specs.Partition.{owner_of}
use Rattle.kv_model.specs.Pairwise.{Pairwise}
use Rattle.kv_model.specs.History.{Write, value_at}
use Rattle.kv_model.specs.Layout.{Layout, is_small, slots_in_page, pages_in_slot}
use Rattle.kv_model.specs.Head.{IsWorker, head_page}
use Rattle.kv_model.specs.Reading.{Reading, Copy, IsFound, IsKept, slot_at, has_class}

-- the pages of the most slots of the class
abbrev pub most_pages : ℕ → ℕ
most_pages class = if is_small class then most_slots / slots_in_page class
    else most_slots * pages_in_slot class

-- the head page and all slabs are zero
pub record IsNew (image : Image) : Type 0 where
  pub head : image 0 0 ≡ zero_page
  pub slabs : (class page : ℕ) → 1 ≤ class → class ≤ 11 → image class page ≡ zero_page

-- the image can be opened as this worker of so many
pub record OpensAs (layout : Layout) (image : Image) (worker workers : ℕ) : Type 0 where
  pub worker_is : IsWorker worker workers
  pub head : IsNew image ⊎ (image 0 0 ≡ head_page worker workers)
  pub bounded : (class page : ℕ) → IsTrue (has_class layout class) → most_pages class ≤ page
      → image class page ≡ zero_page

-- the value that the reading gives for the key
abbrev pub GivesValue : Reading → ℕ → ℕ → List ℕ → Option (List ℕ) → Type 0
GivesValue reading worker workers key None = (copy : Copy) → IsFound reading worker workers key copy
    → ⊥
GivesValue reading worker workers key (Some value) = (copy : Copy)
    × IsKept reading worker workers key copy × (copy.value ≡ value)

-- the stamp is not below that of any of these writes of the key
abbrev pub HoldsAll : List Write → List ℕ → ℕ → Type 0
HoldsAll acknowledged key stamp = AllByRecursion (λ write. write.key ≡ key
    → write.stamp ≤ stamp) acknowledged

-- the image opens, and gives each owned key the value after a prefix of its writes that holds every
-- acknowledged one
pub record RecoversPrefix (layout : Layout) (writes acknowledged : List Write) (image : Image)
    (worker workers : ℕ) : Type 0 where
  pub opens : OpensAs layout image worker workers
  pub prefix : (key : List ℕ) → owner_of key workers ≡ worker
      → (stamp : ℕ) × HoldsAll acknowledged key stamp
      × GivesValue (slot_at layout image) worker workers key (value_at writes stamp key)

-- of each key of which an item is found one is kept
abbrev pub KeepsEach : Reading → ℕ → ℕ → Type 0
KeepsEach reading worker workers = (key : List ℕ) (copy : Copy)
    → IsFound reading worker workers key copy
    → (kept : Copy) × IsKept reading worker workers key kept

-- the writes are the items that the image keeps, one for each key
pub record AreKept (layout : Layout) (image : Image) (worker workers : ℕ)
    (kept : List Write) : Type 0 where
  pub distinct : Pairwise (λ write other. write.key ≢ other.key) kept
  pub each : (write : Write) → Contains kept write → (copy : Copy)
      × IsKept (slot_at layout image) worker workers write.key copy
      × (write.stamp ≡ copy.stamp) × (write.value ≡ Some copy.value)
  pub all : (key : List ℕ) (copy : Copy)
      → IsKept (slot_at layout image) worker workers key copy
      → Contains kept (record { stamp = copy.stamp; key = key; value = Some copy.value })
