-- What all disks keep when the parties begin.
use Rattle.std.specs.Prelude.{◌≡◌, ◌≤◌, ◌<◌, ℕ, List}
use Rattle.std.specs.List.{AllByRecursion}
use Rattle.kv_base.specs.Image.{Image}
use Rattle.kv_base.specs.Partition.{owner_of}
use Rattle.kv_model.specs.History.{Write, IsHistory}
use Rattle.kv_model.specs.Recovery.{AreKept}
use Rattle.kv_parties.specs.Rows.{row}
use Rattle.kv_parties.specs.Setting.{Setting}

-- the writes that all workers begin with
abbrev pub all_before : Setting → (ℕ → List Write) → List Write
all_before setting before = row setting.workers before

-- these are a history that ends at the floor, each write of a key that its worker owns
pub record IsBefore (setting : Setting) (before : ℕ → List Write) : Type 0 where
  pub history : IsHistory (all_before setting before)
  pub low : AllByRecursion (λ write. write.stamp ≤ setting.floor) (all_before setting before)
  pub owned : (worker : ℕ) → worker < setting.workers
      → AllByRecursion (λ write. owner_of write.key setting.workers ≡ worker) (before worker)
  pub some_worker : 1 ≤ setting.workers

-- the items that the disks of all workers keep, none above the floor, are such writes
abbrev pub KeptItemsBegin : Type 0
KeptItemsBegin = (setting : Setting) (before : ℕ → List Write) (images : ℕ → Image)
    → 1 ≤ setting.workers
    → ((worker : ℕ) → worker < setting.workers
    → AreKept setting.layout (images worker) worker setting.workers (before worker)
    × AllByRecursion (λ write. write.stamp ≤ setting.floor) (before worker))
    → IsBefore setting before
