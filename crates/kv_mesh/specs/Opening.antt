-- What new parties of opened stores begin with.
use Rattle.std.specs.Prelude.{◌≡◌, ◌≤◌, ◌+◌, ◌-◌, ℕ, List, length, map}
use Rattle.kv_base.specs.declared.limits.Limits.{Limits}
use Rattle.kv_disk.specs.declared.disk.Disk as disks
use Rattle.kv_groups.specs.Gathering.{greatest}
use Rattle.kv_index.specs.declared.index.Index as indexes
use Rattle.kv_model.specs.History.{Write}
use Rattle.kv_parties.specs.Begun.{IsBefore}
use Rattle.kv_parties.specs.Setting.{Setting}
use Rattle.kv_recover.specs.Store.{HasOpened}
use Rattle.kv_recover.specs.declared.opening.Opened.{Opened}
use Rattle.kv_worker.specs.Worker.{WorkerView}
use Rattle.kv_mesh.specs.Places.{IsAt}
use Rattle.kv_mesh.specs.Settled.{HaveBegun}
use Rattle.kv_mesh.specs.Started.{AreStores, floors, opened_of}

module _ {D I : Type 0} (d : disks.Ghosts D) (i : indexes.Ghosts I) (limits : Limits) where
  -- the store was opened on this disk as this worker of so many, with these writes
  pub record IsOpenedWith (old : D) (worker workers : ℕ) (writes : List Write)
      (opened : Opened D I) : Type 0 where
    pub has : HasOpened d i old worker workers limits opened.slabs opened.floor
    pub writes_are : has.kept.writes ≡ writes

  -- each store was opened as the worker of its place, of as many as there are stores, on the disk and
  -- with the writes of that number
  abbrev pub AreOpened : (ℕ → D) → (ℕ → List Write) → List (Opened D I) → Type 0
  AreOpened olds before stores = (worker : ℕ) (opened : Opened D I) → IsAt stores worker opened
      → IsOpenedWith (olds worker) worker (length stores) (before worker) opened

-- parties can be made of stores that were opened; workers that begin with these stores begin with the
-- writes that the stores were opened with, which are those before the first stamp
pub record OpenedStoresBegin {D I : Type 0} (d : disks.Ghosts D) (i : indexes.Ghosts I) :
    Type 0 where
  pub fit : (limits : Limits) (olds : ℕ → D) (before : ℕ → List Write) (stores : List (Opened D I))
      → length stores ≤ 16 → AreOpened d i limits olds before stores → AreStores d i stores
  pub begin : (limits : Limits) (olds : ℕ → D) (before : ℕ → List Write)
      (stores : List (Opened D I)) (firsts : List (WorkerView D I)) (start : ℕ)
      (setting : Setting) → 1 ≤ length stores → AreOpened d i limits olds before stores
      → map opened_of firsts ≡ stores → start ≡ greatest (floors stores) + 1
      → setting.workers ≡ length stores → setting.floor ≡ start - 1
      → HaveBegun d i firsts start before × IsBefore setting before
