-- Stores that were opened so far.
use Rattle.std.specs.Prelude.{ℕ, List}
use Rattle.kv_disk.specs.declared.disk.Disk as disks
use Rattle.kv_index.specs.declared.index.Index as indexes
use Rattle.kv_mesh.specs.Places.{IsAt}
use Rattle.kv_mesh.specs.Started.{IsStoreOf}
use Rattle.kv_recover.specs.declared.opening.Opened.{Opened}

-- each store was opened as the worker of its place, of so many, with the limit of the tests
abbrev pub EachIsStore : {D I : Type 0} → disks.Ghosts D → indexes.Ghosts I → ℕ
    → List (Opened D I) → Type 0
EachIsStore {D} {I} d i workers stores = (worker : ℕ) (opened : Opened D I)
    → IsAt stores worker opened → IsStoreOf d i workers 64 worker opened
