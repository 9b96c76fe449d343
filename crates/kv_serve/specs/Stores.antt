-- The stores of the first workers that were opened, and why the next one wasn't.
use Rattle.std.specs.Prelude.{◌≡◌, ◌≢◌, ◌<◌, ℕ, List, [], ◌∷◌, ◌++◌, length, Option, None, Some, Bool}
use Rattle.std.specs.Prelude.{IsTrue, Result, Ok, Err}
use Rattle.kv_base.specs.declared.limits.Limits.{Limits}
use Rattle.kv_disk.specs.declared.disk.Disk as disks
use Rattle.kv_index.specs.declared.index.Index as indexes
use Rattle.kv_recover.specs.Store.{HasRefused}
use Rattle.kv_recover.specs.declared.fault.OpenFault.{OpenFault}
use Rattle.kv_recover.specs.declared.fault.OpenFault.TheVariants as faults
use Rattle.kv_recover.specs.declared.opening.Opened.{Opened}
use Rattle.kv_site.specs.FileSite.{Counts}
use Rattle.kv_site.specs.Held.{Held, TakesDisk}
use Rattle.kv_serve.specs.Opening.{AreOpenedFrom}
use Rattle.kv_serve.specs.Taken.{TookDisks}
use Rattle.kv_serve.specs.declared.ended.Refused.{Refused}
use Rattle.kv_serve.specs.declared.ended.Refused.TheVariants.{Disk}
use Rattle.kv_serve.specs.declared.stores.Unopened.{Unopened}
use Rattle.kv_serve.specs.declared.stores.Unopened.TheVariants.{NotTaken, NotOpened}

-- the worker's disk was refused by the site, or taken and refused
abbrev pub IsUnopened : {In Out Pages : Type 0} → Bool → disks.Ghosts Pages → ℕ → ℕ
    → Held In Out Pages → Held In Out Pages → List ℕ → Unopened Pages → Type 0
IsUnopened tells d workers worker before after folder (NotTaken at fault) = (at ≡ worker)
    × (IsTrue tells → after ≡ before)
IsUnopened {Pages} tells d workers worker before after folder (NotOpened at disk' fault) =
    (at ≡ worker) × ((disk : Pages) × (IsTrue tells → TakesDisk before after folder worker disk)
    × HasRefused d disk worker workers disk' fault)

-- just a take that failed is counted
abbrev pub CountsUnopened : {T D : Type 0} → ℕ → ℕ → Result T (Unopened D) → Type 0
CountsUnopened old new (Ok done) = new ≡ old
CountsUnopened {T} old new (Err (NotTaken worker fault)) = Counts {T = T} old new (Err fault)
CountsUnopened old new (Err (NotOpened worker disk fault)) = new ≡ old

-- the disks of the first workers were taken, and these stores opened from them
pub record TookStores {In Out Pages I : Type 0} (tells : Bool) (d : disks.Ghosts Pages)
    (i : indexes.Ghosts I) (workers : ℕ) (limits : Limits) (before after : Held In Out Pages)
    (folder : List ℕ) (stores : List (Opened Pages I)) : Type 0 where
  pub olds : List Pages
  pub took : IsTrue tells → TookDisks before after folder olds
  pub opened : AreOpenedFrom d i workers limits olds stores

-- so it was, and the next disk was taken and refused
pub record TookRefused {In Out Pages I : Type 0} (tells : Bool) (d : disks.Ghosts Pages)
    (i : indexes.Ghosts I) (workers : ℕ) (limits : Limits) (before after : Held In Out Pages)
    (folder : List ℕ) (stores : List (Opened Pages I)) (disk' : Pages) (fault : OpenFault) :
    Type 0 where
  pub olds : List Pages
  pub disk : Pages
  pub took : IsTrue tells → TookDisks before after folder (olds ++ disk ∷ [])
  pub opened : AreOpenedFrom d i workers limits olds stores
  pub refused : HasRefused d disk (length olds) workers disk' fault

-- of so many disks the one behind these stores wasn't opened
abbrev pub StopsBehind : {In Out Pages I : Type 0} → Bool → disks.Ghosts Pages → indexes.Ghosts I → ℕ
    → Limits → Held In Out Pages → Held In Out Pages → List ℕ → List (Opened Pages I)
    → Unopened Pages → Type 0
StopsBehind tells d i workers limits before after folder stores (NotTaken worker fault) =
    (worker ≡ length stores) × (worker < workers)
    × TookStores tells d i workers limits before after folder stores
StopsBehind tells d i workers limits before after folder stores (NotOpened worker disk fault) =
    (worker ≡ length stores) × (worker < workers)
    × TookRefused tells d i workers limits before after folder stores disk fault

-- how a command ends whose disk was refused
pub record IsDiskRefusal (worker : ℕ) (fault : OpenFault) (status : ℕ)
    (refused : Option Refused) : Type 0 where
  pub no_memory : fault ≡ faults.NoMemory → (status ≡ 4) × (refused ≡ None)
  pub other : fault ≢ faults.NoMemory → (status ≡ 3) × (refused ≡ Some (Disk worker fault))
