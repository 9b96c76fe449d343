-- What a command takes from its site and gives back: the disks of the first workers in a folder, and
-- the ends of the first sessions.
use Rattle.std.specs.Prelude.{◌≡◌, ◌<◌, ◌≤◌, ℕ, List, length, slice_get, Option, None, Some, true}
use Rattle.std.specs.Prelude.{Result, Ok, Err}
use Rattle.kv_site.specs.FileSite.{Counts}
use Rattle.kv_site.specs.Held.{Held, SessionsStay, DisksStay, ReportStays}
use Rattle.kv_site.specs.declared.fault.TakeFault.{TakeFault}
use Rattle.kv_site.specs.declared.fault.TakeFault.TheVariants.{Failed, NoMemory}
use Rattle.kv_serve.specs.declared.ended.Refused.{Refused}

-- the sessions are held as before
abbrev pub SessionsKept : {In Out Pages : Type 0} → Held In Out Pages → Held In Out Pages → Type 0
SessionsKept before after = (n : ℕ) → after.sessions n ≡ before.sessions n

-- the disks are held as before
abbrev pub DisksKept : {In Out Pages : Type 0} → Held In Out Pages → Held In Out Pages → Type 0
DisksKept before after = (folder : List ℕ) (worker : ℕ)
    → after.disks folder worker ≡ before.disks folder worker

-- the disks of the first workers in the folder were taken, and nothing else changed
pub record TookDisks {In Out Pages : Type 0} (before after : Held In Out Pages) (folder : List ℕ)
    (disks : List Pages) : Type 0 where
  pub was : (worker : ℕ) (disk : Pages) → slice_get disks worker ≡ Some disk
      → before.disks folder worker ≡ Some disk
  pub home : (worker : ℕ) → worker < length disks → after.home worker ≡ Some folder
  pub others : (other : List ℕ) (worker : ℕ) → (other ≡ folder → worker < length disks → ⊥)
      → after.disks other worker ≡ before.disks other worker
  pub sessions : SessionsStay before after
  pub report : ReportStays before after

-- the disks of so many first workers were taken from this folder
abbrev pub AreHome : {In Out Pages : Type 0} → Held In Out Pages → List ℕ → ℕ → Type 0
AreHome held folder count = (worker : ℕ) → worker < count → held.home worker ≡ Some folder

-- the disks of the first workers stand in the folder, and nothing else changed
pub record GivesDisks {In Out Pages : Type 0} (before after : Held In Out Pages) (folder : List ℕ)
    (disks : List Pages) : Type 0 where
  pub back : (worker : ℕ) (disk : Pages) → slice_get disks worker ≡ Some disk
      → after.disks folder worker ≡ Some disk
  pub others : (other : List ℕ) (worker : ℕ) → (other ≡ folder → worker < length disks → ⊥)
      → after.disks other worker ≡ before.disks other worker
  pub sessions : SessionsStay before after
  pub report : ReportStays before after

-- the ends of the first sessions were taken, and nothing else changed
pub record TookSessions {In Out Pages : Type 0} (before after : Held In Out Pages)
    (ends : List (In × Out)) : Type 0 where
  pub was : (session : ℕ) (pair : In × Out) → slice_get ends session ≡ Some pair
      → before.sessions session ≡ Some pair
  pub lent : (session : ℕ) → session < length ends → after.lent session ≡ true
  pub others : (session : ℕ) → length ends ≤ session
      → after.sessions session ≡ before.sessions session
  pub disks : DisksStay before after
  pub report : ReportStays before after

-- the ends of so many first sessions were taken
abbrev pub AreLent : {In Out Pages : Type 0} → Held In Out Pages → ℕ → Type 0
AreLent held count = (session : ℕ) → session < count → held.lent session ≡ true

-- the ends of the first sessions stand at their numbers, and nothing else changed
pub record GivesSessions {In Out Pages : Type 0} (before after : Held In Out Pages)
    (ends : List (In × Out)) : Type 0 where
  pub back : (session : ℕ) (pair : In × Out) → slice_get ends session ≡ Some pair
      → after.sessions session ≡ Some pair
  pub others : (session : ℕ) → length ends ≤ session
      → after.sessions session ≡ before.sessions session
  pub disks : DisksStay before after
  pub report : ReportStays before after

-- the disks of the first workers in the folder were taken and given back, and all other disks are
-- held as before
pub record ReturnsDisks {In Out Pages : Type 0} (before after : Held In Out Pages)
    (folder : List ℕ) (olds news : List Pages) : Type 0 where
  pub was : (worker : ℕ) (disk : Pages) → slice_get olds worker ≡ Some disk
      → before.disks folder worker ≡ Some disk
  pub back : (worker : ℕ) (disk : Pages) → slice_get news worker ≡ Some disk
      → after.disks folder worker ≡ Some disk
  pub others : (other : List ℕ) (worker : ℕ) → (other ≡ folder → worker < length olds → ⊥)
      → after.disks other worker ≡ before.disks other worker

-- the ends of the first sessions were taken and given back, and all other sessions are held as
-- before
pub record ReturnsSessions {In Out Pages : Type 0} (before after : Held In Out Pages)
    (olds news : List (In × Out)) : Type 0 where
  pub was : (session : ℕ) (pair : In × Out) → slice_get olds session ≡ Some pair
      → before.sessions session ≡ Some pair
  pub back : (session : ℕ) (pair : In × Out) → slice_get news session ≡ Some pair
      → after.sessions session ≡ Some pair
  pub others : (session : ℕ) → length olds ≤ session
      → after.sessions session ≡ before.sessions session

-- disks and ends came back, and all else is held as before
pub record BringsAll {In Out Pages : Type 0} (before after : Held In Out Pages) (folder : List ℕ)
    (olds news : List Pages) (ends ends' : List (In × Out)) : Type 0 where
  pub disks : ReturnsDisks before after folder olds news
  pub sessions : ReturnsSessions before after ends ends'
  pub report : after.report ≡ before.report

-- just a take that failed is counted
abbrev pub CountsTakes : {T : Type 0} → ℕ → ℕ → Result T (ℕ × TakeFault) → Type 0
CountsTakes old new (Ok done) = new ≡ old
CountsTakes {T} old new (Err refused) = Counts {T = T} old new (Err refused.1)

-- how a command ends that the site refused something
abbrev pub IsTakeRefusal : TakeFault → Refused → ℕ → Option Refused → Type 0
IsTakeRefusal Failed what status refused = (status ≡ 3) × (refused ≡ Some what)
IsTakeRefusal NoMemory what status refused = (status ≡ 4) × (refused ≡ None)
