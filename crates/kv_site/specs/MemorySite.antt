-- A site in memory, as its callers see it.
use Rattle.std.specs.Prelude.{◌≡◌, ◌≢◌, ℕ, ◌⊎◌, ◌↔◌, Bool, List, [], Option, None, Some, Result}
use Rattle.std.specs.Prelude.{IsErr, IfErr, Contains, is_some, is_err, if◌then◌else◌}
use Rattle.kv_base.specs.Calls.{next_count}
use Rattle.kv_base.specs.Memory.{MemorySource, MemorySink}
use Rattle.kv_disk.specs.Memory.{RecordedDisk}
use Rattle.kv_site.specs.declared.fault.TakeFault.{TakeFault}
use Rattle.kv_site.specs.declared.entry.Entry.{Entry}
use Rattle.kv_site.specs.Entries.{thing_at, home_of}
use Rattle.kv_site.specs.Held.{Held, SessionsStay, DisksStay, ReportStays}

-- the entries of its sessions, which stand in the folder without a name, those of its disks, the
-- report's sink and whether that was ever taken, the numbers of the takes that fail, and the counts
-- of takes and faults
pub record HeldThings : Type 0 where
  pub sessions : List (Entry (MemorySource × MemorySink))
  pub disks : List (Entry RecordedDisk)
  pub report : Option MemorySink
  pub report_lent : Bool
  pub failing : List ℕ
  pub takes : ℕ
  pub faults : ℕ

-- what it holds
abbrev pub held_by : HeldThings → Held MemorySource MemorySink RecordedDisk
held_by things = record {
  sessions = λ n. thing_at things.sessions [] n;
  disks = λ folder w. thing_at things.disks folder w;
  report = things.report;
  lent = λ n. is_some (home_of things.sessions n);
  home = λ w. home_of things.disks w;
  report_lent = things.report_lent;
}

-- a take fails exactly at a listed number and where what is wanted isn't held
pub record Refuses {T W : Type 0} (old new : HeldThings) (wanted : Option W)
    (result : Result T TakeFault) : Type 0 where
  pub failed : IsErr result ↔ (Contains old.failing (next_count old.takes) ⊎ (wanted ≡ None))
  pub fault : IfErr result (λ e. e ≡ TakeFault.Failed)
  pub failing : new.failing ≡ old.failing
  pub takes : new.takes ≡ next_count old.takes
  pub faults : new.faults ≡ (if is_err result then next_count old.faults else old.faults)

-- no take and no fault is counted
pub record SameCounts (old new : HeldThings) : Type 0 where
  pub failing : new.failing ≡ old.failing
  pub takes : new.takes ≡ old.takes
  pub faults : new.faults ≡ old.faults

-- these ends are held at this number, and nothing else changes
pub record PutsSession (old new : Held MemorySource MemorySink RecordedDisk) (n : ℕ)
    (ends : MemorySource × MemorySink) : Type 0 where
  pub put : new.sessions n ≡ Some ends
  pub others : (m : ℕ) → m ≢ n → new.sessions m ≡ old.sessions m
  pub lent : (m : ℕ) → new.lent m ≡ old.lent m
  pub disks : DisksStay old new
  pub report : ReportStays old new

-- this disk is held for the worker in this folder, and nothing else changes
pub record PutsDisk (old new : Held MemorySource MemorySink RecordedDisk) (folder : List ℕ) (w : ℕ)
    (disk : RecordedDisk) : Type 0 where
  pub put : new.disks folder w ≡ Some disk
  pub others : (f : List ℕ) (v : ℕ) → (f ≡ folder → v ≡ w → ⊥) → new.disks f v ≡ old.disks f v
  pub homes : (v : ℕ) → new.home v ≡ old.home v
  pub sessions : SessionsStay old new
  pub report : ReportStays old new
