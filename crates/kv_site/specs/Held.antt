-- What a site holds, and how taking and giving back change it.
use Rattle.std.specs.Prelude.{◌≡◌, ◌≢◌, ℕ, Bool, true, false, List, Option, None, Some}

-- the ends of sessions by number, disks by folder and worker, and the report's sink;
-- and where the last takes that were Ok were from
pub record Held (In Out Pages : Type 0) : Type 0 where
  pub sessions : ℕ → Option (In × Out)
  pub disks : List ℕ → ℕ → Option Pages
  pub report : Option Out
  pub lent : ℕ → Bool
  pub home : ℕ → Option (List ℕ)
  pub report_lent : Bool

-- nothing is held, and nothing was taken
abbrev pub nothing_held : {In Out Pages : Type 0} → Held In Out Pages
nothing_held = record {
  sessions = λ _. None;
  disks = λ _ _. None;
  report = None;
  lent = λ _. false;
  home = λ _. None;
  report_lent = false;
}

-- every session is held as before, and was lent as before
pub record SessionsStay {In Out Pages : Type 0} (old new : Held In Out Pages) : Type 0 where
  pub held : (n : ℕ) → new.sessions n ≡ old.sessions n
  pub lent : (n : ℕ) → new.lent n ≡ old.lent n

-- every disk is held as before, and was lent as before
pub record DisksStay {In Out Pages : Type 0} (old new : Held In Out Pages) : Type 0 where
  pub held : (folder : List ℕ) (w : ℕ) → new.disks folder w ≡ old.disks folder w
  pub homes : (w : ℕ) → new.home w ≡ old.home w

-- the report's sink is held as before, and was lent as before
pub record ReportStays {In Out Pages : Type 0} (old new : Held In Out Pages) : Type 0 where
  pub held : new.report ≡ old.report
  pub lent : new.report_lent ≡ old.report_lent

-- the ends that stood at this number are taken, and nothing else changes
pub record TakesSession {In Out Pages : Type 0} (old new : Held In Out Pages) (n : ℕ) (ends : In
    × Out) : Type 0 where
  pub was : old.sessions n ≡ Some ends
  pub gone : new.sessions n ≡ None
  pub lent : new.lent n ≡ true
  pub others : (m : ℕ) → m ≢ n → (new.sessions m ≡ old.sessions m) × (new.lent m ≡ old.lent m)
  pub disks : DisksStay old new
  pub report : ReportStays old new

-- the ends stand at this number where they were ever taken from it, and are dropped else; nothing
-- else changes
pub record GivesSession {In Out Pages : Type 0} (old new : Held In Out Pages) (n : ℕ) (ends : In
    × Out) : Type 0 where
  pub back : old.lent n ≡ true → new.sessions n ≡ Some ends
  pub dropped : old.lent n ≡ false → new.sessions n ≡ old.sessions n
  pub others : (m : ℕ) → m ≢ n → new.sessions m ≡ old.sessions m
  pub lent : (m : ℕ) → new.lent m ≡ old.lent m
  pub disks : DisksStay old new
  pub report : ReportStays old new

-- the worker's disk that stood in this folder is taken, and nothing else changes
pub record TakesDisk {In Out Pages : Type 0} (old new : Held In Out Pages) (folder : List ℕ) (w : ℕ)
    (disk : Pages) : Type 0 where
  pub was : old.disks folder w ≡ Some disk
  pub gone : new.disks folder w ≡ None
  pub home : new.home w ≡ Some folder
  pub others : (f : List ℕ) (v : ℕ) → (f ≡ folder → v ≡ w → ⊥) → new.disks f v ≡ old.disks f v
  pub other_homes : (v : ℕ) → v ≢ w → new.home v ≡ old.home v
  pub sessions : SessionsStay old new
  pub report : ReportStays old new

-- the disk stands in the folder from which the worker's disk was last taken, and is dropped where
-- there is none; nothing else changes
pub record GivesDisk {In Out Pages : Type 0} (old new : Held In Out Pages) (w : ℕ) (disk : Pages) :
    Type 0 where
  pub back : (folder : List ℕ) → old.home w ≡ Some folder → new.disks folder w ≡ Some disk
  pub others : (f : List ℕ) (v : ℕ) → (old.home w ≡ Some f → v ≡ w → ⊥)
      → new.disks f v ≡ old.disks f v
  pub homes : (v : ℕ) → new.home v ≡ old.home v
  pub sessions : SessionsStay old new
  pub report : ReportStays old new

-- the report's sink is taken, and nothing else changes
pub record TakesReport {In Out Pages : Type 0} (old new : Held In Out Pages)
    (sink : Out) : Type 0 where
  pub was : old.report ≡ Some sink
  pub gone : new.report ≡ None
  pub lent : new.report_lent ≡ true
  pub sessions : SessionsStay old new
  pub disks : DisksStay old new

-- the sink stands as the report's where that was ever taken, and is dropped else; nothing else
-- changes
pub record GivesReport {In Out Pages : Type 0} (old new : Held In Out Pages)
    (sink : Out) : Type 0 where
  pub back : old.report_lent ≡ true → new.report ≡ Some sink
  pub dropped : old.report_lent ≡ false → new.report ≡ old.report
  pub lent : new.report_lent ≡ old.report_lent
  pub sessions : SessionsStay old new
  pub disks : DisksStay old new
