-- Lemmas on what a site in memory takes.
use Rattle.std.proofs.Common.{◌≡◌, ℕ, Bool, List, [], Option, None, Some, Result, Ok, Err, IfOk}
use Rattle.std.proofs.Common.{refl, ap, subst}
use Rattle.std.specs.Prelude.{IfSome, is_some}
use Rattle.kv_site.specs.declared.entry.Entry.{Entry}
use Rattle.kv_base.specs.Memory.{MemorySource, MemorySink}
use Rattle.kv_disk.specs.Memory.{RecordedDisk}
use Rattle.kv_site.specs.Entries.{Takes}
use Rattle.kv_site.specs.Held.{Held, TakesSession}
use Rattle.kv_site.specs.MemorySite.{held_by}

-- what holds of the thing that was taken holds of the one that is answered
pub if_ok-from : {T E : Type 0} (result : Result T E) (taken : Option T) (P : T → Type 0)
    → IfOk result (λ thing. taken ≡ Some thing) → IfSome taken P → IfOk result P
if_ok-from (Ok thing) taken P is holds = let Q : Option _ → Type 0 = λ o. IfSome o P in
    subst Q is holds
if_ok-from (Err fault) taken P is holds = tt

pub if_some-map : {T : Type 0} (o : Option T) (P Q : T → Type 0) → ((thing : T) → P thing → Q thing)
    → IfSome o P → IfSome o Q
if_some-map None P Q so holds = tt
if_some-map (Some thing) P Q so holds = so thing holds

-- what is held on these places, whatever was counted
abbrev pub held_on : List (Entry (MemorySource × MemorySink)) → List (Entry RecordedDisk) → Option MemorySink → Bool
    → Held MemorySource MemorySink RecordedDisk
held_on sessions disks report lent =
    held_by (record {
      sessions = sessions;
      disks = disks;
      report = report;
      report_lent = lent;
      failing = [];
      takes = 0;
      faults = 0;
    })

-- the ends of a session are taken from the folder without a name
pub takes_session : (old new : List (Entry (MemorySource × MemorySink))) (disks : List (Entry RecordedDisk))
    (report : Option MemorySink) (lent : Bool) (n : ℕ) (ends : MemorySource × MemorySink) → Takes old new [] n ends
    → TakesSession (held_on old disks report lent) (held_on new disks report lent) n ends
takes_session old new disks report lent n ends takes = record {
  was = takes.was;
  gone = takes.gone;
  lent = ap is_some takes.home;
  others = λ m other. (
    takes.others [] m (λ _ same. other same),
    ap is_some (takes.other_homes m other),
  );
  disks = record { held = λ folder w. refl; homes = λ w. refl };
  report = record { held = refl; lent = refl };
}
