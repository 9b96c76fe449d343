-- How a command ends that served no session.
use Rattle.std.proofs.Common.{◌≡◌, inl, inr, ℕ, ◌<◌, ◌≤◌, List, [], ◌∷◌, ◌++◌, length, map}
use Rattle.std.proofs.Common.{Some, None, Err, IsTrue, refl, sym, ap, ◌∙◌, subst, arith}
use Rattle.std.proofs.Common.{length-append, Bool, Option, true, false}
use Rattle.std.proofs.Math.Logic.{∥∥₁_elim}
use Rattle.std.specs.Prelude.{if◌then◌else◌}
use Rattle.std.proofs.lemmas.List.{length-map}
use Rattle.kv_base.specs.declared.limits.Limits.{Limits}
use Rattle.kv_disk.specs.declared.disk.Disk as disks
use Rattle.kv_index.specs.declared.index.Index as indexes
use Rattle.kv_mesh.specs.Served.{pairs_of_all}
use Rattle.kv_parties.specs.Causes.{any_unsure}
use Rattle.kv_recover.specs.declared.fault.OpenFault.{OpenFault}
use Rattle.kv_recover.specs.declared.opening.Opened.{Opened}
use Rattle.kv_site.specs.FileSite.{Counts}
use Rattle.kv_site.specs.Held.{Held, GivesDisk}
use Rattle.kv_site.specs.declared.fault.TakeFault.{TakeFault}
use Rattle.kv_words.specs.Words.{Asked, serve, check, dump}
use Rattle.kv_serve.specs.Command.{Does}
use Rattle.kv_serve.specs.Opening.{AreOpenedFrom, Opens}
use Rattle.kv_serve.specs.Outside.{Outside}
use Rattle.kv_serve.specs.Serve.{EndsWith, IsDone, IsServed, Refuses, TookEach, all_end}
use Rattle.kv_serve.specs.Stores.{IsDiskRefusal, StopsBehind, TookRefused}
use Rattle.kv_serve.specs.Taken.{AreHome, AreLent, BringsAll, GivesDisks, GivesSessions}
use Rattle.kv_serve.specs.Taken.{IsTakeRefusal, TookDisks, TookSessions}
use Rattle.kv_serve.specs.declared.ended.Ended.{Ended}
use Rattle.kv_serve.specs.declared.ended.Refused.{Refused}
use Rattle.kv_serve.specs.declared.ended.Refused.TheVariants.{Disk, TakeDisk, TakeReport, TakeSession}
use Rattle.kv_serve.specs.declared.report.ReportKind.TheVariants.{Check, Dump}
use Rattle.kv_serve.specs.declared.stores.Unopened.TheVariants.{NotTaken, NotOpened}
use Rattle.kv_serve.proofs.BringLemmas.{brings-all, brings-disks, sessions-kept}
use Rattle.kv_serve.proofs.DiskLemmas.{gives-behind}
use Rattle.kv_serve.proofs.ReportLemmas.{reported-at-once}
use Rattle.kv_serve.proofs.RefuseLemmas.{disk_in, disks-many, refuses-disk, refuses-session}
use Rattle.kv_serve.proofs.RefuseLemmas.{refuses-take, took-each, took-last}

module _ {In Out Pages : Type 0} (d : disks.Ghosts Pages) (o : Outside In Out Pages)
    (folder : List ℕ) (workers : ℕ) (limits : Limits) (sessions : ℕ) (ended : Ended)
    (none : ended.endings.items ≡ []) where
  -- what was taken came back, and why nothing was served
  done : (olds news : List Pages) (ends : List (In × Out))
      → (IsTrue o.tells → BringsAll o.before o.after folder olds news ends ends)
      → Refuses d o folder workers sessions ended.status ended.refused
      → IsDone d o folder workers limits sessions ended
  done olds news ends brings refuses = record {
    ends = inl (none, λ t. sessions-kept o.before o.after ends (brings t).sessions, refuses);
    report = λ t. (brings t).report;
  }

  -- memory ran out before anything was taken
  pub done-at-once : (IsTrue o.tells → o.after ≡ o.before) → o.faults' ≡ o.faults
      → ended.status ≡ 4 → ended.refused ≡ None → IsDone d o folder workers limits sessions ended
  done-at-once same calm four refused = record {
    ends = inl (
      none,
      λ t n. ap (λ (held : Held In Out Pages). held.sessions n) (same t),
      rw refused (
        four,
        calm,
        inl (
          0,
          omega arith,
          record {
            olds = [];
            news = [];
            took = refl;
            gave = refl;
            returns = λ t. record {
              was = λ worker disk at. absurd (cc);
              back = λ worker disk at. absurd (cc);
              others = λ other worker not.
                  ap (λ (held : Held In Out Pages). held.disks other worker) (same t);
            };
            did = λ worker old new at also. absurd (cc);
          },
        ),
      ),
    );
    report = λ t. ap (λ (held : Held In Out Pages). held.report) (same t);
  }

  module _ {I : Type 0} (i : indexes.Ghosts I) (held : Held In Out Pages)
      (stores : List (Opened Pages I)) where
    -- all disks of the stores come back
    abbrev pub GivesStores : Held In Out Pages → Type 0
    GivesStores from = IsTrue o.tells → AreHome from folder (length stores)
        → GivesDisks from o.after folder (map disk_in stores)

    gives-mapped : (from : Held In Out Pages) → GivesStores from → IsTrue o.tells
        → AreHome from folder (length (map disk_in stores))
        → GivesDisks from o.after folder (map disk_in stores)
    gives-mapped from gives t home =
        gives t (subst (AreHome from folder) (length-map stores disk_in) home)

    brings-stores : (olds : List Pages) → AreOpenedFrom d i workers limits olds stores
        → (IsTrue o.tells → TookDisks o.before held folder olds) → GivesStores held
        → IsTrue o.tells → BringsAll o.before o.after folder olds (map disk_in stores) [] []
    brings-stores olds opened took gives t =
        brings-disks o.before held o.after folder olds (map disk_in stores) (took t)
        (disks-many d i workers limits olds stores opened) (gives-mapped held gives t)

    -- the site refused the next disk
    pub done-not-taken : (worker : ℕ) (fault : TakeFault)
        → StopsBehind o.tells d i workers limits o.before held folder stores
        (NotTaken worker fault) → Counts {T = Unit {0}} o.faults o.faults' (Err fault)
        → IsTakeRefusal fault (TakeDisk worker) ended.status ended.refused → GivesStores held
        → IsDone d o folder workers limits sessions ended
    done-not-taken worker fault stops counted h gives =
        let took = stops.2 in
        let brings = brings-stores took.olds took.opened took.took gives in
        done took.olds (map disk_in stores) [] brings
        (refuses-take d o folder workers sessions ended.status ended.refused worker fault stops.1
        counted h (took-each d i o folder workers limits took.olds stores worker took.opened
        (sym stops.0) (λ t. (brings t).disks)))

    -- the next disk was refused
    pub done-not-opened : (given : Held In Out Pages) (worker : ℕ) (disk' : Pages)
        (fault : OpenFault) → StopsBehind o.tells d i workers limits o.before held folder stores
        (NotOpened worker disk' fault) → o.faults' ≡ o.faults
        → IsDiskRefusal worker fault ended.status ended.refused
        → (IsTrue o.tells → GivesDisk held given worker disk') → GivesStores given
        → IsDone d o folder workers limits sessions ended
    done-not-opened given worker disk' fault stops calm h one gives =
        let took : TookRefused o.tells d i workers limits o.before held folder stores disk' fault =
        stops.2 in
        let olds = took.olds ++ took.disk ∷ [] in
        let news = map disk_in stores ++ disk' ∷ [] in
        let many = disks-many d i workers limits took.olds stores took.opened in
        let same : length news ≡ length olds = omega (
          arith,
          many,
          length-append (map disk_in stores) (disk' ∷ []),
          length-append took.olds (took.disk ∷ []),
        ) in
        let at : worker ≡ length (map disk_in stores) = stops.0
        ∙ sym (length-map stores disk_in) in
        let brings = λ (t : IsTrue o.tells). brings-disks o.before held o.after folder olds news
        (took.took t) same (λ home. gives-behind held given o.after folder (map disk_in stores) disk'
        (subst (AreHome held folder) (length-append (map disk_in stores) (disk' ∷ [])) home)
        (subst (λ w. GivesDisk held given w disk') at (one t)) (gives-mapped given gives t)) in
        done olds news [] brings
        (refuses-disk d o folder workers sessions ended.status ended.refused worker fault stops.1
        calm h (took-last d i o folder workers limits took.olds stores worker took.disk disk' fault
        took.opened stops.0 took.refused (λ t. (brings t).disks)))

    module _ (between given : Held In Out Pages) (olds : List Pages) (ends : List (In × Out))
        (opened : AreOpenedFrom d i workers limits olds stores) (all : length olds ≡ workers)
        (took : IsTrue o.tells → TookDisks o.before between folder olds)
        (lent : IsTrue o.tells → TookSessions between held ends)
        (back : IsTrue o.tells → AreLent held (length ends) → GivesSessions held given ends)
        (gives : GivesStores given) where
      brings-both : IsTrue o.tells
          → BringsAll o.before o.after folder olds (map disk_in stores) ends ends
      brings-both t = brings-all o.before between held given o.after folder olds
          (map disk_in stores) ends ends (took t) (lent t)
          (disks-many d i workers limits olds stores opened) refl (back t)
          (gives-mapped given gives t)

      took-all : TookEach o folder workers (Opens d workers)
      took-all = took-each d i o folder workers limits olds stores workers opened
          (opened.many ∙ all) (λ t. (brings-both t).disks)

      -- the site refused the next session
      pub done-no-session : (session : ℕ) (fault : TakeFault) → session < sessions
          → Counts {T = Unit {0}} o.faults o.faults' (Err fault)
          → IsTakeRefusal fault (TakeSession session) ended.status ended.refused
          → IsDone d o folder workers limits sessions ended
      done-no-session session fault lt counted h = done olds (map disk_in stores) ends brings-both
          (refuses-session d o folder workers sessions ended.status ended.refused session fault lt
          counted h took-all)

      -- memory ran out behind that
      pub done-no-memory : o.faults' ≡ o.faults → ended.status ≡ 4 → ended.refused ≡ None
          → IsDone d o folder workers limits sessions ended
      done-no-memory calm four refused = done olds (map disk_in stores) ends brings-both
          (rw refused (four, calm, inl (workers, omega arith, took-all)))

-- the status is never that of other words
low : (end unsure : Bool) → (if end then (if unsure then 1 else 0) else 1) ≤ 1
low true true = omega arith
low true false = omega arith
low false unsure = omega arith

module _ {In Out Pages : Type 0} (d : disks.Ghosts Pages) (o : Outside In Out Pages)
    (folder : List ℕ) (workers : ℕ) (limits : Limits) (sessions : ℕ) where
  refused-not-two : (status : ℕ) (refused : Option Refused)
      → Refuses d o folder workers sessions status refused → status ≡ 2 → ⊥
  refused-not-two status None refuses two = omega (arith, refuses.0, two)
  refused-not-two status (Some (Disk worker fault)) refuses two =
      omega (arith, refuses.0, two)
  refused-not-two status (Some (TakeDisk worker)) refuses two = omega (arith, refuses.0, two)
  refused-not-two status (Some (TakeSession session)) refuses two =
      omega (arith, refuses.0, two)
  refused-not-two status (Some TakeReport) refuses two = absurd refuses

  pub done-not-two : (ended : Ended) → IsDone d o folder workers limits sessions ended
      → ended.status ≡ 2 → ⊥
  done-not-two ended did two = by did.ends
    where
      by : EndsWith d o folder workers limits sessions ended.status ended.refused
          ended.endings.items → ⊥
      by (inl refuses) = refused-not-two ended.status ended.refused refuses.2 two
      by (inr serves) = ∥∥₁_elim serves.2 (λ a b. absurd a)
          (λ (is : IsServed d o folder workers limits ended.status ended.endings.items).
          omega (
            arith,
            is.status_is,
            two,
            low (all_end ended.endings.items)
                (any_unsure (pairs_of_all (length ended.endings.items) is.groups)),
          ))

-- memory ran out before a command took anything
pub does-at-once : {In Out Pages : Type 0} (d : disks.Ghosts Pages) (o : Outside In Out Pages)
    (asked : Asked) (ended : Ended) → ended.endings.items ≡ []
    → (IsTrue o.tells → o.after ≡ o.before) → o.faults' ≡ o.faults → ended.status ≡ 4
    → ended.refused ≡ None → Does d o asked ended
does-at-once d o (serve serving) ended none same calm four refused =
    done-at-once d o serving.folder serving.workers serving.limits (length serving.sessions) ended
    none same calm four refused
does-at-once d o (check reporting) ended none same calm four refused = reported-at-once d o Check
    reporting.folder reporting.workers ended none same calm four refused
does-at-once d o (dump reporting) ended none same calm four refused = reported-at-once d o Dump
    reporting.folder reporting.workers ended none same calm four refused
