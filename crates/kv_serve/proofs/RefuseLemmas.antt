-- Why nothing was served, and what became of the disks.
use Rattle.std.proofs.Common.{◌≡◌, ◌≢◌, ◌⊎◌, inl, inr, ℕ, ◌+◌, ◌<◌, List, [], ◌∷◌, ◌++◌, length, map}
use Rattle.std.proofs.Common.{slice_get, Some, Option, Err, IsTrue, refl, sym, ◌∙◌, subst, subst₂}
use Rattle.std.proofs.Common.{arith, length-append}
use Rattle.std.proofs.lemmas.List.{length-map}
use Rattle.std.proofs.lemmas.Option.{slice_get_within}
use Rattle.kv_base.specs.declared.limits.Limits.{Limits}
use Rattle.kv_disk.specs.declared.disk.Disk as disks
use Rattle.kv_index.specs.declared.index.Index as indexes
use Rattle.kv_recover.specs.Store.{HasRefused}
use Rattle.kv_recover.specs.declared.fault.OpenFault.{OpenFault}
use Rattle.kv_recover.specs.declared.fault.OpenFault.TheVariants as faults
use Rattle.kv_recover.specs.declared.fault.OpenFault.TheVariants.{NotAStore, OtherStore, StampsSpent}
use Rattle.kv_recover.specs.declared.fault.OpenFault.TheVariants.{DiskFault}
use Rattle.kv_recover.specs.declared.opening.Opened.{Opened}
use Rattle.kv_site.specs.FileSite.{Counts}
use Rattle.kv_site.specs.declared.fault.TakeFault.{TakeFault}
use Rattle.kv_site.specs.declared.fault.TakeFault.TheVariants.{Failed, NoMemory}
use Rattle.kv_serve.specs.Opening.{AreOpenedFrom, Opens, OpensBefore}
use Rattle.kv_serve.specs.Outside.{Outside}
use Rattle.kv_serve.specs.Serve.{Refuses, TookEach}
use Rattle.kv_serve.specs.Stores.{IsDiskRefusal}
use Rattle.kv_serve.specs.Taken.{IsTakeRefusal, ReturnsDisks}
use Rattle.kv_serve.specs.declared.ended.Refused.{Refused}
use Rattle.kv_serve.specs.declared.ended.Refused.TheVariants.{TakeDisk, TakeSession}
use Rattle.kv_serve.proofs.PlaceLemmas.{get-map, get-more}

-- the disk of a store
abbrev pub disk_in : {D I : Type 0} → Opened D I → D
disk_in store = store.slabs.disk.disk

-- want of memory, or another fault
is_no_memory : (fault : OpenFault) → (fault ≡ faults.NoMemory) ⊎ (fault ≢ faults.NoMemory)
is_no_memory NotAStore = inr (λ e. cc)
is_no_memory (OtherStore a b c d) = inr (λ e. cc)
is_no_memory (StampsSpent stamp) = inr (λ e. cc)
is_no_memory DiskFault = inr (λ e. cc)
is_no_memory faults.NoMemory = inl refl

module _ {D I : Type 0} (d : disks.Ghosts D) (i : indexes.Ghosts I) (workers : ℕ) (limits : Limits)
    (olds : List D) (stores : List (Opened D I))
    (opened : AreOpenedFrom d i workers limits olds stores) where
  -- each of these disks was opened
  pub opens-each : (worker : ℕ) (old new : D) → slice_get olds worker ≡ Some old
      → slice_get (map disk_in stores) worker ≡ Some new → Opens d workers worker old new
  opens-each worker old new at also =
      let store = get-map disk_in stores worker new also in
      let h = opened.each worker old store.0 at store.1 in
      subst (Opens d workers worker old) (sym store.2) (record {
        opens = h.opens;
        keeps = h.keeps;
        any_moment = h.any_moment;
        durable = h.durable;
        calm = h.calm;
      })

  pub disks-many : length (map disk_in stores) ≡ length olds
  disks-many = length-map stores disk_in ∙ opened.many

  -- and the one behind them was refused
  pub opens-before : (last : ℕ) (disk disk' : D) (fault : OpenFault) → last ≡ length olds
      → HasRefused d disk last workers disk' fault → (worker : ℕ) (old new : D)
      → slice_get (olds ++ disk ∷ []) worker ≡ Some old
      → slice_get (map disk_in stores ++ disk' ∷ []) worker ≡ Some new
      → OpensBefore d workers last fault worker old new
  opens-before last disk disk' fault is refused worker old new at also = record {
    opened = λ lt. elim (get-more olds disk old worker at) [
      | inl here ↦ elim (get-more (map disk_in stores) disk' new worker also) [
        | inl there ↦ opens-each worker old new here there
        | inr past ↦ absurd (omega (arith, lt, is, past.0, disks-many))
      ]
      | inr past ↦ absurd (omega (arith, lt, is, past.0))
    ];
    refused = λ same. elim (get-more olds disk old worker at) [
      | inl here ↦ absurd (omega (arith, same, is, slice_get_within olds worker old here))
      | inr last_old ↦ elim (get-more (map disk_in stores) disk' new worker also) [
        | inl there ↦ absurd (omega (
          arith,
          same,
          is,
          disks-many,
          slice_get_within (map disk_in stores) worker new there,
        ))
        | inr last_new ↦ subst (λ w. HasRefused d old w workers new fault) (sym same)
            (subst₂ (λ x y. HasRefused d x last workers y fault) last_old.1 last_new.1 refused)
      ]
    ];
  }

module _ {In Out Pages I : Type 0} (d : disks.Ghosts Pages) (i : indexes.Ghosts I)
    (o : Outside In Out Pages) (folder : List ℕ) (workers : ℕ) (limits : Limits) where
  -- the disks of these stores came back
  pub took-each : (olds : List Pages) (stores : List (Opened Pages I)) (count : ℕ)
      → AreOpenedFrom d i workers limits olds stores → length stores ≡ count
      → (IsTrue o.tells → ReturnsDisks o.before o.after folder olds (map disk_in stores))
      → TookEach o folder count (Opens d workers)
  took-each olds stores count opened many returns = record {
    olds = olds;
    news = map disk_in stores;
    took = sym opened.many ∙ many;
    gave = length-map stores disk_in ∙ many;
    returns = returns;
    did = opens-each d i workers limits olds stores opened;
  }

  -- and the one behind them
  pub took-last : (olds : List Pages) (stores : List (Opened Pages I)) (last : ℕ)
      (disk disk' : Pages) (fault : OpenFault) → AreOpenedFrom d i workers limits olds stores
      → last ≡ length stores → HasRefused d disk (length olds) workers disk' fault
      → (IsTrue o.tells → ReturnsDisks o.before o.after folder (olds ++ disk ∷ [])
      (map disk_in stores ++ disk' ∷ []))
      → TookEach o folder (last + 1) (OpensBefore d workers last fault)
  took-last olds stores last disk disk' fault opened is refused returns =
      let at : last ≡ length olds = is ∙ opened.many in record {
        olds = olds ++ disk ∷ [];
        news = map disk_in stores ++ disk' ∷ [];
        took = omega (arith, length-append olds (disk ∷ []), at);
        gave = omega (
          arith,
          length-append (map disk_in stores) (disk' ∷ []),
          length-map stores disk_in,
          is,
        );
        returns = returns;
        did = opens-before d i workers limits olds stores opened last disk disk' fault at
            (subst (λ w. HasRefused d disk w workers disk' fault) (sym at) refused);
      }

module _ {In Out Pages : Type 0} (d : disks.Ghosts Pages) (o : Outside In Out Pages)
    (folder : List ℕ) (workers sessions status : ℕ) (refused : Option Refused) where
  -- a command one of whose disks the site refused
  pub refuses-take : (worker : ℕ) (fault : TakeFault) → worker < workers
      → Counts {T = Unit {0}} o.faults o.faults' (Err fault)
      → IsTakeRefusal fault (TakeDisk worker) status refused
      → TookEach o folder worker (Opens d workers)
      → Refuses d o folder workers sessions status refused
  refuses-take worker Failed lt counted h took = rw h.1 (h.0, lt, counted, took)
  refuses-take worker NoMemory lt counted h took =
      rw h.1 (h.0, counted, inl (worker, omega (arith, lt), took))

  -- a command one of whose disks wasn't opened
  pub refuses-disk : (worker : ℕ) (fault : OpenFault) → worker < workers
      → o.faults' ≡ o.faults → IsDiskRefusal worker fault status refused
      → TookEach o folder (worker + 1) (OpensBefore d workers worker fault)
      → Refuses d o folder workers sessions status refused
  refuses-disk worker fault lt calm h took = elim (is_no_memory fault) [
    | inl is ↦
        let end = h.no_memory is in rw end.1 (
          end.0,
          calm,
          inr (
            worker,
            lt,
            subst (λ f. TookEach o folder (worker + 1) (OpensBefore d workers worker f)) is took,
          ),
        )
    | inr other ↦ let end = h.other other in rw end.1 (end.0, lt, other, calm, took)
  ]

  -- a command one of whose sessions the site refused
  pub refuses-session : (session : ℕ) (fault : TakeFault) → session < sessions
      → Counts {T = Unit {0}} o.faults o.faults' (Err fault)
      → IsTakeRefusal fault (TakeSession session) status refused
      → TookEach o folder workers (Opens d workers)
      → Refuses d o folder workers sessions status refused
  refuses-session session Failed lt counted h took = rw h.1 (h.0, lt, counted, took)
  refuses-session session NoMemory lt counted h took =
      rw h.1 (h.0, counted, inl (workers, omega arith, took))
