-- What was served where all parties ran to their ends.
use Rattle.std.proofs.Common.{◌≡◌, inr, ℕ, ◌+◌, ◌-◌, ◌≤◌, List, length, map}
use Rattle.std.proofs.Common.{Bool, IsTrue, IsSome, Some, None, refl, sym, ap, ◌∙◌, subst, arith}
use Rattle.std.proofs.Math.Logic.{∥∥₁_elim, ∥∥₁_map}
use Rattle.std.proofs.Props.{props}
use Rattle.std.specs.Prelude.{All, Option}
use Rattle.std.proofs.lemmas.List.{length-map}
use Rattle.kv_base.specs.declared.limits.Limits.{Limits}
use Rattle.kv_base.specs.declared.sink.Sink as sinks
use Rattle.kv_base.specs.declared.source.Source as sources
use Rattle.kv_disk.specs.declared.disk.Disk as disks
use Rattle.kv_groups.specs.Gathering.{greatest}
use Rattle.kv_index.specs.declared.index.Index as indexes
use Rattle.kv_mesh.specs.Linked.{first_sessions, first_workers, setting_for, slots_of}
use Rattle.kv_mesh.specs.Opening.{OpenedStoresBegin}
use Rattle.kv_mesh.specs.Served.{ServesInAll}
use Rattle.kv_mesh.specs.Settled.{HaveBegun}
use Rattle.kv_mesh.specs.Standing.{streams_of}
use Rattle.kv_mesh.specs.Started.{AreStores, ends_of, floors, opened_of}
use Rattle.kv_model.specs.History.{Write}
use Rattle.kv_parties.specs.Begun.{IsBefore}
use Rattle.kv_parties.specs.Setting.{Setting}
use Rattle.kv_recover.specs.declared.opening.Opened.{Opened}
use Rattle.kv_recover.proofs.FreeSteps.{Told}
use Rattle.kv_session.specs.declared.ending.Ending.{Ending}
use Rattle.kv_session.specs.declared.ending.SessionParts.{SessionParts}
use Rattle.kv_session_party.specs.declared.party.SessionParty.{SessionParty}
use Rattle.kv_worker.specs.Worker.{WorkerView}
use Rattle.kv_worker_party.specs.declared.party.WorkerParty.{WorkerParty}
use Rattle.kv_serve.specs.Answers.{setting_with}
use Rattle.kv_serve.specs.Opening.{AreOpenedFrom}
use Rattle.kv_serve.specs.Outside.{Outside}
use Rattle.kv_serve.specs.Serve.{IsDone, served_status}
use Rattle.kv_serve.specs.Taken.{BringsAll}
use Rattle.kv_serve.specs.declared.ended.Ended.{Ended}
use Rattle.kv_serve.proofs.ChosenLemmas.{Begun, are-opened, begun, setting-is, slots-are}
use Rattle.kv_serve.proofs.PlaceLemmas.{at-is}
use Rattle.kv_serve.proofs.ServedLemmas.{HaveEnded, disk_of, endings-many, endings_from, ends_from}
use Rattle.kv_serve.proofs.ServedLemmas.{is-served}

-- parties can be made of stores that were opened
pub are-stores : {D I : Type 0} (d : disks.Ghosts D) (i : indexes.Ghosts I)
    (law : OpenedStoresBegin d i) (limits : Limits) (olds : List D) (stores : List (Opened D I))
    → AreOpenedFrom d i (length olds) limits olds stores → 1 ≤ length stores → length stores ≤ 16
    → AreStores d i stores
are-stores d i law limits olds stores opened some few =
    let b = begun d i limits olds stores opened (omega (arith, some, opened.many)) in
    law.fit limits b.disks b.before stores few (are-opened d i limits olds stores opened b)

some_ending : (o : Option Ending) → IsSome o → (ending : Ending) × (o ≡ Some ending)
some_ending None some = absurd (cc)
some_ending (Some ending) some = (ending, refl)

module _ {So Si : Type 0} where
  -- each session has ended
  pub have-ended : (parts : List (SessionParts So Si))
      → All (λ (one : SessionParts So Si). IsSome one.ending) parts → HaveEnded parts
  have-ended parts all session one at =
      let is = at-is parts session one at in
      some_ending one.ending (subst (λ (p : SessionParts So Si). IsSome p.ending) (sym is.1)
      (all session one is.0))

module _ {In Out Pages I F : Type 0} {so : sources.Ghosts In} {si : sinks.Ghosts Out}
    {d : disks.Ghosts Pages} {i : indexes.Ghosts I} (told : Told d) (law : OpenedStoresBegin d i)
    (limits : Limits) (olds : List Pages) (stores : List (Opened Pages I))
    (opened : AreOpenedFrom d i (length olds) limits olds stores) (some : 1 ≤ length olds)
    (workers : List (WorkerParty Pages I F d i)) (sessions : List (SessionParty In Out F so si))
    (start : ℕ) (ends : List (In × Out)) (stores_are : map opened_of (first_workers workers) ≡ stores)
    (ends_are : map ends_of (first_sessions sessions) ≡ ends)
    (start_is : start ≡ greatest (floors stores) + 1) (ended : List (WorkerView Pages I))
    (parts : List (SessionParts In Out)) (unsure : Bool)
    (in_all : (before : ℕ → List Write) → HaveBegun d i (first_workers workers) start before
    → IsBefore (setting_for workers sessions start) before
    → ∥ ServesInAll d (streams_of so si) (setting_for workers sessions start) before
    (first_workers workers) (first_sessions sessions) ended parts unsure ∥₁) where
  -- what the parties began with
  b : Begun d i limits olds stores
  b = begun d i limits olds stores opened some

  workers-many : length workers ≡ length stores
  workers-many = sym (length-map workers (λ (p : WorkerParty Pages I F d i). p.first.value))
      ∙ sym (length-map (first_workers workers) opened_of) ∙ ap length stores_are

  sessions-many : length sessions ≡ length ends
  sessions-many = sym (length-map sessions (λ (p : SessionParty In Out F so si). p.first.value))
      ∙ sym (length-map (first_sessions sessions) ends_of) ∙ ap length ends_are

  begins : (setting : Setting) → setting.workers ≡ length stores → setting.floor ≡ start - 1
      → HaveBegun d i (first_workers workers) start b.before × IsBefore setting b.before
  begins setting many floor = law.begin limits b.disks b.before stores (first_workers workers) start
      setting (omega (arith, some, opened.many)) (are-opened d i limits olds stores opened b)
      stores_are start_is many floor

  merely-serves : ∥ ServesInAll d (streams_of so si) (setting_for workers sessions start) b.before
      (first_workers workers) (first_sessions sessions) ended parts unsure ∥₁
  merely-serves =
      let both = begins (setting_for workers sessions start) workers-many refl in
      in_all b.before both.0 both.1

  -- as many workers and sessions are handed out as began
  pub many-ended : (length ended ≡ length stores) × (length parts ≡ length ends)
  many-ended = ∥∥₁_elim merely-serves (hlevel props)
      (λ (serves : ServesInAll d (streams_of so si) (setting_for workers sessions start) b.before
      (first_workers workers) (first_sessions sessions) ended parts unsure). (
        serves.serves.many_workers ∙ length-map workers (λ (p : WorkerParty Pages I F d i).
            p.first.value) ∙ workers-many,
        serves.serves.many_sessions ∙ length-map sessions (λ (p : SessionParty In Out F so si).
            p.first.value) ∙ sessions-many,
      ))

  -- the command served its sessions
  pub done-served : (o : Outside In Out Pages) (folder : List ℕ) (end : Ended)
      → o.streams ≡ streams_of so si
      → All (λ (one : SessionParts In Out). IsSome one.ending) parts
      → end.endings.items ≡ endings_from parts
      → end.status ≡ served_status end.endings.items unsure → end.refused ≡ None
      → (IsTrue o.tells → BringsAll o.before o.after folder olds (map disk_of ended) ends
      (map ends_from parts)) → o.faults' ≡ o.faults
      → IsDone d o folder (length olds) limits (length ends) end
  done-served o folder end streams all endings_are status_is refused brings calm =
      let over = have-ended parts all in
      let floor = greatest (floors stores) in
      let many : length end.endings.items ≡ length ends = ap length endings_are
      ∙ endings-many parts over ∙ many-ended.1 in
      let floor_is : floor ≡ start - 1 = omega (arith, start_is) in
      let is_before = (begins (setting_with d limits floor (length end.endings.items) (length olds))
      (sym opened.many) floor_is).1 in
      let same = setting-is d limits start floor (length sessions) (length end.endings.items)
      (length workers) (length olds) (slots_of workers) start_is (sessions-many ∙ sym many)
      (workers-many ∙ opened.many)
      (slots-are d i limits olds stores opened (first_workers workers) stores_are some) in
      record {
        ends = inr (
          many,
          refused,
          ∥∥₁_map merely-serves (λ (serves : ServesInAll d (streams_of so si)
              (setting_for workers sessions start) b.before (first_workers workers)
              (first_sessions sessions) ended parts unsure). is-served d i told limits olds stores
              opened b o folder end.status end.endings.items floor refl is_before
              (first_workers workers) stores_are (first_sessions sessions) ends ends_are ended parts
              over endings_are unsure status_is brings calm
              (subst (λ s. ServesInAll d o.streams s b.before (first_workers workers)
              (first_sessions sessions) ended parts unsure) same
              (subst (λ streams. ServesInAll d streams (setting_for workers sessions start) b.before
              (first_workers workers) (first_sessions sessions) ended parts unsure) (sym streams)
              serves))),
        );
        report = λ t. (brings t).report;
      }
