-- What all parties served is what the command owes.
use Rattle.std.proofs.Common.{◌≡◌, inl, inr, ⊎_elim, ℕ, ◌^◌, ◌<◌, ◌≤◌, List, [], ◌∷◌}
use Rattle.std.proofs.Common.{length, map, slice_get, Some, Bool, IsTrue, Option}
use Rattle.std.proofs.Common.{refl, sym, ap, ◌∙◌, subst, subst₂}
use Rattle.std.proofs.Common.{arith, zero, suc}
use Rattle.std.specs.List.{AllByRecursion}
use Rattle.std.specs.Prelude.{filter_map}
use Rattle.std.proofs.lemmas.List.{length-map}
use Rattle.std.proofs.lemmas.Bool.{cases_eq}
use Rattle.std.proofs.lemmas.Option.{same_Some, slice_get_within}
use Rattle.kv_base.proofs.CrashLemmas.{joins}
use Rattle.kv_base.proofs.ImageLemmas.{only_image}
use Rattle.kv_base.specs.Crash.{Only}
use Rattle.kv_base.specs.Image.{Image}
use Rattle.kv_base.specs.declared.limits.Limits.{Limits}
use Rattle.kv_disk.specs.declared.disk.Disk as disks
use Rattle.kv_groups.specs.Gathering.{greatest}
use Rattle.kv_index.specs.declared.index.Index as indexes
use Rattle.kv_mesh.specs.Refusals.{RefusesForCause}
use Rattle.kv_mesh.specs.Served.{ServesInAll, pairs_of_all}
use Rattle.kv_mesh.specs.Started.{ends_of, floors, opened_of}
use Rattle.kv_model.specs.History.{Write}
use Rattle.kv_model.specs.Layout.{all_classes}
use Rattle.kv_model.specs.Pairs.{Pair, stamps}
use Rattle.kv_model.specs.Recovery.{AreKept, OpensAs, RecoversPrefix}
use Rattle.kv_model.proofs.PairwiseLemmas.{All-front, All-rest}
use Rattle.kv_parties.specs.Begun.{IsBefore, all_before}
use Rattle.kv_parties.specs.Causes.{any_unsure}
use Rattle.kv_parties.specs.Recovered.{Recovers}
use Rattle.kv_parties.specs.Rows.{row}
use Rattle.kv_parties.specs.Setting.{Setting, owned_pairs}
use Rattle.kv_recover.specs.Opened.{LeftOrKept}
use Rattle.kv_recover.specs.declared.opening.Opened.{Opened}
use Rattle.kv_recover.proofs.FreeSteps.{Told}
use Rattle.kv_recover.proofs.OpenSteps.{weaker-told}
use Rattle.kv_session.specs.Session.{SessionState}
use Rattle.kv_session.specs.declared.ending.Ending.{Ending}
use Rattle.kv_session.specs.declared.ending.SessionParts.{SessionParts}
use Rattle.kv_session.specs.Passage.{HasSession}
use Rattle.kv_worker.specs.Worker.{WorkerView}
use Rattle.kv_serve.specs.Answers.{LeavesAcknowledged, LeavesSome, setting_with}
use Rattle.kv_serve.specs.Opening.{AreOpenedFrom, HadAllItems}
use Rattle.kv_serve.specs.Outside.{Outside}
use Rattle.kv_serve.specs.Serve.{IsServed, served_status}
use Rattle.kv_serve.specs.Taken.{BringsAll}
use Rattle.kv_serve.proofs.ChosenLemmas.{Begun, had-all}
use Rattle.kv_serve.proofs.OpeningLemmas.{recovers-items, recovers-kept, recovers-longer}
use Rattle.kv_serve.proofs.PlaceLemmas.{at-is, get-map, get-within}

-- the disk of the worker
abbrev pub disk_of : {D I : Type 0} → WorkerView D I → D
disk_of worker = worker.store.disk.disk

-- the source and the sink of a session that stopped
abbrev pub ends_from : {So Si : Type 0} → SessionParts So Si → So × Si
ends_from parts = (parts.source, parts.sink)

-- how a session ended, if it has
abbrev pub ending_of : {So Si : Type 0} → SessionParts So Si → Option Ending
ending_of parts = parts.ending

-- how the sessions ended
abbrev pub endings_from : {So Si : Type 0} → List (SessionParts So Si) → List Ending
endings_from parts = filter_map ending_of parts

module _ {So Si : Type 0} where
  -- each of the sessions has ended
  abbrev pub HaveEnded : List (SessionParts So Si) → Type 0
  HaveEnded parts = (session : ℕ) (one : SessionParts So Si) → slice_get parts session ≡ Some one
      → (ending : Ending) × (one.ending ≡ Some ending)

  -- so there are as many endings
  pub endings-many : (parts : List (SessionParts So Si)) → HaveEnded parts
      → length (endings_from parts) ≡ length parts
  endings-many [] all = refl
  endings-many (one ∷ parts) all =
      let first = all 0 one refl in
      rw (first.1) (ap suc (endings-many parts (λ n other here. all (suc n) other here)))

  -- and each stands at its session's place
  pub ending-at : (parts : List (SessionParts So Si)) → HaveEnded parts → (session : ℕ)
      (one : SessionParts So Si) (ending : Ending) → slice_get parts session ≡ Some one
      → slice_get (endings_from parts) session ≡ Some ending → one.ending ≡ Some ending
  ending-at [] all session one ending at also = absurd (cc)
  ending-at (first ∷ parts) all zero one ending at also =
      let ended = all 0 first refl in
      let same : first ≡ one = same_Some first one at in
      ap (λ (p : SessionParts So Si). p.ending) (sym same) ∙ ended.1
      ∙ ap Some (same_Some ended.0 ending (rw (ended.1) at also))
  ending-at (first ∷ parts) all (suc session) one ending at also =
      let ended = all 0 first refl in
      ending-at parts (λ n other here. all (suc n) other here) session one ending at
      (rw (ended.1) at also)

-- what holds of all writes holds of those of each worker
All-row : (P : Write → Type 0) (n w : ℕ) (f : ℕ → List Write) → w < n
    → AllByRecursion P (row n f) → AllByRecursion P (f w)
All-row P zero w f lt holds = absurd (omega (arith, lt))
All-row P (suc n) w f lt holds = ⊎_elim
    (λ (same : w ≡ n). subst (λ k. AllByRecursion P (f k)) (sym same)
    (All-rest P (row n f) (f n) holds))
    (λ (other : w ≡ n → ⊥). All-row P n w f (omega (arith, lt, other))
    (All-front P (row n f) (f n) holds))
    (cases_eq w n)

module _ {Pages I : Type 0} (d : disks.Ghosts Pages) (i : indexes.Ghosts I) (told : Told d)
    (limits : Limits) (olds : List Pages) (stores : List (Opened Pages I))
    (b : Begun d i limits olds stores) (floor sessions : ℕ)
    (is_before : IsBefore (setting_with d limits floor sessions (length olds)) b.before) where
  -- what is served
  abbrev setting : Setting
  setting = setting_with d limits floor sessions (length olds)

  -- all that stood on the disks
  abbrev whole : List Write
  whole = all_before setting b.before

  own-low : (worker : ℕ) → worker < length olds
      → AllByRecursion (λ write. write.stamp ≤ floor) (b.before worker)
  own-low worker lt =
      All-row (λ write. write.stamp ≤ floor) (length olds) worker b.before lt is_before.low

  own-kept : (worker : ℕ) (disk : Pages) (store : Opened Pages I)
      → slice_get olds worker ≡ Some disk → slice_get stores worker ≡ Some store → IsTrue d.tells
      → OpensAs all_classes (d.seen disk) worker (length olds)
      × AreKept all_classes (d.seen disk) worker (length olds) (b.before worker)
  own-kept worker disk store at also tells =
      let h = b.opened worker (slice_get_within olds worker disk at) disk store at also in (
        h.has.opens tells,
        subst (AreKept all_classes (d.seen disk) worker (length olds)) h.writes_are
            (h.has.kept.kept tells),
      )

  -- each moment of the opening of a disk with nothing pending leaves all writes
  opening-leaves : (worker : ℕ) (disk : Pages) (store : Opened Pages I) (pairs : List Pair)
      → slice_get olds worker ≡ Some disk → slice_get stores worker ≡ Some store
      → AllByRecursion (λ stamp. (floor < stamp) × (stamp < 2 ^ 62)) (stamps pairs)
      → Only (d.seen disk) (d.leaves disk (d.calls disk))
      → LeavesSome d setting worker disk store.slabs.disk.disk whole pairs
  opening-leaves worker disk store pairs at also above only =
      let h = b.opened worker (slice_get_within olds worker disk at) disk store at also in
      weaker-told (d.calls disk) (d.calls store.slabs.disk.disk) (d.leaves disk)
      (d.leaves store.slabs.disk.disk) (LeftOrKept d disk worker (length olds))
      (λ image. Recovers setting worker image whole [] pairs) (IsTrue d.tells)
      (λ t f p c left. (told store.slabs.disk.disk t f p c left).0) h.has.any_moment
      (λ image tells left. ∣ recovers-longer whole floor pairs image worker (length olds)
      is_before.low above (by image tells left) ∣₁)
    where
      by : (image : Image) → IsTrue d.tells → LeftOrKept d disk worker (length olds) image
          → RecoversPrefix all_classes whole whole image worker (length olds)
      by image tells (inl left) =
          let lt = slice_get_within olds worker disk at in
          let own = own-kept worker disk store at also tells in
          subst (λ other. RecoversPrefix all_classes whole whole other worker (length olds))
          (sym (only_image (d.seen disk) (d.leaves disk (d.calls disk)) image only left))
          (recovers-items (length olds) b.before is_before.owned floor is_before.low worker lt
          (own-low worker lt) (d.seen disk) own.0 own.1)
      by image tells (inr keeps) =
          let lt = slice_get_within olds worker disk at in
          let own = own-kept worker disk store at also tells in
          recovers-kept (length olds) b.before is_before.owned floor is_before.low worker lt
          (own-low worker lt) (d.seen disk) image own.0 own.1 keeps

module _ {In Out Pages I : Type 0} (d : disks.Ghosts Pages) (i : indexes.Ghosts I) (told : Told d)
    (limits : Limits) (olds : List Pages) (stores : List (Opened Pages I))
    (opened : AreOpenedFrom d i (length olds) limits olds stores)
    (b : Begun d i limits olds stores)
    (o : Outside In Out Pages) (folder : List ℕ) (status : ℕ) (endings : List Ending)
    (floor : ℕ) (floor_is : floor ≡ greatest (floors stores))
    (is_before : IsBefore (setting_with d limits floor (length endings) (length olds)) b.before)
    (firsts : List (WorkerView Pages I)) (firsts_are : map opened_of firsts ≡ stores)
    (starts : List (SessionState In Out)) (ends : List (In × Out))
    (starts_are : map ends_of starts ≡ ends) (ended : List (WorkerView Pages I))
    (parts : List (SessionParts In Out)) (all_ended : HaveEnded parts)
    (endings_are : endings ≡ endings_from parts) (unsure : Bool)
    (status_is : status ≡ served_status endings unsure)
    (brings : IsTrue o.tells → BringsAll o.before o.after folder olds (map disk_of ended) ends
    (map ends_from parts)) (calm : o.faults' ≡ o.faults)
    (serves : ServesInAll d o.streams (setting_with d limits floor (length endings) (length olds))
    b.before firsts starts ended parts unsure) where
  -- what is served
  abbrev now : Setting
  now = setting_with d limits floor (length endings) (length olds)

  -- all that stood on the disks
  abbrev all : List Write
  all = all_before now b.before

  -- all that the sessions answered
  abbrev pairs : List Pair
  pairs = pairs_of_all (length endings) serves.serves.groups

  -- the worker at a place, as it began and as it ended
  record At (worker : ℕ) (old new : Pages) : Type 0 where
    store : Opened Pages I
    store_at : slice_get stores worker ≡ Some store
    first : WorkerView Pages I
    first_at : slice_get firsts worker ≡ Some first
    store_is : store ≡ opened_of first
    last : WorkerView Pages I
    last_at : slice_get ended worker ≡ Some last
    new_is : new ≡ disk_of last

  at-worker : (worker : ℕ) (old new : Pages) → slice_get olds worker ≡ Some old
      → slice_get (map disk_of ended) worker ≡ Some new → At worker old new
  at-worker worker old new at also =
      let store = get-within stores worker
      (omega (arith, slice_get_within olds worker old at, opened.many)) in
      let first = get-map opened_of firsts worker store.0
      (ap (λ (l : List (Opened Pages I)). slice_get l worker) firsts_are ∙ store.1) in
      let last = get-map disk_of ended worker new also in record {
        store = store.0;
        store_at = store.1;
        first = first.0;
        first_at = first.1;
        store_is = first.2;
        last = last.0;
        last_at = last.1;
        new_is = last.2;
      }

  causes : (worker : ℕ) (old new : Pages) → slice_get olds worker ≡ Some old
      → slice_get (map disk_of ended) worker ≡ Some new
      → RefusesForCause now worker all (d.faults old) (d.faults new)
      (any_unsure (owned_pairs now.workers worker pairs)) pairs
  causes worker old new at also =
      let w = at-worker worker old new at also in
      let h = opened.each worker old w.store at w.store_at in
      let c = serves.serves.causes worker w.first w.last (at-is firsts worker w.first w.first_at)
      (at-is ended worker w.last w.last_at) in
      let calm_too : d.faults (disk_of w.first) ≡ d.faults old =
      ap (λ (store : Opened Pages I). d.faults store.slabs.disk.disk) (sym w.store_is) ∙ h.calm in
      subst₂ (λ (faults : ℕ) (disk : Pages). RefusesForCause now worker all faults (d.faults disk)
      (any_unsure (owned_pairs now.workers worker pairs)) pairs) calm_too (sym w.new_is)
      (subst (λ closed. RefusesForCause now worker all (d.faults (disk_of w.first))
      (d.faults (disk_of w.last)) closed pairs) c.closed_is c)

  -- what a crash leaves while the parties run
  run-leaves : (worker : ℕ) (old new : Pages) (w : At worker old new)
      → LeavesSome d now worker w.store.slabs.disk.disk new all pairs
      × LeavesAcknowledged d now worker new all pairs
  run-leaves worker old new w =
      let first_is = at-is firsts worker w.first w.first_at in
      let last_is = at-is ended worker w.last w.last_at in
      let leaves = serves.serves.leaves worker w.first w.last first_is last_is in
      let past = serves.serves.past worker w.first w.last first_is last_is in
      let same : disk_of w.first ≡ w.store.slabs.disk.disk =
      ap (λ (store : Opened Pages I). store.slabs.disk.disk) (sym w.store_is) in (
        subst₂ (λ (one other : Pages). LeavesSome d now worker one other all pairs) same
            (sym w.new_is)
            (record { later = leaves.later; each = leaves.any_moment; before = past }),
        subst (λ (other : Pages). LeavesAcknowledged d now worker other all pairs) (sym w.new_is)
            leaves.exit,
      )

  transcripts : (session : ℕ) (first last : In × Out) (ending : Ending)
      → slice_get ends session ≡ Some first → slice_get (map ends_from parts) session ≡ Some last
      → slice_get endings session ≡ Some ending
      → HasSession o.streams first.0 last.0 first.1 last.1 ending (serves.serves.groups session)
  transcripts session first last ending at also here =
      let start = get-map ends_of starts session first
      (ap (λ (l : List (In × Out)). slice_get l session) starts_are ∙ at) in
      let stop = get-map ends_from parts session last also in
      let ran = serves.serves.transcripts session start.0 stop.0 (at-is starts session start.0 start.1)
      (at-is parts session stop.0 stop.1) in
      let same : ran.ending ≡ ending = same_Some ran.ending ending (sym ran.ending_is
      ∙ ending-at parts all_ended session stop.0 ending stop.1
      (ap (λ (l : List Ending). slice_get l session) (sym endings_are) ∙ here)) in
      subst₂ (λ (a b : In × Out). HasSession o.streams a.0 b.0 a.1 b.1 ending
      (serves.serves.groups session)) (sym start.2) (sym stop.2)
      (subst (λ (e : Ending). HasSession o.streams start.0.source stop.0.source start.0.sink
      stop.0.sink e (serves.serves.groups session)) same ran.session)

  -- the command's sessions were served
  pub is-served : IsServed d o folder (length olds) limits status endings
  is-served =
      let counts : (length ends ≡ length endings) × (length (map ends_from parts) ≡ length endings) = (
        sym (ap length starts_are) ∙ length-map starts ends_of ∙ sym serves.serves.many_sessions
            ∙ sym (endings-many parts all_ended) ∙ sym (ap length endings_are),
        length-map parts ends_from ∙ sym (endings-many parts all_ended)
            ∙ sym (ap length endings_are),
      ) in
      let workers : length (map disk_of ended) ≡ length olds = length-map ended disk_of
      ∙ serves.serves.many_workers ∙ sym (length-map firsts opened_of) ∙ ap length firsts_are
      ∙ opened.many in
      record {
        olds = olds;
        news = map disk_of ended;
        ends = ends;
        ends' = map ends_from parts;
        took = (refl, counts.0);
        gave = (workers, counts.1);
        disks = λ t. (brings t).disks;
        sessions = λ t. (brings t).sessions;
        before = b.before;
        floor = floor;
        had = subst (HadAllItems d olds b.before) (sym floor_is)
            (had-all d i limits olds stores opened b);
        groups = serves.serves.groups;
        transcripts = transcripts;
        answers = record {
          agrees = serves.serves.right;
          ordered = serves.serves.ordered;
          counter = serves.serves.counter;
          causes = causes;
          spent = serves.spent;
        };
        settled = λ worker old new at also only.
            let w = at-worker worker old new at also in
            joins (d.calls old) (d.calls w.store.slabs.disk.disk) (d.calls new) (d.leaves old)
            (d.leaves w.store.slabs.disk.disk) (d.leaves new)
            (λ image. Recovers now worker image all [] pairs)
            (opening-leaves d i told limits olds stores b floor
            (length endings) is_before worker old w.store pairs at w.store_at
            serves.serves.right.above only) (run-leaves worker old new w).0;
        exit = λ worker new also.
            let last = slice_get_within (map disk_of ended) worker new also in
            let old = get-within olds worker (omega (arith, last, workers)) in
            (run-leaves worker old.0 new (at-worker worker old.0 new old.1 also)).1;
        status_is = status_is ∙ ap (served_status endings) serves.serves.unsure_is;
        calm = calm;
      }
