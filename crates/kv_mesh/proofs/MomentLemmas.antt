-- What a crash leaves at each moment of the turns, by the writes of all workers.
use Rattle.std.proofs.Common.{◌≡◌, ℕ, ◌-◌, ◌<◌, ◌≤◌, List, ◌++◌, Bool, length, refl, sym, ap, ◌∙◌}
use Rattle.std.proofs.Common.{arith, subst, subst₂}
use Rattle.std.proofs.Math.Logic.{∥∥₁_elim, ∥∥₁_prop}
use Rattle.std.proofs.lemmas.Grind.{merely}
use Rattle.atomic_table.specs.Seated.{TableId}
use Rattle.kv_base.specs.Crash.{MayLeave}
use Rattle.kv_base.specs.Image.{Image}
use Rattle.kv_base.specs.declared.sink.Sink as sinks
use Rattle.kv_base.specs.declared.source.Source as sources
use Rattle.kv_disk.specs.declared.disk.Disk as disks
use Rattle.kv_index.specs.declared.index.Index as indexes
use Rattle.kv_model.specs.History.{Write}
use Rattle.kv_model.specs.Layout.{all_classes}
use Rattle.kv_model.specs.Pairs.{Pair, pairs_in, writes}
use Rattle.kv_model.specs.Recovery.{RecoversPrefix}
use Rattle.kv_parties.specs.Begun.{IsBefore, all_before}
use Rattle.kv_parties.specs.Causes.{all_writes}
use Rattle.kv_parties.specs.Joined.{AllKeep, NonePassed, Parties}
use Rattle.kv_parties.specs.Messages.{answered_in}
use Rattle.kv_parties.specs.Recovered.{Recovers}
use Rattle.kv_parties.specs.Rows.{row}
use Rattle.kv_parties.specs.Setting.{Setting}
use Rattle.kv_parties.specs.Workers.{done_pairs}
use Rattle.kv_session_party.specs.declared.party.SessionParty.{SessionParty}
use Rattle.kv_worker_party.specs.Party.{BeginsWith, setting_of}
use Rattle.kv_worker_party.specs.declared.party.WorkerParty.{WorkerParty}
use Rattle.kv_mesh.specs.Laws.{MeshLaws}
use Rattle.kv_mesh.specs.Linked.{AreLinked, first_workers, setting_for, slots_in, slots_of}
use Rattle.kv_mesh.specs.Moments.{HoldsWith, LeavePrefixes, WentOn}
use Rattle.kv_mesh.specs.Moves.{Become}
use Rattle.kv_mesh.specs.Places.{IsAt}
use Rattle.kv_mesh.specs.Settled.{AreSettled, HaveBegun}
use Rattle.kv_mesh.specs.Standing.{answered_pairs, answers_sent, parties_of}
use Rattle.kv_mesh.proofs.ChoiceLemmas.{chosen}
use Rattle.kv_mesh.proofs.LookLemmas.{sessions-long, workers-long}
use Rattle.kv_mesh.proofs.PlaceLemmas.{one-at, pick}
use Rattle.kv_mesh.proofs.PromiseLemmas.{AllHold, KeepTold, SessionsKeep, all-hold, first-at, keep-told}
use Rattle.kv_mesh.proofs.PromiseLemmas.{sessions-keep}
use Rattle.kv_mesh.proofs.SettleLemmas.{none-passed}

-- settings of equal parts
setting-same : (told : Bool) (start start' sessions sessions' workers workers' slots slots' : ℕ)
    → start ≡ start' → sessions ≡ sessions' → workers ≡ workers' → slots ≡ slots'
    → setting_of told start sessions workers slots ≡ setting_of told start' sessions' workers' slots'
setting-same told start start' sessions sessions' workers workers' slots slots' e₁ e₂ e₃ e₄ =
    ap (λ z. setting_of told z sessions workers slots) e₁
    ∙ ap (λ z. setting_of told start' z workers slots) e₂
    ∙ ap (λ z. setting_of told start' sessions' z slots) e₃
    ∙ ap (λ z. setting_of told start' sessions' workers' z) e₄

-- all parties keep their promises, none passed a message over, and the workers answered these pairs
record Joined {F D : Type 0} (d : disks.Ghosts D) (setting : Setting) (parties : Parties F D)
    (pairs : ℕ → List Pair) : Type 0 where
  keep : AllKeep d setting parties
  passed : NonePassed setting parties
  told : (k : ℕ) (lt : k < setting.workers)
      → done_pairs (keep.workers k lt).groups.history ≡ pairs k

module _ {So Si D I F : Type 0} {so : sources.Ghosts So} {si : sinks.Ghosts Si}
    {d : disks.Ghosts D} {i : indexes.Ghosts I} (workers : List (WorkerParty D I F d i))
    (sessions : List (SessionParty So Si F so si)) (counter : TableId) (start kept : ℕ)
    (linked : AreLinked workers sessions counter start kept)
    (settled : AreSettled workers sessions start) (before : ℕ → List Write)
    (begun : HaveBegun d i (first_workers workers) start before) where
  joined : (pairs : ℕ → List Pair)
      → (k : KeepTold workers sessions counter start kept linked before pairs)
      → Joined d (setting_for workers sessions start) (parties_of workers sessions before
      k.promises.own k.promises.groups k.promises.requests k.promises.views) pairs
  joined pairs k = record {
    keep = k.promises.keep;
    passed = none-passed workers sessions counter start kept linked settled before begun k.promises;
    told = k.told;
  }

module _ {So Si D I F : Type 0} {so : sources.Ghosts So} {si : sinks.Ghosts Si}
    {d : disks.Ghosts D} {i : indexes.Ghosts I} (laws : MeshLaws F D d)
    (workers : List (WorkerParty D I F d i)) (sessions : List (SessionParty So Si F so si))
    (counter : TableId) (start kept : ℕ) (linked : AreLinked workers sessions counter start kept)
    (settled : AreSettled workers sessions start) (now : List (WorkerParty D I F d i))
    (news : List (SessionParty So Si F so si)) (same : TableId) (last later : ℕ)
    (linked_now : AreLinked now news same last later) (settled_now : AreSettled now news last)
    (become : Become workers sessions start now news last) (before : ℕ → List Write)
    (begun : HaveBegun d i (first_workers workers) start before)
    (is_before : IsBefore (setting_for workers sessions start) before) where
  long : length now ≡ length workers
  long = workers-long workers now become.began.workers_began

  setting-is : setting_for now news last ≡ setting_for workers sessions start
  setting-is = setting-same d.tells last start (length news) (length sessions) (length now)
      (length workers) (slots_of now) (slots_of workers) become.began.start_is
      (sessions-long sessions news become.began.sessions_began) long
      (ap slots_in become.began.workers_began)

  begun-now : HaveBegun d i (first_workers now) last before
  begun-now = subst₂ (λ firsts n. HaveBegun d i firsts n before)
      (sym become.began.workers_began) (sym become.began.start_is) begun

  -- at each moment a crash leaves of the worker's disk a prefix of what it answered by now
  abbrev Leaves : ℕ → List Pair → List Pair → WorkerParty D I F d i → WorkerParty D I F d i → Type 0
  Leaves k pairs all old new = (moment : ℕ) → d.calls old.worker.store.disk.disk ≤ moment
      → moment ≤ d.calls new.worker.store.disk.disk → (image : Image)
      → MayLeave (d.leaves new.worker.store.disk.disk moment) image
      → RecoversPrefix all_classes (all_writes (before k) all) (before k ++ writes pairs) image k
      (length workers)

  -- what a worker answered by now
  abbrev Answered : (ℕ → List Pair) → ℕ → List Pair → Type 0
  Answered pairs k all = ((party : WorkerParty D I F d i) → IsAt now k party
      → HoldsWith party (before k) all) × ((old new : WorkerParty D I F d i)
      → IsAt workers k old → IsAt now k new → Leaves k (pairs k) all old new)

  answered : (pairs : ℕ → List Pair) → AllHold workers before pairs → (k : ℕ) → k < length now
      → (all : List Pair) × Answered pairs k all
  answered pairs held k lt =
      let p = pick workers k (omega (arith, long, lt)) in
      let q = pick now k lt in
      let fits = linked.worker_fits k p.0 p.1 in
      let went : WentOn p.0 q.0 (before k) (pairs k) =
      (become.each k p.0 q.0 p.1 q.1).goes (before k)
      (subst (λ n. BeginsWith d i p.0.first.value (before k) (n - 1)) (sym fits.start_is)
      (begun k p.0.first.value (first-at workers k p.0 p.1))) (pairs k) (held k p.0 p.1) in
      let all = pairs k ++ went.more in
      let leaves : Leaves k (pairs k) all p.0 q.0 = λ moment from to image left.
      subst₂ (λ m n. RecoversPrefix all_classes (all_writes (before k) all)
      (before k ++ writes (pairs k)) image m n) fits.number_was fits.workers_were
      (went.moments.each moment from to image left) in (
        all,
        (
          λ party at. subst (λ z. HoldsWith z (before k) all) (one-at now k q.0 party q.1 at)
              went.holds,
          λ old new a b. subst₂ (Leaves k (pairs k) all) (one-at workers k p.0 old p.1 a)
              (one-at now k q.0 new q.1 b) leaves,
        ),
      )

  module _ (pairs : ℕ → List Pair) (held : AllHold workers before pairs)
      (theirs : SessionsKeep workers sessions counter start kept linked)
      (others : SessionsKeep now news same last later linked_now) where
    all-now : (all : ℕ → List Pair)
        × ((k : ℕ) → k < length now → Answered pairs k (all k))
    all-now = chosen (length now) (Answered pairs) linked_now.some_workers
        (answered pairs held)

    told : KeepTold workers sessions counter start kept linked before pairs
    told = keep-told workers sessions counter start kept linked before pairs held settled.order theirs

    told-now : KeepTold now news same last later linked_now before all-now.0
    told-now = keep-told now news same last later linked_now before all-now.0
        (λ k party at. (all-now.1 k at.0).0 party at) settled_now.order others

    abbrev earlier : Parties F D
    earlier = parties_of workers sessions before told.promises.own told.promises.groups
        told.promises.requests told.promises.views

    abbrev by-now : Parties F D
    by-now = parties_of now news before told-now.promises.own told-now.promises.groups
        told-now.promises.requests told-now.promises.views

    was-joined : Joined d (setting_for workers sessions start) earlier pairs
    was-joined = joined workers sessions counter start kept linked settled before begun pairs told

    is-joined : Joined d (setting_for workers sessions start) by-now all-now.0
    is-joined = subst (λ setting. Joined d setting by-now all-now.0) setting-is
        (joined now news same last later linked_now settled_now before begun-now all-now.0 told-now)

    recovered : (w : ℕ) (old new : WorkerParty D I F d i) → IsAt workers w old → IsAt now w new
        → (moment : ℕ) → d.calls old.worker.store.disk.disk ≤ moment
        → moment ≤ d.calls new.worker.store.disk.disk → (image : Image)
        → MayLeave (d.leaves new.worker.store.disk.disk moment) image
        → Recovers (setting_for workers sessions start) w image
        (all_before (setting_for workers sessions start) before)
        (answered_pairs workers (length sessions)) (answered_pairs now (length sessions))
    recovered w old new here there moment from to image left =
        let setting = setting_for workers sessions start in
        let leaves : RecoversPrefix all_classes (all_writes (before w) (all-now.0 w))
        (before w ++ writes (pairs w)) image w (length workers) =
        (all-now.1 w there.0).1 old new here there moment from to image left in
        subst (λ n. Recovers setting w image (all_before setting before)
        (answered_pairs workers (length sessions)) (row n (λ v. row (length sessions) (λ s.
        pairs_in (answered_in (answers_sent now v s)))))) (sym long)
        (laws.recovery setting earlier by-now refl is_before was-joined.keep was-joined.passed
        is-joined.keep is-joined.passed w image here.0 (λ lt.
        subst₂ (λ some all. Recovers setting w image (before w) some all)
        (sym (was-joined.told w lt)) (sym (is-joined.told w lt)) (merely leaves)))

  pub prefixes-left : LeavePrefixes workers sessions start before now
  prefixes-left w old new here there moment from to image left =
      ∥∥₁_elim (all-hold workers sessions counter start kept linked before begun) ∥∥₁_prop
      (λ (held : (pairs : ℕ → List Pair) × AllHold workers before pairs).
      ∥∥₁_elim (sessions-keep workers sessions counter start kept linked) ∥∥₁_prop
      (λ (theirs : SessionsKeep workers sessions counter start kept linked).
      ∥∥₁_elim (sessions-keep now news same last later linked_now) ∥∥₁_prop
      (λ (others : SessionsKeep now news same last later linked_now).
      recovered held.0 held.1 theirs others w old new here there moment from to image left)))
