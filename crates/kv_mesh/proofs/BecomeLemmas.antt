-- What a worker becomes by turns and looks.
use Rattle.std.proofs.Common.{◌≡◌, ℕ, ◌-◌, ◌<◌, ◌≤◌, List, ◌++◌, Vec, refl, sym, ap, ◌∙◌}
use Rattle.std.proofs.Common.{subst, subst₂, arith, append_assoc}
use Rattle.std.specs.declared.alloc.Global.{Global}
use Rattle.std.specs.List.{AllByRecursion}
use Rattle.std.proofs.lemmas.List.{map-append}
use Rattle.kv_base.proofs.CrashLemmas.{joins, weaker}
use Rattle.kv_base.specs.Crash.{LeavesOnly}
use Rattle.kv_base.specs.Image.{Image}
use Rattle.kv_disk.specs.declared.disk.Disk as disks
use Rattle.kv_groups.specs.declared.connection.Connection.{Connection}
use Rattle.kv_index.specs.declared.index.Index as indexes
use Rattle.kv_model.proofs.PairwiseLemmas.{All-append, All-map}
use Rattle.kv_model.proofs.PrefixLemmas.{prefix-fewer}
use Rattle.kv_model.specs.History.{Write}
use Rattle.kv_model.specs.Layout.{all_classes}
use Rattle.kv_model.specs.Pairs.{Pair, writes}
use Rattle.kv_model.specs.Recovery.{RecoversPrefix}
use Rattle.kv_parties.specs.Causes.{all_writes}
use Rattle.kv_parties.specs.Workers.{Done, done_pairs}
use Rattle.kv_ring.specs.Ends.{peers}
use Rattle.kv_stamps.specs.Seats.{Seat}
use Rattle.kv_worker.specs.Worker.{WorkerView}
use Rattle.kv_worker_party.specs.Party.{AlwaysGoesOn, BeginsWith, Holds}
use Rattle.kv_worker_party.specs.declared.party.WorkerParty.{WorkerParty}
use Rattle.kv_worker_party.proofs.KeepLemmas.{writes-more}
use Rattle.kv_worker_party.proofs.PartyLemmas.{looked-goes}
use Rattle.kv_worker_party.proofs.StampedLemmas.{HasStamp, writes-all}
use Rattle.kv_mesh.specs.Moments.{Becomes, HoldsWith, WentOn}
use Rattle.kv_mesh.specs.Moves.{LooksWorker}

-- a prefix that holds more writes holds fewer
fewer-held : (history before : List Write) (pairs more : List Pair) (image : Image)
    (worker workers : ℕ)
    → RecoversPrefix all_classes history (before ++ writes (pairs ++ more)) image worker workers
    → RecoversPrefix all_classes history (before ++ writes pairs) image worker workers
fewer-held history before pairs more image worker workers r =
    prefix-fewer all_classes history (before ++ writes pairs) (writes more) image worker workers
    (subst (λ all. RecoversPrefix all_classes history all image worker workers)
    (writes-more before pairs more) r)

module _ {D I F : Type 0} {d : disks.Ghosts D} {i : indexes.Ghosts I} where
  -- all writes that the worker acknowledged are below what its seat has seen
  acknowledged-low : (party : WorkerParty D I F d i) (before : List Write) (pairs : List Pair)
      → BeginsWith d i party.first.value before (party.seat.view.start - 1)
      → HoldsWith party before pairs
      → AllByRecursion (λ write. write.stamp < party.seat.view.seen) (before ++ writes pairs)
  acknowledged-low party before pairs begins h = All-append
      (λ (write : Write). write.stamp < party.seat.view.seen) before (writes pairs)
      (All-map (λ (write : Write). write.stamp ≤ party.seat.view.start - 1)
      (λ (write : Write). write.stamp < party.seat.view.seen) before
      (λ write le. omega (arith, le, party.started.0, party.started.1)) begins.below)
      (writes-all (λ stamp. stamp < party.seat.view.seen) pairs
      (subst (AllByRecursion (HasStamp (λ stamp. stamp < party.seat.view.seen))) h.pairs_are
      h.holds.low))

  -- one turn after another
  module _ (old mid new : WorkerParty D I F d i) (a : Becomes old mid) (b : Becomes mid new)
      (before : List Write)
      (begins : BeginsWith d i old.first.value before (old.seat.view.start - 1))
      (pairs : List Pair) (h : HoldsWith old before pairs) where
    first-went : WentOn old mid before pairs
    first-went = a.goes before begins pairs h

    then-begins : BeginsWith d i mid.first.value before (mid.seat.view.start - 1)
    then-begins = subst₂ (λ w n. BeginsWith d i w before (n - 1)) (sym a.first) (sym a.start) begins

    then-went : WentOn mid new before (pairs ++ first-went.more)
    then-went = b.goes before then-begins (pairs ++ first-went.more) first-went.holds

    -- as the first worker's numbers
    then-stays : (acknowledged : List Write)
        → AllByRecursion (λ write. write.stamp < mid.seat.view.seen) acknowledged
        → (image : Image) → RecoversPrefix all_classes
        (all_writes before (pairs ++ first-went.more)) acknowledged image
        old.first.value.store.worker old.first.value.store.workers
        → RecoversPrefix all_classes
        (all_writes before ((pairs ++ first-went.more) ++ then-went.more)) acknowledged image
        old.first.value.store.worker old.first.value.store.workers
    then-stays = subst (λ (w : WorkerView D I). (acknowledged : List Write)
        → AllByRecursion (λ write. write.stamp < mid.seat.view.seen) acknowledged
        → (image : Image) → RecoversPrefix all_classes
        (all_writes before (pairs ++ first-went.more)) acknowledged image w.store.worker
        w.store.workers → RecoversPrefix all_classes
        (all_writes before ((pairs ++ first-went.more) ++ then-went.more)) acknowledged image
        w.store.worker w.store.workers) a.first then-went.stays

    then-moments : LeavesOnly (d.calls mid.worker.store.disk.disk)
        (d.calls new.worker.store.disk.disk) (d.leaves mid.worker.store.disk.disk)
        (d.leaves new.worker.store.disk.disk) (λ image. RecoversPrefix all_classes
        (all_writes before ((pairs ++ first-went.more) ++ then-went.more))
        (before ++ writes (pairs ++ first-went.more)) image old.first.value.store.worker
        old.first.value.store.workers)
    then-moments = subst (λ (w : WorkerView D I). LeavesOnly (d.calls mid.worker.store.disk.disk)
        (d.calls new.worker.store.disk.disk) (d.leaves mid.worker.store.disk.disk)
        (d.leaves new.worker.store.disk.disk) (λ image. RecoversPrefix all_classes
        (all_writes before ((pairs ++ first-went.more) ++ then-went.more))
        (before ++ writes (pairs ++ first-went.more)) image w.store.worker w.store.workers))
        a.first then-went.moments

    -- what is left at a moment, where these are all pairs
    abbrev Leaves : List Pair → Image → Type 0
    Leaves all image = RecoversPrefix all_classes (all_writes before all) (before ++ writes pairs)
        image old.first.value.store.worker old.first.value.store.workers

    both-leave : LeavesOnly (d.calls old.worker.store.disk.disk)
        (d.calls new.worker.store.disk.disk) (d.leaves old.worker.store.disk.disk)
        (d.leaves new.worker.store.disk.disk)
        (Leaves ((pairs ++ first-went.more) ++ then-went.more))
    both-leave =
        let from = d.calls old.worker.store.disk.disk in
        let middle = d.calls mid.worker.store.disk.disk in
        let to = d.calls new.worker.store.disk.disk in
        let past = d.leaves old.worker.store.disk.disk in
        let between = d.leaves mid.worker.store.disk.disk in
        let since = d.leaves new.worker.store.disk.disk in
        let all = (pairs ++ first-went.more) ++ then-went.more in
        joins from middle to past between since (Leaves all)
        (weaker from middle past between (Leaves (pairs ++ first-went.more)) (Leaves all)
        first-went.moments (λ image was. then-stays (before ++ writes pairs)
        (All-map (λ (write : Write). write.stamp < old.seat.view.seen)
        (λ (write : Write). write.stamp < mid.seat.view.seen) (before ++ writes pairs)
        (λ write lt. omega (arith, lt, a.up)) (acknowledged-low old before pairs begins h)) image
        was))
        (weaker middle to between since (λ image. RecoversPrefix all_classes (all_writes before all)
        (before ++ writes (pairs ++ first-went.more)) image old.first.value.store.worker
        old.first.value.store.workers) (Leaves all) then-moments (λ image was. fewer-held
        (all_writes before all) before pairs first-went.more image old.first.value.store.worker
        old.first.value.store.workers was))

    both-went : WentOn old new before pairs
    both-went =
        let more = first-went.more ++ then-went.more in
        let same : (pairs ++ first-went.more) ++ then-went.more ≡ pairs ++ more =
        append_assoc pairs first-went.more then-went.more in
        record {
          more = more;
          holds = subst (HoldsWith new before) same then-went.holds;
          stays = λ acknowledged low image was. subst (λ all. RecoversPrefix all_classes
              (all_writes before all) acknowledged image old.first.value.store.worker
              old.first.value.store.workers) same (then-stays acknowledged
              (All-map (λ (write : Write). write.stamp < old.seat.view.seen)
              (λ (write : Write). write.stamp < mid.seat.view.seen) acknowledged
              (λ write lt. omega (arith, lt, a.up)) low) image
              (first-went.stays acknowledged low image was));
          moments = subst (λ all. LeavesOnly (d.calls old.worker.store.disk.disk)
              (d.calls new.worker.store.disk.disk) (d.leaves old.worker.store.disk.disk)
              (d.leaves new.worker.store.disk.disk) (Leaves all)) same both-leave;
        }

  pub becomes-then : (old mid new : WorkerParty D I F d i) → Becomes old mid → Becomes mid new
      → Becomes old new
  becomes-then old mid new a b = record {
    first = b.first ∙ a.first;
    start = b.start ∙ a.start;
    up = omega (arith, a.up, b.up);
    goes = λ before begins pairs h. both-went old mid new a b before begins pairs h;
  }

module _ {D I F : Type 0} {d : disks.Ghosts D} {i : indexes.Ghosts I} where
  -- from whatever promise the party kept it goes on to what the party is now
  abbrev pub GoesOnTo : WorkerParty D I F d i → WorkerParty D I F d i → Type 0
  GoesOnTo old new = (before : List Write)
      → BeginsWith d i old.first.value before (old.seat.view.start - 1)
      → AlwaysGoesOn d i old.seat.view.start (peers old.ends) old.first.value old.worker new.worker
      old.ends new.ends old.connections.items new.connections.items old.seat.view new.seat.view
      old.lifted new.lifted before

  -- a promise of these pairs, in words that are equal
  holds-same : (party : WorkerParty D I F d i) (before : List Write) (pairs : List Pair)
      (start sessions : ℕ) (first : WorkerView D I) → party.seat.view.start ≡ start
      → peers party.ends ≡ sessions → party.first.value ≡ first
      → (h : Holds d i start sessions first party.worker party.ends party.connections.items
      party.seat.view party.lifted before) → done_pairs h.promise.groups.history ≡ pairs
      → HoldsWith party before pairs
  holds-same party before pairs start sessions first e₁ e₂ e₃ h are =
      let Held : ℕ → ℕ → WorkerView D I → Type 0 = λ m n w. (k : Holds d i m n w party.worker
      party.ends party.connections.items party.seat.view party.lifted before)
      × (done_pairs k.promise.groups.history ≡ pairs) in
      let held : Held party.seat.view.start (peers party.ends) party.first.value =
      subst (λ w. Held party.seat.view.start (peers party.ends) w) (sym e₃)
      (subst₂ (λ m n. Held m n first) (sym e₁) (sym e₂) (h, are)) in
      record { holds = held.0; pairs_are = held.1 }

  module _ (old new : WorkerParty D I F d i) (goes_on : GoesOnTo old new)
      (rings : peers new.ends ≡ peers old.ends)
      (start : new.seat.view.start ≡ old.seat.view.start)
      (up : old.seat.view.seen ≤ new.seat.view.seen)
      (first : new.first.value ≡ old.first.value) where
    went-on : (before : List Write)
        → BeginsWith d i old.first.value before (old.seat.view.start - 1) → (pairs : List Pair)
        → HoldsWith old before pairs → WentOn old new before pairs
    went-on before begins pairs h =
        let g = goes_on before begins h.holds in
        let more = done_pairs g.more in
        let same : done_pairs g.holds.promise.groups.history ≡ pairs ++ more =
        ap done_pairs g.longer
        ∙ map-append (λ (done : Done). done.pair) h.holds.promise.groups.history g.more
        ∙ ap (λ all. all ++ more) h.pairs_are in
        record {
          more = more;
          holds = holds-same new before (pairs ++ more) old.seat.view.start (peers old.ends)
              old.first.value start rings first g.holds same;
          stays = λ acknowledged low image was. subst (λ all. RecoversPrefix all_classes
              (all_writes before all) acknowledged image old.first.value.store.worker
              old.first.value.store.workers) same (g.stays acknowledged low image
              (subst (λ all. RecoversPrefix all_classes (all_writes before all) acknowledged image
              old.first.value.store.worker old.first.value.store.workers) (sym h.pairs_are) was));
          moments = subst₂ (λ all some. LeavesOnly (d.calls old.worker.store.disk.disk)
              (d.calls new.worker.store.disk.disk) (d.leaves old.worker.store.disk.disk)
              (d.leaves new.worker.store.disk.disk) (λ image. RecoversPrefix all_classes
              (all_writes before all) (before ++ writes some) image old.first.value.store.worker
              old.first.value.store.workers)) same h.pairs_are g.moments;
        }

    pub goes-becomes : Becomes old new
    goes-becomes = record { first = first; start = start; up = up; goes = went-on }

  -- a look at the rings
  looked-goes-on : (old new : WorkerParty D I F d i) → LooksWorker old new → GoesOnTo old new
  looked-goes-on old new l before begins =
      let start = old.seat.view.start in
      let sessions = peers old.ends in
      let first = old.first.value in
      let items = old.connections.items in
      let view = old.seat.view in
      subst (λ z. AlwaysGoesOn d i start sessions first old.worker new.worker old.ends new.ends
      items new.connections.items view new.seat.view old.lifted z before) (sym l.lifted)
      (subst (λ (z : Seat). AlwaysGoesOn d i start sessions first old.worker new.worker old.ends
      new.ends items new.connections.items view z.view old.lifted old.lifted before) (sym l.seat)
      (subst (λ (z : Vec (Connection F) Global). AlwaysGoesOn d i start sessions first old.worker
      new.worker old.ends new.ends items z.items view view old.lifted old.lifted before)
      (sym l.connections)
      (subst (λ (z : WorkerView D I). AlwaysGoesOn d i start sessions first old.worker z old.ends
      new.ends items items view view old.lifted old.lifted before) (sym l.worker)
      (looked-goes d i start sessions first old.worker old.ends new.ends items view old.lifted
      l.sent l.received before))))

  pub looked-becomes : (old new : WorkerParty D I F d i) → LooksWorker old new → Becomes old new
  looked-becomes old new l = goes-becomes old new (looked-goes-on old new l) l.rings.peers
      (ap (λ (seat : Seat). seat.view.start) l.seat)
      (let e = ap (λ (seat : Seat). seat.view.seen) l.seat in omega (arith, e)) l.first

  pub becomes-same : (party : WorkerParty D I F d i) → Becomes party party
  becomes-same party = goes-becomes party party (λ before begins. looked-goes d i
      party.seat.view.start (peers party.ends) party.first.value party.worker party.ends party.ends
      party.connections.items party.seat.view party.lifted (λ s. refl) (λ s. refl) before) refl refl
      (omega arith) refl
