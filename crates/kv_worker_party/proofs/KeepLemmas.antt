-- What a worker, its seat and its history keep, with one batch more.
use Rattle.std.proofs.Common.{◌≡◌, ◌⊎◌, inl, inr, ℕ, ◌+◌, ◌-◌, ◌<◌, ◌≤◌, List, [], ◌∷◌}
use Rattle.std.proofs.Common.{◌++◌, map, length, false, refl, sym, ap, subst, subst₂}
use Rattle.std.proofs.Common.{◌∙◌, arith, append-nil, append_assoc, true≢false}
use Rattle.std.specs.List.{AllByRecursion}
use Rattle.std.proofs.lemmas.Bool.Decides.{nat_tests}
use Rattle.std.proofs.lemmas.List.Elements.{filter_map-append}
use Rattle.std.proofs.lemmas.List.Sums.{sum_by-append, sum_by_push}
use Rattle.kv_base.proofs.CrashLemmas.{started, joins, weaker}
use Rattle.kv_base.specs.Crash.{LeavesOnly, MayLeave}
use Rattle.kv_base.specs.Image.{Image}
use Rattle.kv_base.specs.declared.reply.Reply.{Reply}
use Rattle.kv_base.specs.declared.reply.Reply.TheVariants.{NoMemory, DiskFault, Closed}
use Rattle.kv_base.specs.declared.reply.Reply.TheVariants.{StampsSpent}
use Rattle.kv_base.specs.declared.request.Request.{Request}
use Rattle.kv_disk.specs.declared.disk.Disk as disks
use Rattle.kv_index.specs.declared.index.Index as indexes
use Rattle.kv_model.proofs.FailedLemmas.{AreStamped-failed}
use Rattle.kv_model.proofs.PairwiseLemmas.{All-append, All-map}
use Rattle.kv_model.specs.Agreement.{AgreesWithMap, WithRefusals}
use Rattle.kv_model.specs.Batch.{Start, IsTask, answers}
use Rattle.kv_model.specs.BatchLaws.{pairs_of, AreStamped}
use Rattle.kv_model.specs.History.{Write}
use Rattle.kv_model.specs.Items.{FollowsHistory}
use Rattle.kv_model.specs.Layout.{all_classes}
use Rattle.kv_model.specs.Pairs.{Pair, writes, unsure_writes, stamps, acknowledged, acknowledged_by}
use Rattle.kv_model.specs.Pairs.{unsure_by}
use Rattle.kv_model.specs.Pairwise.{Pairwise}
use Rattle.kv_model.specs.Recovery.{RecoversPrefix}
use Rattle.kv_stamps.specs.Ranges.{among, within, range}
use Rattle.kv_stamps.specs.declared.view.Range.{Range}
use Rattle.kv_stamps.specs.declared.view.View.{View}
use Rattle.kv_worker_party.specs.Laws.{PartyLaws}
use Rattle.kv_worker_party.specs.Party.{LeavesEach}
use Rattle.kv_worker_party.specs.Serving.{IsStepped, HasServed}
use Rattle.kv_worker.specs.Steps.{IsDone, IsRefused, HasRefusal, HasFailed, Continues, Steps}
use Rattle.kv_worker.specs.Worker.{WorkerView, start_of}
use Rattle.kv_worker_party.proofs.SeatLemmas.{Grew, Stayed, drawn-grew, met-stayed, stayed}
use Rattle.kv_worker_party.proofs.SilentLemmas.{silent-batch, stampless-has, silent-stampless}
use Rattle.kv_worker_party.proofs.SilentLemmas.{no_memory-may, disk_fault-may, closed-may, spent-may, MayRefuse}
use Rattle.kv_worker_party.proofs.StampedLemmas.{HasStamp, has-weaker, stamps-all, writes-all, unsure-all}
use Rattle.kv_worker_party.proofs.StampedLemmas.{IsWithin, within-block, stamped-told, written-told}
use Rattle.kv_worker_party.proofs.StampedLemmas.{acknowledged-told, unsure-told, stamps-rise, rises-block}

-- what the worker, its seat and its history keep, from the first worker on
pub record Keeps {D I : Type 0} (d : disks.Ghosts D) (i : indexes.Ghosts I) (start sessions : ℕ)
    (first now : WorkerView D I) (view : View) (before : List Write) (pairs : List Pair) :
    Type 0 where
  pub agrees : AgreesWithMap d.tells all_classes before (start - 1) pairs
  pub above : (1 ≤ start) × (start ≤ view.seen)
  pub earlier : AllByRecursion (λ write. write.stamp < view.seen) before
  pub below : AllByRecursion (HasStamp (λ stamp. stamp < view.seen)) pairs
  pub follows : now.store.closed ≡ false → (stamp : ℕ) → view.seen ≤ stamp + 1
      → FollowsHistory d.tells (before ++ writes pairs) stamp (start_of d i now.store)
  pub sure : now.store.closed ≡ false → unsure_writes pairs ≡ []
  pub leaves : LeavesEach d first.store.worker first.store.workers first.store.disk.disk now.store.disk.disk before pairs
  pub same : (now.store.worker ≡ first.store.worker)
      × (now.store.workers ≡ first.store.workers) × (now.store.limits ≡ first.store.limits)

-- the stamps of one batch more: above what was seen and all earlier ones, rising, and drawn
pub record Adds (seen : ℕ) (view later : View) (group : List Pair) : Type 0 where
  pub start : later.start ≡ view.start
  pub up : view.seen ≤ later.seen
  pub old : AllByRecursion (λ stamp. view.seen ≤ stamp) (stamps group)
  pub above : AllByRecursion (λ stamp. seen < stamp) (stamps group)
  pub rising : Pairwise ◌<◌ (stamps group)
  pub drawn : AllByRecursion (λ stamp. 1 ≤ among stamp later.drawn) (stamps group)
  pub kept : (stamp : ℕ) → among stamp view.drawn ≤ among stamp later.drawn

-- the writes with one batch more
pub writes-more : (before : List Write) (pairs group : List Pair)
    → before ++ writes (pairs ++ group) ≡ before ++ writes pairs ++ writes group
writes-more before pairs group =
    ap (λ all. before ++ all) (filter_map-append acknowledged pairs group)
    ∙ sym (append_assoc before (writes pairs) (writes group))

unsure-more : (pairs group : List Pair)
    → unsure_writes (pairs ++ group) ≡ unsure_writes pairs ++ unsure_writes group
unsure-more pairs group = filter_map-append (λ pair. unsure_by pair.request pair.reply) pairs group

-- the same, where none of the earlier ones is unsure
all-more : (before : List Write) (pairs group : List Pair) → unsure_writes pairs ≡ []
    → before ++ writes (pairs ++ group) ++ unsure_writes (pairs ++ group)
    ≡ before ++ writes pairs ++ writes group ++ unsure_writes group
all-more before pairs group sure =
    ap (λ all. all ++ unsure_writes (pairs ++ group)) (writes-more before pairs group)
    ∙ ap (λ all. before ++ writes pairs ++ writes group ++ all)
    (unsure-more pairs group ∙ ap (λ all. all ++ unsure_writes group) sure)

among-append : (stamp : ℕ) (ranges more : List Range)
    → among stamp (ranges ++ more) ≡ among stamp ranges + among stamp more
among-append stamp ranges more = sum_by-append (within stamp) ranges more

among-last : (stamp base count : ℕ) (ranges : List Range) → base ≤ stamp → stamp < base + count
    → 1 ≤ among stamp (ranges ++ range base count ∷ [])
among-last stamp base count ranges low high =
    let one : within stamp (range base count) ≡ 1 = grind (arith, nat_tests) in
    omega (arith, sum_by_push (within stamp) ranges (range base count), one)

-- a batch of refusals leaves all as it was
module _ {D I : Type 0} (laws : PartyLaws) (d : disks.Ghosts D) (i : indexes.Ghosts I)
    (start sessions : ℕ) (first : WorkerView D I) (before : List Write) (pairs : List Pair) where
  silent-same : (group : List Pair) → WithRefusals d.tells all_classes [] group
      → (writes (pairs ++ group) ≡ writes pairs)
      × (unsure_writes (pairs ++ group) ≡ unsure_writes pairs)
  silent-same group silent = (
    filter_map-append acknowledged pairs group
        ∙ ap (λ ws. writes pairs ++ ws) (laws.refusals.acknowledged d.tells all_classes [] group
        silent) ∙ append-nil (writes pairs),
    unsure-more pairs group
        ∙ ap (λ ws. unsure_writes pairs ++ ws) (laws.refusals.unsure d.tells all_classes [] group
        silent) ∙ append-nil (unsure_writes pairs),
  )

  silent-agrees : (group : List Pair) → WithRefusals d.tells all_classes [] group
      → AgreesWithMap d.tells all_classes before (start - 1) pairs
      → AgreesWithMap d.tells all_classes before (start - 1) (pairs ++ group)
  silent-agrees group silent agrees =
      laws.refusals_agree d.tells all_classes before (start - 1) pairs [] group silent
      (subst (AgreesWithMap d.tells all_classes before (start - 1)) (sym (append-nil pairs)) agrees)

  silent-adds : (seen : ℕ) (view later : View) (group : List Pair)
      → WithRefusals d.tells all_classes [] group → later.start ≡ view.start
      → view.seen ≤ later.seen
      → ((stamp : ℕ) → among stamp view.drawn ≤ among stamp later.drawn)
      → Adds seen view later group
  silent-adds seen view later group silent begin up kept =
      let none : stamps group ≡ [] = laws.refusals.stamped d.tells all_classes [] group silent in
      record {
        start = begin;
        up = up;
        old = subst (AllByRecursion (λ stamp. view.seen ≤ stamp)) (sym none) tt;
        above = subst (AllByRecursion (λ stamp. seen < stamp)) (sym none) tt;
        rising = subst (Pairwise ◌<◌) (sym none) tt;
        drawn = subst (AllByRecursion (λ stamp. 1 ≤ among stamp later.drawn)) (sym none) tt;
        kept = kept;
      }

  below-more : (view later : View) (group : List Pair) → view.seen ≤ later.seen
      → AllByRecursion (HasStamp (λ stamp. stamp < view.seen)) pairs
      → AllByRecursion (HasStamp (λ stamp. stamp < later.seen)) group
      → AllByRecursion (HasStamp (λ stamp. stamp < later.seen)) (pairs ++ group)
  below-more view later group up old new =
      All-append (HasStamp (λ stamp. stamp < later.seen)) pairs group
      (has-weaker (λ stamp. stamp < view.seen) (λ stamp. stamp < later.seen)
      (λ stamp lt. omega (arith, lt, up)) pairs old) new

  earlier-more : (view later : View) → view.seen ≤ later.seen
      → AllByRecursion (λ write. write.stamp < view.seen) before
      → AllByRecursion (λ write. write.stamp < later.seen) before
  earlier-more view later up all =
      All-map (λ write. write.stamp < view.seen) (λ write. write.stamp < later.seen) before
      (λ write lt. omega (arith, lt, up)) all

  -- the worker as it was
  pub silent-keeps : (now : WorkerView D I) (seen : ℕ) (view later : View) (group : List Pair)
      → Keeps d i start sessions first now view before pairs
      → WithRefusals d.tells all_classes [] group → Stayed view later
      → Keeps d i start sessions first now later before (pairs ++ group)
      × Adds seen view later group
  silent-keeps now seen view later group keeps silent stays =
      let same = silent-same group silent in
      let Leaves : List Write → List Write → Type 0 = λ w u. LeavesOnly
      (d.calls first.store.disk.disk) (d.calls now.store.disk.disk)
      (d.leaves first.store.disk.disk) (d.leaves now.store.disk.disk)
      (λ image. RecoversPrefix all_classes (before ++ w ++ u) (before ++ []) image
      first.store.worker first.store.workers) in
      let Exit : List Write → List Write → Type 0 = λ w u. (image : Image)
      → MayLeave (d.leaves now.store.disk.disk (d.calls now.store.disk.disk)) image
      → RecoversPrefix all_classes (before ++ w ++ u) (before ++ w) image first.store.worker
      first.store.workers in (
        record {
          agrees = silent-agrees group silent keeps.agrees;
          above = (keeps.above.0, omega (arith, keeps.above.1, stays.up));
          earlier = earlier-more view later stays.up keeps.earlier;
          below = below-more view later group stays.up keeps.below
              (stampless-has (λ stamp. stamp < later.seen) group
              (silent-stampless d.tells group silent));
          follows = λ open_ stamp le. subst (λ w. FollowsHistory d.tells (before ++ w) stamp
              (start_of d i now.store)) (sym same.0)
              (keeps.follows open_ stamp (omega (arith, le, stays.up)));
          sure = λ open_. same.1 ∙ keeps.sure open_;
          leaves = record {
            any_moment = subst₂ Leaves (sym same.0) (sym same.1) keeps.leaves.any_moment;
            exit = subst₂ Exit (sym same.0) (sym same.1) keeps.leaves.exit;
          };
          same = keeps.same;
        },
        silent-adds seen view later group silent stays.start stays.up
            (λ stamp. let e = ap (among stamp) stays.drawn in omega (arith, e)),
      )

  -- what a crash leaves behind a batch that the worker answered with stamps from the base on
  leaves-more : (old now : WorkerView D I) (view : View) (requests : List Request)
      (replies : List Reply) (base : ℕ) → Keeps d i start sessions first old view before pairs
      → unsure_writes pairs ≡ [] → view.seen ≤ base
      → AllByRecursion (λ write. base ≤ write.stamp) (writes (pairs_of requests replies))
      → AllByRecursion (λ write. base ≤ write.stamp) (unsure_writes (pairs_of requests replies))
      → LeavesOnly (d.calls old.store.disk.disk) (d.calls now.store.disk.disk)
      (d.leaves old.store.disk.disk) (d.leaves now.store.disk.disk)
      (λ image. RecoversPrefix all_classes (before ++ writes pairs
      ++ writes (pairs_of requests replies) ++ unsure_writes (pairs_of requests replies))
      (before ++ writes pairs) image old.store.worker old.store.workers)
      → ((image : Image)
      → MayLeave (d.leaves now.store.disk.disk (d.calls now.store.disk.disk)) image
      → RecoversPrefix all_classes (before ++ writes pairs ++ writes (pairs_of requests replies)
      ++ unsure_writes (pairs_of requests replies)) (before ++ writes pairs
      ++ writes (pairs_of requests replies)) image old.store.worker old.store.workers)
      → LeavesEach d first.store.worker first.store.workers first.store.disk.disk now.store.disk.disk before
      (pairs ++ pairs_of requests replies)
  leaves-more old now view requests replies base keeps sure up above more moments exit =
      let group : List Pair = pairs_of requests replies in
      let worker : ℕ = first.store.worker in
      let workers : ℕ = first.store.workers in
      let history : List Write = before ++ writes pairs in
      let all : List Write = history ++ writes group ++ unsure_writes group in
      let acks : List Write = before ++ [] in
      let whole = all-more before pairs group sure in
      let acknowledged_all = writes-more before pairs group in
      let Leaves : Image → Type 0 = λ image. RecoversPrefix all_classes all acks image worker
      workers in
      let earlier : AllByRecursion (λ write. write.stamp < base) before =
      All-map (λ write. write.stamp < view.seen) (λ write. write.stamp < base) before
      (λ write lt. omega (arith, lt, up)) keeps.earlier in
      let below : AllByRecursion (λ write. write.stamp < base) (writes pairs) =
      writes-all (λ stamp. stamp < base) pairs (has-weaker (λ stamp. stamp < view.seen)
      (λ stamp. stamp < base) (λ stamp lt. omega (arith, lt, up)) pairs keeps.below) in
      let before_it : (image : Image) → RecoversPrefix all_classes (history ++ unsure_writes pairs)
      acks image worker workers → Leaves image = λ image was.
      subst (λ w. RecoversPrefix all_classes w acks image worker workers)
      (sym (append_assoc history (writes group) (unsure_writes group)))
      (laws.prefixes.longer all_classes history (writes group ++ unsure_writes group) acks base
      image worker workers
      (subst (λ w. RecoversPrefix all_classes w acks image worker workers)
      (ap (λ w. history ++ w) sure ∙ append-nil history) was)
      (omega (arith, keeps.above.0, keeps.above.1, up))
      (All-append (λ write. write.stamp < base) before (writes pairs) earlier below)
      (All-append (λ write. write.stamp < base) before [] earlier tt)
      (All-append (λ write. base ≤ write.stamp) (writes group) (unsure_writes group) above more)) in
      let here : (image : Image) (w a : List Write)
      → RecoversPrefix all_classes w a image old.store.worker old.store.workers
      → RecoversPrefix all_classes w a image worker workers = λ image w a is.
      let P : ℕ → ℕ → Type 0 = λ m n. RecoversPrefix all_classes w a image m n in
      subst₂ P keeps.same.0 keeps.same.1 is in
      let within_it : (image : Image)
      → RecoversPrefix all_classes all history image old.store.worker old.store.workers
      → Leaves image = λ image is.
      subst (λ a. RecoversPrefix all_classes all a image worker workers) (sym (append-nil before))
      (laws.prefixes.fewer all_classes all before (writes pairs) image worker workers
      (here image all history is)) in
      let at_all : LeavesOnly (d.calls first.store.disk.disk) (d.calls now.store.disk.disk)
      (d.leaves first.store.disk.disk) (d.leaves now.store.disk.disk) Leaves =
      joins (d.calls first.store.disk.disk) (d.calls old.store.disk.disk)
      (d.calls now.store.disk.disk) (d.leaves first.store.disk.disk)
      (d.leaves old.store.disk.disk) (d.leaves now.store.disk.disk) Leaves
      (weaker (d.calls first.store.disk.disk) (d.calls old.store.disk.disk)
      (d.leaves first.store.disk.disk) (d.leaves old.store.disk.disk)
      (λ image. RecoversPrefix all_classes (history ++ unsure_writes pairs) acks image worker
      workers) Leaves keeps.leaves.any_moment before_it)
      (weaker (d.calls old.store.disk.disk) (d.calls now.store.disk.disk)
      (d.leaves old.store.disk.disk) (d.leaves now.store.disk.disk)
      (λ image. RecoversPrefix all_classes all history image old.store.worker old.store.workers)
      Leaves moments within_it) in
      record {
        any_moment = subst (λ w. LeavesOnly (d.calls first.store.disk.disk)
            (d.calls now.store.disk.disk) (d.leaves first.store.disk.disk)
            (d.leaves now.store.disk.disk)
            (λ image. RecoversPrefix all_classes w acks image worker workers)) (sym whole) at_all;
        exit = λ image left.
            let Q : List Write → List Write → Type 0 = λ w a. RecoversPrefix all_classes w a image
            worker workers in
            subst₂ Q (sym whole) (sym acknowledged_all)
            (here image all (history ++ writes group) (exit image left));
      }

  -- an open worker goes on from the history
  continues : (old : WorkerView D I) (view : View) (base : ℕ)
      → Keeps d i start sessions first old view before pairs → old.store.closed ≡ false
      → view.seen ≤ base → Continues d i old.store base (before ++ writes pairs)
  continues old view base keeps open_ up = record {
    follows = keeps.follows open_ (base - 1) (omega (arith, keeps.above.0, keeps.above.1, up));
    below = All-append (λ write. write.stamp < base) before (writes pairs)
        (All-map (λ write. write.stamp < view.seen) (λ write. write.stamp < base) before
        (λ write lt. omega (arith, lt, up)) keeps.earlier)
        (writes-all (λ stamp. stamp < base) pairs (has-weaker (λ stamp. stamp < view.seen)
        (λ stamp. stamp < base) (λ stamp lt. omega (arith, lt, up)) pairs keeps.below));
  }

  -- the stamps of a batch with a range of its own
  stamped-adds : (seen base : ℕ) (view later : View) (requests : List Request)
      (replies : List Reply) → Grew seen (length requests) base view later
      → AreStamped base replies → Adds seen view later (pairs_of requests replies)
  stamped-adds seen base view later requests replies grew are =
      let group : List Pair = pairs_of requests replies in
      let block : AllByRecursion (λ stamp. IsWithin base (length requests) stamp) (stamps group) =
      stamps-all (IsWithin base (length requests)) group (within-block requests replies base are) in
      record {
        start = grew.start;
        up = omega (arith, grew.from, grew.up);
        old = All-map (IsWithin base (length requests)) (λ stamp. view.seen ≤ stamp) (stamps group)
            (λ stamp has. omega (arith, has.0, grew.from)) block;
        above = All-map (IsWithin base (length requests)) (λ stamp. seen < stamp) (stamps group)
            (λ stamp has. omega (arith, has.0, grew.above)) block;
        rising = stamps-rise group (rises-block requests replies base are);
        drawn = All-map (IsWithin base (length requests)) (λ stamp. 1 ≤ among stamp later.drawn)
            (stamps group) (λ stamp has. subst (λ ranges. 1 ≤ among stamp ranges) (sym grew.drawn)
            (among-last stamp base (length requests) view.drawn has.0 has.1)) block;
        kept = λ stamp. let e = ap (among stamp) grew.drawn in
            let f = among-append stamp view.drawn (range base (length requests) ∷ []) in
            omega (arith, e, f);
      }

  stamped-below : (seen base : ℕ) (view later : View) (requests : List Request)
      (replies : List Reply) → Grew seen (length requests) base view later
      → AreStamped base replies
      → AllByRecursion (HasStamp (λ stamp. stamp < later.seen)) (pairs_of requests replies)
  stamped-below seen base view later requests replies grew are =
      has-weaker (IsWithin base (length requests)) (λ stamp. stamp < later.seen)
      (λ stamp has. omega (arith, has.1, grew.up)) (pairs_of requests replies)
      (within-block requests replies base are)

  stamped-from : (base : ℕ) (requests : List Request) (replies : List Reply)
      → AreStamped base replies
      → AllByRecursion (HasStamp (λ stamp. base ≤ stamp)) (pairs_of requests replies)
  stamped-from base requests replies are =
      has-weaker (IsWithin base (length requests)) (λ stamp. base ≤ stamp) (λ stamp has. has.0)
      (pairs_of requests replies) (within-block requests replies base are)

  -- a batch that is done
  done-keeps : (old now : WorkerView D I) (seen base : ℕ) (view later : View)
      (requests : List Request) (replies : List Reply)
      → Keeps d i start sessions first old view before pairs
      → AllByRecursion (IsTask all_classes) requests → old.store.closed ≡ false
      → Grew seen (length requests) base view later → Steps d i old now requests base replies
      → IsDone d i old.store now.store requests base replies
      → Keeps d i start sessions first now later before (pairs ++ pairs_of requests replies)
      × Adds seen view later (pairs_of requests replies)
  done-keeps old now seen base view later requests replies keeps good open_ grew steps done =
      let begin : Start = start_of d i old.store in
      let group : List Pair = pairs_of requests replies in
      let plain : List Reply = answers begin [] base requests in
      let history : List Write = before ++ writes pairs in
      let goes = continues old view base keeps open_ grew.from in
      let wrote : writes group ≡ writes (pairs_of requests plain) =
      written-told acknowledged_by d.tells (acknowledged-told d.tells) requests replies plain
      done.replies_are in
      let sure : unsure_writes group ≡ [] =
      written-told unsure_by d.tells (unsure-told d.tells) requests replies plain done.replies_are
      ∙ laws.failed.sure begin base requests in
      let stamped : AreStamped base replies =
      stamped-told d.tells replies plain base done.replies_are (laws.stamps begin base requests).1
      in
      let from_on : AllByRecursion (λ write. base ≤ write.stamp) (writes group) =
      writes-all (λ stamp. base ≤ stamp) group (stamped-from base requests replies stamped) in
      let still : unsure_writes pairs ≡ [] = keeps.sure open_ in (
        record {
          agrees = laws.agree d.tells all_classes before (start - 1) pairs base begin requests
              replies keeps.agrees refl goes.follows
              (omega (arith, keeps.above.0, keeps.above.1, grew.from))
              (All-map (λ write. write.stamp < view.seen) (λ write. write.stamp < base) before
              (λ write lt. omega (arith, lt, grew.from)) keeps.earlier)
              (has-weaker (λ stamp. stamp < view.seen) (λ stamp. stamp < base)
              (λ stamp lt. omega (arith, lt, grew.from)) pairs keeps.below) grew.limit good
              done.replies_are;
          above = (keeps.above.0, omega (arith, keeps.above.1, grew.from, grew.up));
          earlier = earlier-more view later (omega (arith, grew.from, grew.up)) keeps.earlier;
          below = below-more view later group (omega (arith, grew.from, grew.up)) keeps.below
              (stamped-below seen base view later requests replies grew stamped);
          follows = λ now_open stamp le. subst (λ w. FollowsHistory d.tells w stamp
              (start_of d i now.store))
              (ap (λ w. history ++ w) (sym wrote) ∙ sym (writes-more before pairs group))
              (laws.follows d.tells history base begin (start_of d i now.store) requests stamp
              goes.follows goes.below (omega (arith, le, grew.up)) done.changed);
          sure = λ now_open. unsure-more pairs group ∙ ap (λ u. u ++ unsure_writes group) still
              ∙ sure;
          leaves = leaves-more old now view requests replies base keeps still grew.from from_on
              (subst (AllByRecursion (λ write. base ≤ write.stamp)) (sym sure) tt)
              (steps.any_moment history goes)
              (λ image left. subst (λ w. RecoversPrefix all_classes w (history ++ writes group)
              image old.store.worker old.store.workers)
              (sym (ap (λ u. (history ++ writes group) ++ u) sure
              ∙ append-nil (history ++ writes group)))
              (steps.durable history goes done.open_ image left));
          same = (
            steps.kept.0 ∙ keeps.same.0,
            steps.kept.1 ∙ keeps.same.1,
            steps.kept.2 ∙ keeps.same.2,
          );
        },
        stamped-adds seen base view later requests replies grew stamped,
      )

  -- a batch of which a write failed
  failed-keeps : (old now : WorkerView D I) (seen base : ℕ) (view later : View)
      (requests : List Request) (replies : List Reply)
      → Keeps d i start sessions first old view before pairs
      → AllByRecursion (IsTask all_classes) requests → old.store.closed ≡ false
      → Grew seen (length requests) base view later → Steps d i old now requests base replies
      → HasFailed d i old.store now.store requests base replies
      → Keeps d i start sessions first now later before (pairs ++ pairs_of requests replies)
      × Adds seen view later (pairs_of requests replies)
  failed-keeps old now seen base view later requests replies keeps good open_ grew steps failed =
      let begin : Start = start_of d i old.store in
      let group : List Pair = pairs_of requests replies in
      let plain : List Reply = answers begin [] base requests in
      let history : List Write = before ++ writes pairs in
      let goes = continues old view base keeps open_ grew.from in
      let nothing : writes group ≡ [] =
      ap (λ rs. writes (pairs_of requests rs)) failed.replies_are
      ∙ laws.failed.unacknowledged begin base requests in
      let stamped : AreStamped base replies = subst (AreStamped base) (sym failed.replies_are)
      (AreStamped-failed requests plain base (laws.stamps begin base requests).1) in
      let moments = steps.any_moment history goes in
      let all : List Write = history ++ writes group ++ unsure_writes group in (
        record {
          agrees = subst (λ rs. AgreesWithMap d.tells all_classes before (start - 1)
              (pairs ++ pairs_of requests rs)) (sym failed.replies_are)
              (laws.failed_agree d.tells all_classes before (start - 1) pairs base begin requests
              keeps.agrees refl (omega (arith, keeps.above.0, keeps.above.1, grew.from))
              (All-map (λ write. write.stamp < view.seen) (λ write. write.stamp < base) before
              (λ write lt. omega (arith, lt, grew.from)) keeps.earlier)
              (has-weaker (λ stamp. stamp < view.seen) (λ stamp. stamp < base)
              (λ stamp lt. omega (arith, lt, grew.from)) pairs keeps.below) grew.limit good);
          above = (keeps.above.0, omega (arith, keeps.above.1, grew.from, grew.up));
          earlier = earlier-more view later (omega (arith, grew.from, grew.up)) keeps.earlier;
          below = below-more view later group (omega (arith, grew.from, grew.up)) keeps.below
              (stamped-below seen base view later requests replies grew stamped);
          follows = λ now_open. absurd (true≢false (sym failed.closed ∙ now_open));
          sure = λ now_open. absurd (true≢false (sym failed.closed ∙ now_open));
          leaves = leaves-more old now view requests replies base keeps (keeps.sure open_) grew.from
              (subst (AllByRecursion (λ write. base ≤ write.stamp)) (sym nothing) tt)
              (unsure-all (λ stamp. base ≤ stamp) group
              (stamped-from base requests replies stamped)) moments
              (λ image left. subst (λ w. RecoversPrefix all_classes all w image old.store.worker
              old.store.workers) (sym (ap (λ w. history ++ w) nothing ∙ append-nil history))
              (moments.each (d.calls now.store.disk.disk) moments.later (omega arith) image left));
          same = (
            steps.kept.0 ∙ keeps.same.0,
            steps.kept.1 ∙ keeps.same.1,
            steps.kept.2 ∙ keeps.same.2,
          );
        },
        stamped-adds seen base view later requests replies grew stamped,
      )

  -- a batch that one reply refuses, at a store that stays
  refused-keeps : (old now : WorkerView D I) (seen base : ℕ) (view later : View)
      (requests : List Request) (replies : List Reply) (reply : Reply)
      → Keeps d i start sessions first old view before pairs
      → AllByRecursion (IsTask all_classes) requests → old.store.closed ≡ false
      → Grew seen (length requests) base view later → Steps d i old now requests base replies
      → IsRefused d i old.store now.store requests replies → MayRefuse d.tells reply
      → replies ≡ map (λ _. reply) requests
      → Keeps d i start sessions first now later before (pairs ++ pairs_of requests replies)
      × Adds seen view later (pairs_of requests replies)
  refused-keeps old now seen base view later requests replies reply keeps good open_ grew steps
      refused may is =
      let group : List Pair = pairs_of requests replies in
      let history : List Write = before ++ writes pairs in
      let goes = continues old view base keeps open_ grew.from in
      let silent : WithRefusals d.tells all_classes [] group =
      silent-batch d.tells reply requests replies may good is in
      let nothing : writes group ≡ [] =
      laws.refusals.acknowledged d.tells all_classes [] group silent in
      let no_unsure : unsure_writes group ≡ [] =
      laws.refusals.unsure d.tells all_classes [] group silent in
      let same = silent-same group silent in
      let still : unsure_writes pairs ≡ [] = keeps.sure open_ in
      let now_open : now.store.closed ≡ false = ap (λ v. v.closed) refused.kept ∙ open_ in
      let up : view.seen ≤ later.seen = omega (arith, grew.from, grew.up) in (
        record {
          agrees = silent-agrees group silent keeps.agrees;
          above = (keeps.above.0, omega (arith, keeps.above.1, up));
          earlier = earlier-more view later up keeps.earlier;
          below = below-more view later group up keeps.below
              (stampless-has (λ stamp. stamp < later.seen) group
              (silent-stampless d.tells group silent));
          follows = λ is_open stamp le. subst (λ w. FollowsHistory d.tells w stamp
              (start_of d i now.store))
              (append-nil history ∙ ap (λ w. before ++ w) (sym same.0))
              (laws.follows d.tells history base (start_of d i old.store)
              (start_of d i now.store) [] stamp goes.follows goes.below
              (omega (arith, le, grew.up)) refused.same);
          sure = λ is_open. same.1 ∙ still;
          leaves = leaves-more old now view requests replies base keeps still grew.from
              (subst (AllByRecursion (λ write. base ≤ write.stamp)) (sym nothing) tt)
              (subst (AllByRecursion (λ write. base ≤ write.stamp)) (sym no_unsure) tt)
              (steps.any_moment history goes)
              (λ image left. subst (λ w. RecoversPrefix all_classes w (history ++ writes group)
              image old.store.worker old.store.workers)
              (sym (ap (λ u. (history ++ writes group) ++ u) no_unsure
              ∙ append-nil (history ++ writes group)))
              (steps.durable history goes now_open image left));
          same = (
            steps.kept.0 ∙ keeps.same.0,
            steps.kept.1 ∙ keeps.same.1,
            steps.kept.2 ∙ keeps.same.2,
          );
        },
        silent-adds seen view later group silent grew.start up
            (λ stamp. let e = ap (among stamp) grew.drawn in
            let f = among-append stamp view.drawn (range base (length requests) ∷ []) in
            omega (arith, e, f)),
      )

  -- a batch of any outcome
  pub served-keeps : (old now : WorkerView D I) (seen : ℕ) (view later : View)
      (requests : List Request) (replies : List Reply)
      → Keeps d i start sessions first old view before pairs
      → AllByRecursion (IsTask all_classes) requests
      → HasServed d i old now view later seen requests replies
      → Keeps d i start sessions first now later before (pairs ++ pairs_of requests replies)
      × Adds seen view later (pairs_of requests replies)
  served-keeps old now seen view later requests replies keeps good served = by served
    where
      quiet : (reply : Reply) → MayRefuse d.tells reply → replies ≡ map (λ _. reply) requests
          → now ≡ old → Stayed view later
          → Keeps d i start sessions first now later before (pairs ++ pairs_of requests replies)
          × Adds seen view later (pairs_of requests replies)
      quiet reply may is same stays =
          subst (λ w. Keeps d i start sessions first w later before
          (pairs ++ pairs_of requests replies) × Adds seen view later (pairs_of requests replies))
          (sym same)
          (silent-keeps old seen view later (pairs_of requests replies) keeps
          (silent-batch d.tells reply requests replies may good is) stays)

      refused_by : (s : IsStepped d i old now view later seen requests replies)
          → IsRefused d i old.store now.store requests replies → (reply : Reply)
          → HasRefusal reply (d.faults old.store.disk.disk) (d.faults now.store.disk.disk)
          → replies ≡ map (λ _. reply) requests
          → Keeps d i start sessions first now later before (pairs ++ pairs_of requests replies)
          × Adds seen view later (pairs_of requests replies)
      refused_by s refused reply (inl why) is =
          refused-keeps old now seen s.base view later requests replies NoMemory keeps good s.open_
          (drawn-grew seen (length requests) s.base view later s.drawn) s.steps refused
          (no_memory-may d.tells) (is ∙ ap (λ (r : Reply). map (λ (q : Request). r) requests) why.0)
      refused_by s refused reply (inr why) is =
          refused-keeps old now seen s.base view later requests replies DiskFault keeps good s.open_
          (drawn-grew seen (length requests) s.base view later s.drawn) s.steps refused
          (disk_fault-may d.tells) (is ∙ ap (λ (r : Reply). map (λ (q : Request). r) requests) why.0)

      outcome : (s : IsStepped d i old now view later seen requests replies)
          → IsDone d i old.store now.store requests s.base replies
          ⊎ (IsRefused d i old.store now.store requests replies
          ⊎ HasFailed d i old.store now.store requests s.base replies)
          → Keeps d i start sessions first now later before (pairs ++ pairs_of requests replies)
          × Adds seen view later (pairs_of requests replies)
      outcome s (inl done) = done-keeps old now seen s.base view later requests replies keeps good
          s.open_ (drawn-grew seen (length requests) s.base view later s.drawn) s.steps done
      outcome s (inr (inl refused)) =
          refused_by s refused refused.reply refused.cause refused.replies_are
      outcome s (inr (inr failed)) = failed-keeps old now seen s.base view later requests replies
          keeps good s.open_ (drawn-grew seen (length requests) s.base view later s.drawn) s.steps
          failed

      by : HasServed d i old now view later seen requests replies
          → Keeps d i start sessions first now later before (pairs ++ pairs_of requests replies)
          × Adds seen view later (pairs_of requests replies)
      by (inl idle) = quiet NoMemory (no_memory-may d.tells)
          (idle.replies_are ∙ sym (ap (map (λ (r : Request). NoMemory)) idle.none)) idle.worker
          (subst (Stayed view) (sym idle.view_is) (stayed view))
      by (inr (inl closed)) = quiet Closed (closed-may d.tells) closed.replies_are closed.worker
          (subst (Stayed view) (sym closed.view_is) (stayed view))
      by (inr (inr (inl spent))) = quiet (StampsSpent spent.number)
          (spent-may d.tells spent.number) spent.replies_are spent.worker
          (met-stayed seen (length requests) spent.number view later spent.met)
      by (inr (inr (inr stepped))) = outcome stepped stepped.steps.outcome

  -- an image that recovered a prefix of what was answered does so with a batch more that has stamps
  -- from the base on
  stays-more : (old : WorkerView D I) (view : View) (group : List Pair) (base : ℕ)
      (acks : List Write) (image : Image)
      → Keeps d i start sessions first old view before pairs → unsure_writes pairs ≡ []
      → view.seen ≤ base → AllByRecursion (λ write. base ≤ write.stamp) (writes group)
      → AllByRecursion (λ write. base ≤ write.stamp) (unsure_writes group)
      → AllByRecursion (λ write. write.stamp < view.seen) acks
      → RecoversPrefix all_classes (before ++ writes pairs ++ unsure_writes pairs) acks image
      first.store.worker first.store.workers
      → RecoversPrefix all_classes (before ++ writes (pairs ++ group)
      ++ unsure_writes (pairs ++ group)) acks image first.store.worker first.store.workers
  stays-more old view group base acks image keeps sure up above more acked was =
      let worker : ℕ = first.store.worker in
      let workers : ℕ = first.store.workers in
      let history : List Write = before ++ writes pairs in
      let lower : (ws : List Write) → AllByRecursion (λ write. write.stamp < view.seen) ws
      → AllByRecursion (λ write. write.stamp < base) ws = λ ws low.
      All-map (λ write. write.stamp < view.seen) (λ write. write.stamp < base) ws
      (λ write lt. omega (arith, lt, up)) low in
      let below : AllByRecursion (λ write. write.stamp < base) (writes pairs) =
      writes-all (λ stamp. stamp < base) pairs (has-weaker (λ stamp. stamp < view.seen)
      (λ stamp. stamp < base) (λ stamp lt. omega (arith, lt, up)) pairs keeps.below) in
      subst (λ w. RecoversPrefix all_classes w acks image worker workers)
      (sym (all-more before pairs group sure))
      (subst (λ w. RecoversPrefix all_classes w acks image worker workers)
      (sym (append_assoc history (writes group) (unsure_writes group)))
      (laws.prefixes.longer all_classes history (writes group ++ unsure_writes group) acks base
      image worker workers
      (subst (λ w. RecoversPrefix all_classes w acks image worker workers)
      (ap (λ w. history ++ w) sure ∙ append-nil history) was)
      (omega (arith, keeps.above.0, keeps.above.1, up))
      (All-append (λ write. write.stamp < base) before (writes pairs) (lower before keeps.earlier)
      below)
      (lower acks acked)
      (All-append (λ write. base ≤ write.stamp) (writes group) (unsure_writes group) above more)))

  -- so it does with a batch of any outcome
  pub served-stays : (old now : WorkerView D I) (seen : ℕ) (view later : View)
      (requests : List Request) (replies : List Reply)
      → Keeps d i start sessions first old view before pairs
      → AllByRecursion (IsTask all_classes) requests
      → HasServed d i old now view later seen requests replies → (acks : List Write)
      → AllByRecursion (λ write. write.stamp < view.seen) acks → (image : Image)
      → RecoversPrefix all_classes (before ++ writes pairs ++ unsure_writes pairs) acks image
      first.store.worker first.store.workers
      → RecoversPrefix all_classes (before ++ writes (pairs ++ pairs_of requests replies)
      ++ unsure_writes (pairs ++ pairs_of requests replies)) acks image first.store.worker
      first.store.workers
  served-stays old now seen view later requests replies keeps good served acks acked image was =
      by served
    where
      quiet : (reply : Reply) → MayRefuse d.tells reply → replies ≡ map (λ _. reply) requests
          → RecoversPrefix all_classes (before ++ writes (pairs ++ pairs_of requests replies)
          ++ unsure_writes (pairs ++ pairs_of requests replies)) acks image first.store.worker
          first.store.workers
      quiet reply may is =
          let silent = silent-batch d.tells reply requests replies may good is in
          let same = silent-same (pairs_of requests replies) silent in
          let Q : List Write → List Write → Type 0 = λ w u. RecoversPrefix all_classes
          (before ++ w ++ u) acks image first.store.worker first.store.workers in
          subst₂ Q (sym same.0) (sym same.1) was

      refused_by : (reply : Reply)
          → HasRefusal reply (d.faults old.store.disk.disk) (d.faults now.store.disk.disk)
          → replies ≡ map (λ _. reply) requests
          → RecoversPrefix all_classes (before ++ writes (pairs ++ pairs_of requests replies)
          ++ unsure_writes (pairs ++ pairs_of requests replies)) acks image first.store.worker
          first.store.workers
      refused_by reply (inl why) is = quiet NoMemory (no_memory-may d.tells)
          (is ∙ ap (λ (r : Reply). map (λ (q : Request). r) requests) why.0)
      refused_by reply (inr why) is = quiet DiskFault (disk_fault-may d.tells)
          (is ∙ ap (λ (r : Reply). map (λ (q : Request). r) requests) why.0)

      outcome : (s : IsStepped d i old now view later seen requests replies)
          → IsDone d i old.store now.store requests s.base replies
          ⊎ (IsRefused d i old.store now.store requests replies
          ⊎ HasFailed d i old.store now.store requests s.base replies)
          → RecoversPrefix all_classes (before ++ writes (pairs ++ pairs_of requests replies)
          ++ unsure_writes (pairs ++ pairs_of requests replies)) acks image first.store.worker
          first.store.workers
      outcome s (inl done) =
          let begin : Start = start_of d i old.store in
          let plain : List Reply = answers begin [] s.base requests in
          let grew = drawn-grew seen (length requests) s.base view later s.drawn in
          let sure : unsure_writes (pairs_of requests replies) ≡ [] =
          written-told unsure_by d.tells (unsure-told d.tells) requests replies plain
          done.replies_are ∙ laws.failed.sure begin s.base requests in
          let stamped : AreStamped s.base replies =
          stamped-told d.tells replies plain s.base done.replies_are
          (laws.stamps begin s.base requests).1 in
          stays-more old view (pairs_of requests replies) s.base acks image keeps
          (keeps.sure s.open_) grew.from
          (writes-all (λ stamp. s.base ≤ stamp) (pairs_of requests replies)
          (stamped-from s.base requests replies stamped))
          (subst (AllByRecursion (λ write. s.base ≤ write.stamp)) (sym sure) tt) acked was
      outcome s (inr (inl refused)) = refused_by refused.reply refused.cause refused.replies_are
      outcome s (inr (inr failed)) =
          let begin : Start = start_of d i old.store in
          let plain : List Reply = answers begin [] s.base requests in
          let grew = drawn-grew seen (length requests) s.base view later s.drawn in
          let nothing : writes (pairs_of requests replies) ≡ [] =
          ap (λ rs. writes (pairs_of requests rs)) failed.replies_are
          ∙ laws.failed.unacknowledged begin s.base requests in
          let stamped : AreStamped s.base replies = subst (AreStamped s.base)
          (sym failed.replies_are)
          (AreStamped-failed requests plain s.base (laws.stamps begin s.base requests).1) in
          stays-more old view (pairs_of requests replies) s.base acks image keeps
          (keeps.sure s.open_) grew.from
          (subst (AllByRecursion (λ write. s.base ≤ write.stamp)) (sym nothing) tt)
          (unsure-all (λ stamp. s.base ≤ stamp) (pairs_of requests replies)
          (stamped-from s.base requests replies stamped)) acked was

      by : HasServed d i old now view later seen requests replies
          → RecoversPrefix all_classes (before ++ writes (pairs ++ pairs_of requests replies)
          ++ unsure_writes (pairs ++ pairs_of requests replies)) acks image first.store.worker
          first.store.workers
      by (inl idle) = quiet NoMemory (no_memory-may d.tells)
          (idle.replies_are ∙ sym (ap (map (λ (r : Request). NoMemory)) idle.none))
      by (inr (inl closed)) = quiet Closed (closed-may d.tells) closed.replies_are
      by (inr (inr (inl spent))) = quiet (StampsSpent spent.number)
          (spent-may d.tells spent.number) spent.replies_are
      by (inr (inr (inr stepped))) = outcome stepped stepped.steps.outcome

  -- at each moment of a batch a crash leaves a prefix that holds all that was answered before it
  pub served-leaves : (old now : WorkerView D I) (seen : ℕ) (view later : View)
      (requests : List Request) (replies : List Reply)
      → Keeps d i start sessions first old view before pairs
      → AllByRecursion (IsTask all_classes) requests
      → HasServed d i old now view later seen requests replies
      → LeavesOnly (d.calls old.store.disk.disk) (d.calls now.store.disk.disk)
      (d.leaves old.store.disk.disk) (d.leaves now.store.disk.disk)
      (λ image. RecoversPrefix all_classes (before ++ writes (pairs ++ pairs_of requests replies)
      ++ unsure_writes (pairs ++ pairs_of requests replies)) (before ++ writes pairs) image
      first.store.worker first.store.workers)
  served-leaves old now seen view later requests replies keeps good served = by served
    where
      quiet : (reply : Reply) → MayRefuse d.tells reply → replies ≡ map (λ _. reply) requests
          → now ≡ old → LeavesOnly (d.calls old.store.disk.disk) (d.calls now.store.disk.disk)
          (d.leaves old.store.disk.disk) (d.leaves now.store.disk.disk)
          (λ image. RecoversPrefix all_classes (before
          ++ writes (pairs ++ pairs_of requests replies)
          ++ unsure_writes (pairs ++ pairs_of requests replies)) (before ++ writes pairs) image
          first.store.worker first.store.workers)
      quiet reply may is same =
          let silent = silent-batch d.tells reply requests replies may good is in
          let stays = silent-same (pairs_of requests replies) silent in
          subst (λ (w : WorkerView D I). LeavesOnly (d.calls old.store.disk.disk)
          (d.calls w.store.disk.disk) (d.leaves old.store.disk.disk) (d.leaves w.store.disk.disk)
          (λ image. RecoversPrefix all_classes (before
          ++ writes (pairs ++ pairs_of requests replies)
          ++ unsure_writes (pairs ++ pairs_of requests replies)) (before ++ writes pairs) image
          first.store.worker first.store.workers)) (sym same)
          (started (d.calls old.store.disk.disk) (d.leaves old.store.disk.disk)
          (λ image. RecoversPrefix all_classes (before
          ++ writes (pairs ++ pairs_of requests replies)
          ++ unsure_writes (pairs ++ pairs_of requests replies)) (before ++ writes pairs) image
          first.store.worker first.store.workers)
          (λ image left.
          let Q : List Write → List Write → Type 0 = λ w u. RecoversPrefix all_classes
          (before ++ w ++ u) (before ++ writes pairs) image first.store.worker
          first.store.workers in
          subst₂ Q (sym stays.0) (sym stays.1) (keeps.leaves.exit image left)))

      by : HasServed d i old now view later seen requests replies
          → LeavesOnly (d.calls old.store.disk.disk) (d.calls now.store.disk.disk)
          (d.leaves old.store.disk.disk) (d.leaves now.store.disk.disk)
          (λ image. RecoversPrefix all_classes (before
          ++ writes (pairs ++ pairs_of requests replies)
          ++ unsure_writes (pairs ++ pairs_of requests replies)) (before ++ writes pairs) image
          first.store.worker first.store.workers)
      by (inl idle) = quiet NoMemory (no_memory-may d.tells)
          (idle.replies_are ∙ sym (ap (map (λ (r : Request). NoMemory)) idle.none)) idle.worker
      by (inr (inl closed)) = quiet Closed (closed-may d.tells) closed.replies_are closed.worker
      by (inr (inr (inl spent))) = quiet (StampsSpent spent.number)
          (spent-may d.tells spent.number) spent.replies_are spent.worker
      by (inr (inr (inr stepped))) =
          let group : List Pair = pairs_of requests replies in
          let history : List Write = before ++ writes pairs in
          let grew = drawn-grew seen (length requests) stepped.base view later stepped.drawn in
          let goes = continues old view stepped.base keeps stepped.open_ grew.from in
          let whole = all-more before pairs group (keeps.sure stepped.open_) in
          weaker (d.calls old.store.disk.disk) (d.calls now.store.disk.disk)
          (d.leaves old.store.disk.disk) (d.leaves now.store.disk.disk)
          (λ image. RecoversPrefix all_classes (history ++ writes group ++ unsure_writes group)
          history image old.store.worker old.store.workers)
          (λ image. RecoversPrefix all_classes (before
          ++ writes (pairs ++ pairs_of requests replies)
          ++ unsure_writes (pairs ++ pairs_of requests replies)) (before ++ writes pairs) image
          first.store.worker first.store.workers)
          (stepped.steps.any_moment history goes)
          (λ image is.
          let P : ℕ → ℕ → Type 0 = λ m n. RecoversPrefix all_classes
          (history ++ writes group ++ unsure_writes group) history image m n in
          subst (λ w. RecoversPrefix all_classes w history image first.store.worker
          first.store.workers) (sym whole) (subst₂ P keeps.same.0 keeps.same.1 is))
