-- What a step over a batch does, by its outcome.
use Rattle.std.proofs.Common.{◌≡◌, ℕ, ◌+◌, ◌-◌, ◌*◌, ◌≤◌, ◌<◌, Bool, true, false, IsTrue, List, [], ◌∷◌}
use Rattle.std.proofs.Common.{◌++◌, map, Option, None, Some, ◌⊎◌, inl, inr, refl, sym, ap, ◌∙◌, subst}
use Rattle.std.proofs.Common.{length, arith, append-nil, true≢false}
use Rattle.std.proofs.lemmas.List.{length-map}
use Rattle.std.specs.FinMap as finite
use Rattle.std.specs.List.{AllByRecursion}
use Rattle.kv_base.specs.Calls.{next_count}
use Rattle.kv_base.specs.Crash.{LeavesOnly, MayLeave}
use Rattle.kv_base.specs.Image.{Image}
use Rattle.kv_base.specs.declared.reply.Reply.{Reply}
use Rattle.kv_base.specs.declared.request.Request.{Request}
use Rattle.kv_base.proofs.CrashLemmas.{left-before}
use Rattle.kv_disk.specs.declared.disk.Disk as disks
use Rattle.kv_index.specs.declared.index.Index as indexes
use Rattle.kv_model.specs.Agreement.{told_of}
use Rattle.kv_model.specs.Batch.{Start, accepted_writes, answers, failed_replies, value_after}
use Rattle.kv_model.specs.BatchLaws.{OldOrNewOfAccepted, StoreFollowsHistory, pairs_of}
use Rattle.kv_model.specs.Frames.{HasReplyFrame}
use Rattle.kv_model.specs.Head.{IsWorker}
use Rattle.kv_model.specs.History.{Write}
use Rattle.kv_model.specs.Items.{FollowsHistory, HasChanges}
use Rattle.kv_model.specs.Layout.{all_classes}
use Rattle.kv_model.specs.Pairs.{unsure_writes, writes}
use Rattle.kv_model.specs.Recovery.{RecoversPrefix}
use Rattle.kv_model.proofs.FailedLemmas.{unsure-failed, writes-failed}
use Rattle.kv_model.proofs.NetLemmas.{DifferentKeys}
use Rattle.kv_model.proofs.PairwiseLemmas.{All-append, All-each, All-map}
use Rattle.kv_model.proofs.ReadingLemmas.{up_to}
use Rattle.kv_slab.specs.View.{View}
use Rattle.kv_slab.specs.declared.change.Change.{Change}
use Rattle.kv_slab.specs.declared.fault.StepFault.{StepFault}
use Rattle.kv_slab.specs.declared.fault.StepFault.TheVariants.{DiskFault, NoMemory}
use Rattle.kv_worker.specs.Net.{write_of, writes_of}
use Rattle.kv_worker.specs.Open.{ArePrepared, IsOpenStore, IsSettled}
use Rattle.kv_worker.specs.Refusals.{reply_of_fault}
use Rattle.kv_worker.specs.Steps.{Continues, HasFailed, HasOutcome, HasRefusal, IsDone, IsRefused}
use Rattle.kv_worker.specs.Steps.{Steps, net_of}
use Rattle.kv_worker.specs.Worker.{WorkerView, start_of}
use Rattle.kv_worker.proofs.ChangedLemmas.{same-self}
use Rattle.kv_worker.proofs.MomentLemmas.{IsApplied, IsToldDisk, batch-moments, settled-recovers}
use Rattle.kv_worker.proofs.MomentLemmas.{still-moments}
use Rattle.kv_worker.proofs.PairLemmas.{acknowledged-below, none-unsure, refused-unsure}
use Rattle.kv_worker.proofs.PairLemmas.{refused-writes, same-writes}
use Rattle.kv_worker.proofs.PlanLemmas.{net-differ}
use Rattle.kv_worker.proofs.RecoverLemmas.{IsOldOrNew, recovers-accepted, recovers-acknowledged}
use Rattle.kv_worker.proofs.StillLemmas.{IsStill, start-still}

-- no change
pub unchanged : (told : Bool) (start after : Start) → after ≡ start → HasChanges told start after []
unchanged told start after same = subst (λ s. HasChanges told start s []) (sym same) (record {
  layout = refl;
  limit = refl;
  value = λ key. same-self told (start.value key);
  class = λ key. refl;
})

-- writes behind a history, where nothing is unsure
plain-list : (history more unsure list : List Write) → more ≡ list → unsure ≡ []
    → history ++ list ≡ (history ++ more) ++ unsure
plain-list history more unsure list same none =
    sym (append-nil (history ++ list)) ∙ ap (λ u. (history ++ list) ++ u) (sym none)
    ∙ ap (λ m. (history ++ m) ++ unsure) (sym same)

-- writes behind a history, where all of them are unsure
unsure-list : (history more unsure list : List Write) → more ≡ [] → unsure ≡ list
    → history ++ list ≡ (history ++ more) ++ unsure
unsure-list history more unsure list none same =
    ap (λ h. h ++ list) (sym (append-nil history))
    ∙ ap (λ u. (history ++ []) ++ u) (sym same) ∙ ap (λ m. (history ++ m) ++ unsure) (sym none)

-- the stamps of a history and of the writes that a batch acknowledges are up to the batch's last one
all-up : (start : Start) (history : List Write) (base : ℕ) (requests : List Request) → 1 ≤ base
    → AllByRecursion (λ write. write.stamp < base) history
    → AllByRecursion (λ write. write.stamp ≤ base + length requests - 1)
    (history ++ writes (pairs_of requests (answers start [] base requests)))
all-up start history base requests first below =
    let more : List Write = writes (pairs_of requests (answers start [] base requests)) in
    All-append (λ write. write.stamp ≤ base + length requests - 1) history more
    (All-map (λ write. write.stamp < base) (λ write. write.stamp ≤ base + length requests - 1)
    history (λ write lt. omega (arith, lt, first)) below)
    (All-map (λ write. write.stamp < base + length requests)
    (λ write. write.stamp ≤ base + length requests - 1) more
    (λ write lt. omega (arith, lt, first)) (acknowledged-below start requests base))

framed-refusal : (fault : StepFault) → HasReplyFrame (reply_of_fault fault)
framed-refusal DiskFault = record { body = tt; size = omega arith }
framed-refusal NoMemory = record { body = tt; size = omega arith }

-- each refusal has a frame
framed-refusals : (fault : StepFault) (requests : List Request)
    → AllByRecursion HasReplyFrame (map (λ _. reply_of_fault fault) requests)
framed-refusals fault [] = tt
framed-refusals fault (request ∷ requests) =
    (framed-refusal fault, framed-refusals fault requests)

-- where there are changes, there are writes
some-net : (changes : List Change) (net : List Write) → writes_of changes ≡ net
    → (length changes ≡ 0 → ⊥) → net ≡ [] → ⊥
some-net changes net is some none =
    some (sym (length-map changes write_of) ∙ ap length (is ∙ none))

module _ {D I : Type 0} (d : disks.Ghosts D) (i : indexes.Ghosts I) (told : IsToldDisk d)
    (law : OldOrNewOfAccepted) (law_follows : StoreFollowsHistory) where
  -- what stays at a store that is still
  kept-still : (old new : View D I) (most : ℕ) → IsStill d i most old new
      → (new.worker ≡ old.worker) × (new.workers ≡ old.workers) × (new.limits ≡ old.limits)
  kept-still old new most still = (
    ap (λ (v : View D I). v.worker) still.rest,
    ap (λ (v : View D I). v.workers) still.rest,
    ap (λ (v : View D I). v.limits) still.rest,
  )

  -- the images that a crash leaves of a store that is still are those from before
  before-still : (old new : View D I) (most : ℕ) → IsStill d i most old new → (image : Image)
      → MayLeave (d.leaves new.disk.disk (d.calls new.disk.disk)) image
      → MayLeave (d.leaves old.disk.disk (d.calls old.disk.disk)) image
  before-still old new most still image left =
      left-before (d.leaves old.disk.disk (d.calls old.disk.disk))
      (d.leaves new.disk.disk (d.calls new.disk.disk)) image still.reads.reads.crash.no_more left

  -- the batch is refused
  pub refused-steps : (old new : View D I) (most base high : ℕ) (requests : List Request)
      (fault : StepFault) → IsOpenStore d i old base → 1 ≤ base → IsStill d i most old new
      → most ≤ 36 * length requests + 2 → high + 1 ≡ base + length requests
      → HasRefusal (reply_of_fault fault) (d.faults old.disk.disk) (d.faults new.disk.disk)
      → Steps d i (record { store = old; highest = base - 1 })
      (record { store = new; highest = high }) requests base
      (map (λ _. reply_of_fault fault) requests)
  refused-steps old new most base high requests fault opened first still few last cause =
      let start : Start = start_of d i old in
      let replies : List Reply = map (λ _. reply_of_fault fault) requests in
      let wrote : List Write = writes (pairs_of requests replies) in
      let unsure : List Write = unsure_writes (pairs_of requests replies) in
      record {
        outcome = inr (inl (record {
          reply = reply_of_fault fault;
          replies_are = refl;
          cause = cause;
          kept = still.rest;
          entries = still.entries;
          reads = still.reads.reads;
          same = unchanged d.tells start (start_of d i new) (start-still d i most old new still);
        }));
        framed = framed-refusals fault requests;
        highest = last;
        kept = kept-still old new most still;
        calls = omega (arith, still.reads.count, few);
        any_moment = λ history continues. still-moments d i told old new most base []
            (λ image. RecoversPrefix all_classes ((history ++ wrote) ++ unsure) history image
            old.worker old.workers) opened still
            (λ image tells old_or_new. subst (λ all. RecoversPrefix all_classes all history image
            old.worker old.workers) (plain-list history wrote unsure [] (refused-writes fault
            requests) (refused-unsure fault requests))
            (recovers-acknowledged law d.tells tells history base start [] continues.follows first
            continues.below image old.worker old.workers old_or_new));
        durable = λ history continues open_ image left.
            let tells = (told new.disk.disk (d.calls new.disk.disk) 0 0 (image 0 0) (left 0 0)).0 in
            subst (λ all. RecoversPrefix all_classes all all image old.worker old.workers)
            (sym (append-nil history)
            ∙ ap (λ more. history ++ more) (sym (refused-writes fault requests)))
            (settled-recovers d i old history (base - 1) opened.worker_is opened.settled
            continues.follows (up_to base (base - 1) history (omega (arith, first)) continues.below)
            tells image (before-still old new most still image left));
      }

  -- the writes of replies that tell the answers
  told-list : (history : List Write) (start : Start) (base : ℕ) (requests : List Request)
      (replies : List Reply)
      → map (told_of d.tells) replies ≡ map (told_of d.tells) (answers start [] base requests)
      → history ++ writes (pairs_of requests (answers start [] base requests))
      ≡ (history ++ writes (pairs_of requests replies))
      ++ unsure_writes (pairs_of requests replies)
  told-list history start base requests replies same =
      plain-list history (writes (pairs_of requests replies))
      (unsure_writes (pairs_of requests replies))
      (writes (pairs_of requests (answers start [] base requests)))
      (same-writes d.tells requests replies (answers start [] base requests) same)
      (none-unsure d.tells requests replies start base same)

  -- a store that has the net changes leaves all that was acknowledged
  done-durable : (old new : View D I) (base : ℕ) (requests : List Request) (replies : List Reply)
      (history : List Write) → IsOpenStore d i old base → 1 ≤ base → IsSettled d i new
      → (new.worker ≡ old.worker) × (new.workers ≡ old.workers)
      → map (told_of d.tells) replies
      ≡ map (told_of d.tells) (answers (start_of d i old) [] base requests)
      → HasChanges d.tells (start_of d i old) (start_of d i new)
      (net_of (start_of d i old) base requests)
      → Continues d i old base history → IsTrue d.tells → (image : Image)
      → MayLeave (d.leaves new.disk.disk (d.calls new.disk.disk)) image
      → RecoversPrefix all_classes (history ++ writes (pairs_of requests replies))
      (history ++ writes (pairs_of requests replies)) image old.worker old.workers
  done-durable old new base requests replies history opened first settled same_worker same changed
      continues tells image left =
      let start : Start = start_of d i old in
      let all : List Write = history ++ writes (pairs_of requests (answers start [] base requests))
      in
      let last : ℕ = base + length requests - 1 in
      let follows = law_follows d.tells history base start (start_of d i new) requests last
      continues.follows continues.below (omega (arith, first)) changed in
      let recovers = settled-recovers d i new all last
      (subst (λ w. IsWorker w new.workers) (sym same_worker.0)
      (subst (λ n. IsWorker old.worker n) (sym same_worker.1) opened.worker_is)) settled follows
      (all-up start history base requests first continues.below) tells image left in
      subst (λ h. RecoversPrefix all_classes h h image old.worker old.workers)
      (ap (λ more. history ++ more) (sym (same-writes d.tells requests replies
      (answers start [] base requests) same)))
      (subst (λ w. RecoversPrefix all_classes all all image w old.workers) same_worker.0
      (subst (λ n. RecoversPrefix all_classes all all image new.worker n) same_worker.1 recovers))

  -- nothing had to be written
  pub idle-steps : (old new : View D I) (most base high : ℕ) (requests : List Request)
      (replies : List Reply) (changes : List Change) → IsOpenStore d i old base → 1 ≤ base
      → IsStill d i most old new → most ≤ 36 * length requests + 2
      → high + 1 ≡ base + length requests → d.faults new.disk.disk ≡ d.faults old.disk.disk
      → ArePrepared d.tells (start_of d i old) requests base replies changes → changes ≡ []
      → Steps d i (record { store = old; highest = base - 1 })
      (record { store = new; highest = high }) requests base replies
  idle-steps old new most base high requests replies changes opened first still few last calm
      prepared none =
      let start : Start = start_of d i old in
      let net : List Write = net_of start base requests in
      let empty : [] ≡ net = ap writes_of (sym none) ∙ prepared.changes_are in
      record {
        outcome = inl (record {
          replies_are = prepared.answers_are;
          changed = subst (HasChanges d.tells start (start_of d i new)) empty
              (unchanged d.tells start (start_of d i new) (start-still d i most old new still));
          open_ = ap (λ (v : View D I). v.closed) still.rest ∙ opened.ready.open_;
          calm = calm;
          looks = λ _. still.reads.reads;
        });
        framed = prepared.framed;
        highest = last;
        kept = kept-still old new most still;
        calls = omega (arith, still.reads.count, few);
        any_moment = λ history continues. still-moments d i told old new most base requests
            (λ image. RecoversPrefix all_classes ((history ++ writes (pairs_of requests replies))
            ++ unsure_writes (pairs_of requests replies)) history image old.worker old.workers)
            opened still
            (λ image tells old_or_new. subst (λ all. RecoversPrefix all_classes all history image
            old.worker old.workers) (told-list history start base requests replies
            prepared.answers_are)
            (recovers-acknowledged law d.tells tells history base start requests continues.follows
            first continues.below image old.worker old.workers old_or_new));
        durable = λ history continues open_ image left.
            let tells = (told new.disk.disk (d.calls new.disk.disk) 0 0 (image 0 0) (left 0 0)).0 in
            done-durable old old base requests replies history opened first opened.settled
            (refl, refl) prepared.answers_are
            (subst (HasChanges d.tells start start) empty (unchanged d.tells start start refl))
            continues tells image (before-still old new most still image left);
      }

  -- all is written
  pub done-steps : (old planned new : View D I) (most base high : ℕ) (requests : List Request)
      (replies : List Reply) (changes : List Change) → IsOpenStore d i old base → 1 ≤ base
      → IsStill d i most old planned → most + 17 * length changes ≤ 36 * length requests
      → high + 1 ≡ base + length requests
      → ArePrepared d.tells (start_of d i old) requests base replies changes
      → (length changes ≡ 0 → ⊥) → IsApplied d i planned new changes → IsSettled d i new
      → new.closed ≡ false → d.faults new.disk.disk ≡ d.faults old.disk.disk
      → HasChanges d.tells (start_of d i old) (start_of d i new)
      (net_of (start_of d i old) base requests)
      → Steps d i (record { store = old; highest = base - 1 })
      (record { store = new; highest = high }) requests base replies
  done-steps old planned new most base high requests replies changes opened first still few last
      prepared some applied settled open_new calm changed =
      let start : Start = start_of d i old in
      let still_kept = kept-still old planned most still in
      let differ = subst DifferentKeys (sym prepared.changes_are) (net-differ start requests base) in
      record {
        outcome = inl (record {
          replies_are = prepared.answers_are;
          changed = changed;
          open_ = open_new;
          calm = calm;
          looks = λ none. absurd (some-net changes (net_of start base requests)
              prepared.changes_are some none);
        });
        framed = prepared.framed;
        highest = last;
        kept = (
          applied.kept.0 ∙ still_kept.0,
          applied.kept.1 ∙ still_kept.1,
          applied.kept.2 ∙ still_kept.2,
        );
        calls = omega (arith, still.reads.count, applied.count, few);
        any_moment = λ history continues. batch-moments d i told old planned new most base requests
            changes (λ image. RecoversPrefix all_classes ((history
            ++ writes (pairs_of requests replies)) ++ unsure_writes (pairs_of requests replies))
            history image old.worker old.workers) opened still differ prepared.changes_are applied
            (λ image tells old_or_new. subst (λ all. RecoversPrefix all_classes all history image
            old.worker old.workers) (told-list history start base requests replies
            prepared.answers_are)
            (recovers-acknowledged law d.tells tells history base start requests continues.follows
            first continues.below image old.worker old.workers old_or_new));
        durable = λ history continues open_ image left.
            let tells = (told new.disk.disk (d.calls new.disk.disk) 0 0 (image 0 0) (left 0 0)).0 in
            done-durable old new base requests replies history opened first settled
            (applied.kept.0 ∙ still_kept.0, applied.kept.1 ∙ still_kept.1) prepared.answers_are
            changed continues tells image left;
      }

  -- a write failed
  pub failed-steps : (old planned new : View D I) (most base high : ℕ) (requests : List Request)
      (replies failed : List Reply) (changes : List Change) → IsOpenStore d i old base → 1 ≤ base
      → IsStill d i most old planned → most + 17 * length changes ≤ 36 * length requests
      → high + 1 ≡ base + length requests
      → ArePrepared d.tells (start_of d i old) requests base replies changes
      → (length changes ≡ 0 → ⊥) → IsApplied d i planned new changes → new.closed ≡ true
      → d.faults new.disk.disk ≡ next_count (d.faults old.disk.disk)
      → AllByRecursion HasReplyFrame failed
      → failed ≡ failed_replies base requests (answers (start_of d i old) [] base requests)
      → Steps d i (record { store = old; highest = base - 1 })
      (record { store = new; highest = high }) requests base failed
  failed-steps old planned new most base high requests replies failed changes opened first still few
      last prepared some applied closed_new counted framed is =
      let start : Start = start_of d i old in
      let still_kept = kept-still old planned most still in
      let differ = subst DifferentKeys (sym prepared.changes_are) (net-differ start requests base) in
      let wrote : List Write = writes (pairs_of requests failed) in
      let unsure : List Write = unsure_writes (pairs_of requests failed) in
      let none : wrote ≡ [] = ap (λ r. writes (pairs_of requests r)) is
      ∙ writes-failed requests (answers start [] base requests) base in
      let all : unsure ≡ accepted_writes start [] base requests =
      ap (λ r. unsure_writes (pairs_of requests r)) is ∙ unsure-failed requests start [] base in
      record {
        outcome = inr (inr (record {
          replies_are = is;
          changes = some-net changes (net_of start base requests) prepared.changes_are some;
          closed = closed_new;
          counted = counted;
        }));
        framed = framed;
        highest = last;
        kept = (
          applied.kept.0 ∙ still_kept.0,
          applied.kept.1 ∙ still_kept.1,
          applied.kept.2 ∙ still_kept.2,
        );
        calls = omega (arith, still.reads.count, applied.count, few);
        any_moment = λ history continues. batch-moments d i told old planned new most base requests
            changes (λ image. RecoversPrefix all_classes ((history ++ wrote) ++ unsure) history image
            old.worker old.workers) opened still differ prepared.changes_are applied
            (λ image tells old_or_new. subst (λ list. RecoversPrefix all_classes list history image
            old.worker old.workers) (unsure-list history wrote unsure
            (accepted_writes start [] base requests) none all)
            (recovers-accepted law d.tells tells history base start requests continues.follows
            first continues.below image old.worker old.workers old_or_new));
        durable = λ history continues open_ image left. absurd (true≢false (sym closed_new ∙ open_));
      }
