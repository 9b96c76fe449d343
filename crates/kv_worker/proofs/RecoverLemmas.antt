-- Images that a crash leaves of a batch recover a prefix of its writes.
use Rattle.std.proofs.Common.{◌≡◌, ℕ, ◌+◌, ◌-◌, ◌≤◌, ◌<◌, Bool, true, false, IsTrue, List, [], ◌∷◌, ◌++◌}
use Rattle.std.proofs.Common.{Option, None, Some, option_map, ◌⊎◌, inl, inr, refl, sym, ap, ◌∙◌, subst}
use Rattle.std.proofs.Common.{length, arith, append-nil}
use Rattle.std.specs.List.{AllByRecursion}
use Rattle.kv_base.specs.Image.{Image}
use Rattle.kv_base.specs.Partition.{owner_of}
use Rattle.kv_base.specs.declared.reply.Reply.{Reply}
use Rattle.kv_base.specs.declared.request.Request.{Request}
use Rattle.kv_model.specs.Batch.{Start, accepted_writes, answers, value_after}
use Rattle.kv_model.specs.BatchLaws.{OldOrNewOfAccepted, pairs_of}
use Rattle.kv_model.specs.Head.{IsWorker}
use Rattle.kv_model.specs.History.{Write, value_at}
use Rattle.kv_model.specs.Items.{FollowsHistory, SameValue}
use Rattle.kv_model.specs.Layout.{all_classes}
use Rattle.kv_model.specs.Pairs.{writes}
use Rattle.kv_model.specs.Reading.{Gives, Reading, slot_at}
use Rattle.kv_model.specs.Recovery.{GivesValue, HoldsAll, OpensAs, RecoversPrefix}
use Rattle.kv_model.proofs.PairwiseLemmas.{All-map}
use Rattle.kv_recover.proofs.PrepareSteps.{class_within}
use Rattle.kv_slab.specs.Given.{Answer}
use Rattle.kv_slab.specs.View.{IsOfWorker}
use Rattle.kv_worker.specs.Steps.{net_of}

-- stamp and value are given: so is the value
pub gives-value : (reading : Reading) (worker workers : ℕ) (key : List ℕ) (answer : Answer)
    → Gives reading worker workers key answer
    → GivesValue reading worker workers key (option_map (λ given. given.1) answer)
gives-value reading worker workers key None gives = gives
gives-value reading worker workers key (Some answer) gives = (gives.0, gives.1, gives.3)

-- a worker's image can be opened as this worker
pub opens-as : (worker workers : ℕ) (image : Image) → IsWorker worker workers
    → IsOfWorker worker workers image → OpensAs all_classes image worker workers
opens-as worker workers image is of_worker = record {
  worker_is = is;
  head = inr of_worker.head;
  bounded = λ class page has past.
      let within = class_within class has in of_worker.bounded class page within.0 within.1 past;
}

-- where all is told, the same value is an equal one
pub same-told : (told : Bool) (a b : Option (List ℕ)) → SameValue told a b → IsTrue told → a ≡ b
same-told told None None same is = refl
same-told told None (Some b) same is = absurd same
same-told told (Some a) None same is = absurd same
same-told told (Some a) (Some b) same is = ap Some (same is)

-- a stamp that isn't below any holds all of one key too
pub holds-all : (history : List Write) (key : List ℕ) (stamp : ℕ)
    → AllByRecursion (λ write. write.stamp ≤ stamp) history → HoldsAll history key stamp
holds-all history key stamp all = All-map (λ write. write.stamp ≤ stamp)
    (λ write. write.key ≡ key → write.stamp ≤ stamp) history (λ write le same. le) all

-- the key's value is given, and is that before the batch or that behind its net changes
pub record HasOldOrNew (start : Start) (base : ℕ) (requests : List Request) (reading : Reading)
    (worker workers : ℕ) (key : List ℕ) : Type 0 where
  pub value : Option (List ℕ)
  pub gives : GivesValue reading worker workers key value
  pub is : (value ≡ start.value key) ⊎ (value ≡ value_after start (net_of start base requests) key)

-- an image that opens, and gives each key its value before the batch or behind it
pub record IsOldOrNew (start : Start) (base : ℕ) (requests : List Request) (worker workers : ℕ)
    (image : Image) : Type 0 where
  pub opens : OpensAs all_classes image worker workers
  pub each : (key : List ℕ)
      → HasOldOrNew start base requests (slot_at all_classes image) worker workers key

module _ (law : OldOrNewOfAccepted) (told : Bool) (is_told : IsTrue told) (history : List Write)
    (base : ℕ) (start : Start) (requests : List Request)
    (follows : FollowsHistory told history (base - 1) start) (first : 1 ≤ base)
    (below : AllByRecursion (λ write. write.stamp < base) history) (image : Image)
    (worker workers : ℕ) (old_or_new : IsOldOrNew start base requests worker workers image) where
  -- it recovers a prefix of the writes that the answers acknowledge
  pub recovers-acknowledged : RecoversPrefix all_classes
      (history ++ writes (pairs_of requests (answers start [] base requests))) history image worker
      workers
  recovers-acknowledged = record {
    opens = old_or_new.opens;
    prefix = λ key owned.
        let v = old_or_new.each key in
        let r = law told history base start requests key v.value follows first below v.is in (
          r.stamp,
          holds-all history key r.stamp r.above,
          subst (GivesValue (slot_at all_classes image) worker workers key)
              (same-told told v.value (value_at (history ++ writes (pairs_of requests
              (answers start [] base requests))) r.stamp key) r.acknowledged is_told) v.gives,
        );
  }

  -- it recovers a prefix of all accepted writes
  pub recovers-accepted : RecoversPrefix all_classes
      (history ++ accepted_writes start [] base requests) history image worker workers
  recovers-accepted = record {
    opens = old_or_new.opens;
    prefix = λ key owned.
        let v = old_or_new.each key in
        let r = law told history base start requests key v.value follows first below v.is in (
          r.stamp,
          holds-all history key r.stamp r.above,
          subst (GivesValue (slot_at all_classes image) worker workers key)
              (same-told told v.value (value_at (history ++ accepted_writes start [] base requests)
              r.stamp key) r.accepted is_told) v.gives,
        );
  }
