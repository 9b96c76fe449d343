-- What a store has once a plan of a batch's net changes was carried out.
use Rattle.std.proofs.Common.{◌≡◌, ℕ, suc, ◌+◌, ◌-◌, ◌*◌, ◌≤◌, ◌<◌, Bool, true, false, IsTrue, List, [], ◌∷◌}
use Rattle.std.proofs.Common.{map, Option, None, Some, Result, Ok, Err, OnOk, OnErr, inl, inr, refl, sym}
use Rattle.std.proofs.Common.{ap, ◌∙◌, subst, length, arith, true≢false, slice_get, min, ◌^◌}
use Rattle.std.proofs.Common.{Vec}
use Rattle.std.specs.FinMap as finite
use Rattle.std.specs.Result.{IsErrAnd}
use Rattle.std.specs.declared.alloc.Global.{Global}
use Rattle.std.specs.List.{AllByRecursion}
use Rattle.kv_base.specs.Calls.{next_count}
use Rattle.kv_base.specs.Fault.{Counted}
use Rattle.kv_base.specs.Image.{Image}
use Rattle.kv_base.specs.declared.reply.Reply.{Reply}
use Rattle.kv_base.specs.declared.reply.Reply.TheVariants.{Full, Unsure}
use Rattle.kv_base.specs.declared.request.Request.{Request}
use Rattle.kv_base.specs.declared.request.Request.TheVariants.{Put, Get, Delete, Flush, After}
use Rattle.kv_disk.specs.declared.disk.Disk as disks
use Rattle.kv_index.specs.Entries.{Entries}
use Rattle.kv_index.specs.declared.entry.Entry.{Entry}
use Rattle.kv_index.specs.declared.index.Index as indexes
use Rattle.kv_model.specs.Batch.{Start, failed_replies, failed_reply, value_after}
use Rattle.kv_model.specs.BatchLaws.{RiseBetween}
use Rattle.kv_model.specs.Frames.{HasReplyFrame}
use Rattle.kv_model.specs.History.{Write}
use Rattle.kv_model.specs.Items.{HasChanges}
use Rattle.kv_model.proofs.NetLemmas.{DifferentKeys}
use Rattle.kv_model.proofs.PairwiseLemmas.{All-map}
use Rattle.kv_model.proofs.ReadingLemmas.{RiseBetween-below}
use Rattle.kv_slab.specs.Floor.{HasFloorBelow, HasFloorUpTo}
use Rattle.kv_slab.specs.Moves.{AreUpTo, answer_after}
use Rattle.kv_slab.specs.Plans.{HasPlan}
use Rattle.kv_slab.specs.Settled.{HasEntryAfter}
use Rattle.kv_slab.specs.View.{View, store_map}
use Rattle.kv_slab.specs.Fault.{StepCounted}
use Rattle.kv_slab.specs.declared.change.Change.{Change}
use Rattle.kv_slab.specs.declared.fault.StepFault.{StepFault}
use Rattle.kv_slab.specs.declared.fault.StepFault.TheVariants.{DiskFault, NoMemory}
use Rattle.kv_worker.specs.Net.{write_of, writes_of}
use Rattle.kv_worker.specs.Open.{AreBelow, IsOpenStore}
use Rattle.kv_worker.specs.Refusals.{replies_by, reply_of_fault}
use Rattle.kv_worker.specs.Steps.{HasRefusal}
use Rattle.kv_worker.specs.Worker.{start_of}
use Rattle.kv_worker.proofs.ChangedLemmas.{changed-value, entry-below, entry-class}
use Rattle.kv_worker.proofs.ListLemmas.{all-at}
use Rattle.kv_worker.proofs.FloorLemmas.{below-up, floor-raised, up-below}
use Rattle.kv_worker.proofs.PlanLemmas.{write-at}
use Rattle.kv_worker.proofs.StillLemmas.{IsStill, start-still}

-- an open store has counted no fault
pub counted-open : {T E : Type 0} (result : Result T E) (closed : Bool) (before now : ℕ)
    → OnErr result (closed ≡ true) → closed ≡ false → Counted before now result → now ≡ before
counted-open (Ok value) closed before now err open_ counted = counted
counted-open (Err error) closed before now err open_ counted =
    absurd (true≢false (sym err ∙ open_))

-- a store that was closed has counted one
pub counted-closed : {T E : Type 0} (result : Result T E) (closed : Bool) (before now : ℕ)
    → OnOk result (closed ≡ false) → closed ≡ true → Counted before now result
    → now ≡ next_count before
counted-closed (Ok value) closed before now ok closed_ counted =
    absurd (true≢false (sym closed_ ∙ ok))
counted-closed (Err error) closed before now ok closed_ counted = counted

-- a refusal is told with its cause
pub refusal-of : (fault : StepFault) (old before now : ℕ) → before ≡ old
    → StepCounted {T = Unit {0}} before now (Err fault)
    → HasRefusal (reply_of_fault fault) old now
refusal-of DiskFault old before now same counted = inr (refl, counted ∙ ap next_count same)
refusal-of NoMemory old before now same counted = inl (refl, counted ∙ same)

-- the replies of a step that was refused
pub replies-refused : (result : Result (Vec Reply Global) StepFault) (fault : StepFault)
    (requests : List Request) → IsErrAnd result (λ error. error ≡ fault)
    → map (λ _. reply_of_fault fault) requests ≡ replies_by result requests
replies-refused (Ok replies) fault requests is = absurd is
replies-refused (Err error) fault requests is =
    ap (λ f. map (λ _. reply_of_fault f) requests) (sym is)

framed-unsure : (stamp : ℕ) → stamp < 2 ^ 62 → HasReplyFrame (Unsure stamp)
framed-unsure stamp small = record { body = omega (arith, small); size = omega arith }

framed-fail : (request : Request) (reply : Reply) (stamp : ℕ) → stamp < 2 ^ 62
    → HasReplyFrame reply → HasReplyFrame (failed_reply request stamp reply)
framed-fail (Put key value) (Full class) stamp small framed = framed
framed-fail (Put key value) reply stamp small framed = framed-unsure stamp small
framed-fail (Get key) reply stamp small framed = record { body = tt; size = omega arith }
framed-fail (Delete key) reply stamp small framed = framed-unsure stamp small
framed-fail Flush reply stamp small framed = framed
framed-fail (After told) reply stamp small framed = framed

-- the replies of a failed batch have frames
pub framed-failed : (requests : List Request) (replies : List Reply) (stamp : ℕ)
    → stamp + length requests ≤ 2 ^ 62 → AllByRecursion HasReplyFrame replies
    → AllByRecursion HasReplyFrame (failed_replies stamp requests replies)
framed-failed [] replies stamp small framed = tt
framed-failed (request ∷ requests) [] stamp small framed = tt
framed-failed (request ∷ requests) (reply ∷ replies) stamp small framed = (
  framed-fail request reply stamp (omega (arith, small)) framed.0,
  framed-failed requests replies (stamp + 1) (omega (arith, small)) framed.1,
)

-- a failed batch has a reply for each request too
pub length-failed : (requests : List Request) (replies : List Reply) (stamp : ℕ)
    → length replies ≡ length requests
    → length (failed_replies stamp requests replies) ≡ length requests
length-failed [] replies stamp same = refl
length-failed (request ∷ requests) [] stamp same = absurd (omega (arith, same))
length-failed (request ∷ requests) (reply ∷ replies) stamp same =
    ap suc (length-failed requests replies (stamp + 1) (omega (arith, same)))

changes-up-to : (changes : List Change) (high : ℕ)
    → AllByRecursion (λ write. write.stamp < high + 1) (writes_of changes) → AreUpTo high changes
changes-up-to changes high below = λ i c is.
    let lt = all-at (λ write. write.stamp < high + 1) (writes_of changes) i (write_of c) below
    (write-at changes i c is) in
    omega (arith, lt)

module _ {D I : Type 0} (d : disks.Ghosts D) (i : indexes.Ghosts I) where
  -- stamps at a store that is still are below each greater bound
  pub below-still : (old new : View D I) (most base bound : ℕ) → IsOpenStore d i old base
      → IsStill d i most old new → base ≤ bound → AreBelow d i new bound
  below-still old new most base bound opened still le = record {
    stamps = λ key entry is.
        let lt = opened.below.stamps key entry
        (subst (λ (all : Entries). finite.get all key ≡ Some entry) still.entries is) in
        omega (arith, lt, le);
    floor = λ tells. floor-raised base bound (d.seen new.disk.disk) le
        (subst (HasFloorBelow base) (sym (still.reads.reads.seen tells))
        (opened.below.floor tells));
  }

  -- what `apply` tells of the store where it is Ok
  pub record IsCarried (old new : View D I) (changes : List Change) : Type 0 where
    pub map_is : IsTrue d.tells → (key : List ℕ) → store_map d i new key
        ≡ answer_after changes key (store_map d i old key)
    pub entries : (key : List ℕ) → HasEntryAfter changes key
        (finite.get (i.entries old.index) key) (finite.get (i.entries new.index) key)
    pub floor : (bound : ℕ) → IsTrue d.tells → AreUpTo bound changes
        → HasFloorUpTo bound (d.seen old.disk.disk) → HasFloorUpTo bound (d.seen new.disk.disk)
    pub limits : new.limits ≡ old.limits

  -- a store that is open behind `apply` carried the changes out
  pub carried-open : {T E : Type 0} (old new : View D I) (changes : List Change)
      (result : Result T E) → OnErr result (new.closed ≡ true) → new.closed ≡ false
      → HasPlan d i old changes
      → OnOk result ((changes : List Change) → HasPlan d i old changes → IsTrue d.tells
      → (key : List ℕ) → store_map d i new key ≡ answer_after changes key (store_map d i old key))
      → OnOk result ((changes : List Change) → HasPlan d i old changes → (key : List ℕ)
      → HasEntryAfter changes key (finite.get (i.entries old.index) key)
      (finite.get (i.entries new.index) key))
      → OnOk result ((changes : List Change) (bound : ℕ) → HasPlan d i old changes
      → IsTrue d.tells → AreUpTo bound changes → HasFloorUpTo bound (d.seen old.disk.disk)
      → HasFloorUpTo bound (d.seen new.disk.disk))
      → new.limits ≡ old.limits → IsCarried old new changes
  carried-open old new changes (Ok value) err open_ plan map_is entries floor limits = record {
    map_is = map_is changes plan;
    entries = entries changes plan;
    floor = λ bound. floor changes bound plan;
    limits = limits;
  }
  carried-open old new changes (Err error) err open_ plan map_is entries floor limits =
      absurd (true≢false (sym err ∙ open_))

  -- it has the changes
  pub carried-changes : (old planned new : View D I) (most : ℕ) (changes : List Change)
      → IsStill d i most old planned → DifferentKeys (writes_of changes)
      → IsCarried planned new changes
      → HasChanges d.tells (start_of d i old) (start_of d i new) (writes_of changes)
  carried-changes old planned new most changes still differ carried =
      subst (λ (s : Start). HasChanges d.tells s (start_of d i new) (writes_of changes))
      (start-still d i most old planned still) (record {
        layout = refl;
        limit = ap (λ l. l.slots) carried.limits;
        value = λ key. changed-value d.tells changes key (store_map d i planned key)
            (store_map d i new key) (finite.get (i.entries planned.index) key)
            (finite.get (i.entries new.index) key) differ (λ tells. carried.map_is tells key)
            (carried.entries key);
        class = λ key. entry-class changes key (finite.get (i.entries planned.index) key)
            (finite.get (i.entries new.index) key) differ (carried.entries key);
      })

  -- its stamps are below the end of the batch's
  pub carried-below : (old planned new : View D I) (most base bound : ℕ) (changes : List Change)
      → IsOpenStore d i old base → IsStill d i most old planned
      → RiseBetween base bound (writes_of changes) → base < bound
      → IsCarried planned new changes → AreBelow d i new bound
  carried-below old planned new most base bound changes opened still rise lt carried =
      let below = RiseBetween-below base bound (writes_of changes) rise in
      let before = below-still old planned most base base opened still (omega arith) in
      record {
        stamps = λ key. entry-below changes key (finite.get (i.entries planned.index) key)
            (finite.get (i.entries new.index) key) bound (carried.entries key) below
            (λ e is. let under = before.stamps key e is in omega (arith, under, lt));
        floor = λ tells. below-up (bound - 1) bound (d.seen new.disk.disk) (omega (arith, lt))
            (carried.floor (bound - 1) tells
            (changes-up-to changes (bound - 1) (All-map (λ write. write.stamp < bound)
            (λ write. write.stamp < bound - 1 + 1) (writes_of changes)
            (λ write under. omega (arith, under)) below))
            (up-below (bound - 1) base (d.seen planned.disk.disk) (omega (arith, lt))
            (before.floor tells)));
      }
