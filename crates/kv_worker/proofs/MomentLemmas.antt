-- What a crash leaves of a store while a batch is answered and written.
use Rattle.std.proofs.Common.{◌≡◌, ℕ, ◌+◌, ◌-◌, ◌*◌, ◌≤◌, ◌<◌, Bool, true, false, IsTrue, List, [], ◌∷◌}
use Rattle.std.proofs.Common.{◌++◌, Option, None, Some, option_map, ◌⊎◌, inl, inr, refl, sym, ap, ◌∙◌}
use Rattle.std.proofs.Common.{subst, length, arith, true≢false}
use Rattle.std.specs.FinMap as finite
use Rattle.std.specs.List.{AllByRecursion}
use Rattle.kv_base.specs.Crash.{Choices, LeavesOnly, MayLeave}
use Rattle.kv_base.specs.Image.{Image}
use Rattle.kv_base.specs.declared.request.Request.{Request}
use Rattle.kv_base.proofs.CrashLemmas.{joins}
use Rattle.kv_base.proofs.ImageLemmas.{only_image}
use Rattle.kv_disk.specs.declared.disk.Disk as disks
use Rattle.kv_index.specs.declared.entry.Entry.{Entry}
use Rattle.kv_index.specs.declared.index.Index as indexes
use Rattle.kv_model.specs.Batch.{Start, last_write, value_or}
use Rattle.kv_model.specs.Head.{IsWorker}
use Rattle.kv_model.specs.History.{Write, value_at}
use Rattle.kv_model.specs.Items.{FollowsHistory}
use Rattle.kv_model.specs.Layout.{all_classes}
use Rattle.kv_model.specs.Reading.{Gives, slot_at}
use Rattle.kv_model.specs.Recovery.{GivesValue, RecoversPrefix}
use Rattle.kv_model.proofs.NetLemmas.{DifferentKeys}
use Rattle.kv_slab.specs.Given.{Answer}
use Rattle.kv_slab.specs.Moves.{answer_after}
use Rattle.kv_slab.specs.View.{IsOfWorker, OldOrNewMap, View, store_map}
use Rattle.kv_slab.specs.declared.change.Change.{Change}
use Rattle.kv_slab.proofs.RunLemmas.{weaker_left}
use Rattle.kv_worker.specs.Net.{writes_of}
use Rattle.kv_worker.specs.Open.{IsOpenStore, IsSettled}
use Rattle.kv_worker.specs.Steps.{net_of}
use Rattle.kv_worker.specs.Worker.{start_of, value_told}
use Rattle.kv_worker.proofs.ChangedLemmas.{answer-last, given_value}
use Rattle.kv_worker.proofs.RecoverLemmas.{HasOldOrNew, IsOldOrNew, gives-value, holds-all, opens-as}
use Rattle.kv_worker.proofs.RecoverLemmas.{same-told}
use Rattle.kv_worker.proofs.StillLemmas.{IsStill, map-still}

-- the law of disks: what a crash may leave at some moment is told
abbrev pub IsToldDisk : {D : Type 0} → disks.Ghosts D → Type 0
IsToldDisk {D} d = (disk : D) (t f p : ℕ) (c : List ℕ) → d.leaves disk t f p c → IsTrue d.tells
    × MayLeave (d.leaves disk (d.calls disk)) (d.seen disk)

-- what is told of an answer is its value
pub told-value : (tells : Bool) (answer : Answer) (entry : Option Entry) → IsTrue tells
    → value_told tells answer entry ≡ option_map given_value answer
told-value true answer entry tells = refl
told-value false answer entry tells = absurd (true≢false (sym tells))

module _ {D I : Type 0} (d : disks.Ghosts D) (i : indexes.Ghosts I) where
  -- an image that a crash leaves of a settled store gives each key its value
  pub settled-gives : (store : View D I) → IsSettled d i store → IsTrue d.tells → (image : Image)
      → MayLeave (d.leaves store.disk.disk (d.calls store.disk.disk)) image → (key : List ℕ)
      → GivesValue (slot_at all_classes image) store.worker store.workers key
      ((start_of d i store).value key)
  settled-gives store settled tells image left key =
      subst (λ (im : Image). GivesValue (slot_at all_classes im) store.worker store.workers key
      ((start_of d i store).value key))
      (sym (only_image (d.seen store.disk.disk)
      (d.leaves store.disk.disk (d.calls store.disk.disk)) image settled.only left))
      (subst (GivesValue (slot_at all_classes (d.seen store.disk.disk)) store.worker store.workers
      key) (sym (told-value d.tells (store_map d i store key)
      (finite.get (i.entries store.index) key) tells))
      (gives-value (slot_at all_classes (d.seen store.disk.disk)) store.worker store.workers key
      (store_map d i store key) ((settled.keeps tells).gives key)))

  -- it is as before the batch
  pub settled-image : (store : View D I) (base : ℕ) (requests : List Request)
      → IsOpenStore d i store base → IsTrue d.tells → (image : Image)
      → MayLeave (d.leaves store.disk.disk (d.calls store.disk.disk)) image
      → IsOldOrNew (start_of d i store) base requests store.worker store.workers image
  settled-image store base requests opened tells image left = record {
    opens = opens-as store.worker store.workers image opened.worker_is
        (opened.settled.of_worker image left);
    each = λ key. record {
      value = (start_of d i store).value key;
      gives = settled-gives store opened.settled tells image left key;
      is = inl refl;
    };
  }

  -- it recovers all writes of a history that the store follows
  pub settled-recovers : (store : View D I) (history : List Write) (stamp : ℕ)
      → IsWorker store.worker store.workers → IsSettled d i store
      → FollowsHistory d.tells history stamp (start_of d i store)
      → AllByRecursion (λ write. write.stamp ≤ stamp) history → IsTrue d.tells → (image : Image)
      → MayLeave (d.leaves store.disk.disk (d.calls store.disk.disk)) image
      → RecoversPrefix all_classes history history image store.worker store.workers
  settled-recovers store history stamp is settled follows up tells image left = record {
    opens = opens-as store.worker store.workers image is (settled.of_worker image left);
    prefix = λ key owned. (
      stamp,
      holds-all history key stamp up,
      subst (GivesValue (slot_at all_classes image) store.worker store.workers key)
          (same-told d.tells ((start_of d i store).value key) (value_at history stamp key)
          (follows.value key) tells) (settled-gives store settled tells image left key),
    );
  }

  -- while a store is only read, a crash leaves what has P, where each image as before has it
  pub still-moments : (told : IsToldDisk d) (old new : View D I) (most base : ℕ)
      (requests : List Request) (P : Image → Type 0) → IsOpenStore d i old base
      → IsStill d i most old new
      → ((image : Image) → IsTrue d.tells
      → IsOldOrNew (start_of d i old) base requests old.worker old.workers image → P image)
      → LeavesOnly (d.calls old.disk.disk) (d.calls new.disk.disk) (d.leaves old.disk.disk)
      (d.leaves new.disk.disk) P
  still-moments told old new most base requests P opened still so =
      weaker_left (d.calls old.disk.disk) (d.calls new.disk.disk) (d.leaves old.disk.disk)
      (d.leaves new.disk.disk) (MayLeave (d.leaves old.disk.disk (d.calls old.disk.disk))) P
      still.reads.reads.any_moment (λ t image left before.
      let tells = (told new.disk.disk t 0 0 (image 0 0) (left 0 0)).0 in
      so image tells (settled-image old base requests opened tells image before))

  -- what `apply` tells of the disk, whatever it answers
  pub record IsApplied (old new : View D I) (changes : List Change) : Type 0 where
    pub any_moment : LeavesOnly (d.calls old.disk.disk) (d.calls new.disk.disk)
        (d.leaves old.disk.disk) (d.leaves new.disk.disk)
        (OldOrNewMap (store_map d i old) changes old.worker old.workers)
    pub of_worker : LeavesOnly (d.calls old.disk.disk) (d.calls new.disk.disk)
        (d.leaves old.disk.disk) (d.leaves new.disk.disk) (IsOfWorker old.worker old.workers)
    pub kept : (new.worker ≡ old.worker) × (new.workers ≡ old.workers)
        × (new.limits ≡ old.limits)
    pub count : d.calls new.disk.disk ≤ d.calls old.disk.disk + 17 * length changes + 2

  -- an image that gives each key its old or its new answer is as before the batch or behind it
  applied-image : (old planned : View D I) (most base : ℕ) (requests : List Request)
      (changes : List Change) → IsOpenStore d i old base → IsStill d i most old planned
      → DifferentKeys (writes_of changes)
      → writes_of changes ≡ net_of (start_of d i old) base requests → IsTrue d.tells
      → (image : Image) → OldOrNewMap (store_map d i planned) changes old.worker old.workers image
      → IsOfWorker old.worker old.workers image
      → IsOldOrNew (start_of d i old) base requests old.worker old.workers image
  applied-image old planned most base requests changes opened still differ changes_are tells image
      either of_worker =
      let start : Start = start_of d i old in
      let net : List Write = net_of start base requests in
      let map_is : (key : List ℕ) → store_map d i planned key ≡ store_map d i old key =
      λ key. ap (λ (m : List ℕ → Answer). m key) (map-still d i most old planned still tells) in
      let value_is : (key : List ℕ) → option_map given_value (store_map d i planned key)
      ≡ start.value key = λ key. ap (option_map given_value) (map_is key)
      ∙ sym (told-value d.tells (store_map d i old key) (finite.get (i.entries old.index) key)
      tells) in
      record {
        opens = opens-as old.worker old.workers image opened.worker_is of_worker;
        each = λ key. elim (either key) as (λ _. HasOldOrNew start base requests
            (slot_at all_classes image) old.worker old.workers key) [
              | inl gives ↦ record {
                value = start.value key;
                gives = subst (GivesValue (slot_at all_classes image) old.worker old.workers key)
                    (value_is key) (gives-value (slot_at all_classes image) old.worker old.workers key
                    (store_map d i planned key) gives);
                is = inl refl;
              }
              | inr gives ↦ record {
                value = option_map given_value
                    (answer_after changes key (store_map d i planned key));
                gives = gives-value (slot_at all_classes image) old.worker old.workers key
                    (answer_after changes key (store_map d i planned key)) gives;
                is = inr (answer-last changes key (store_map d i planned key) differ
                    ∙ ap (λ v. value_or (last_write (writes_of changes) key) v) (value_is key)
                    ∙ ap (λ (ws : List Write). value_or (last_write ws key) (start.value key))
                    changes_are);
              }
            ];
      }

  -- while changes are written, a crash leaves what has P, where each image as before the batch or
  -- behind it has it
  applied-moments : (told : IsToldDisk d) (old planned new : View D I) (most base : ℕ)
      (requests : List Request) (changes : List Change) (P : Image → Type 0)
      → IsOpenStore d i old base → IsStill d i most old planned
      → DifferentKeys (writes_of changes)
      → writes_of changes ≡ net_of (start_of d i old) base requests
      → IsApplied planned new changes
      → ((image : Image) → IsTrue d.tells
      → IsOldOrNew (start_of d i old) base requests old.worker old.workers image → P image)
      → LeavesOnly (d.calls planned.disk.disk) (d.calls new.disk.disk) (d.leaves planned.disk.disk)
      (d.leaves new.disk.disk) P
  applied-moments told old planned new most base requests changes P opened still differ changes_are
      applied so =
      let worker : planned.worker ≡ old.worker = ap (λ (v : View D I). v.worker) still.rest in
      let workers : planned.workers ≡ old.workers = ap (λ (v : View D I). v.workers) still.rest in
      record {
        later = applied.any_moment.later;
        each = λ t above below image left.
            let tells = (told new.disk.disk t 0 0 (image 0 0) (left 0 0)).0 in
            so image tells (applied-image old planned most base requests changes opened still differ
            changes_are tells image
            (subst (λ w. OldOrNewMap (store_map d i planned) changes w old.workers image) worker
            (subst (λ n. OldOrNewMap (store_map d i planned) changes planned.worker n image) workers
            (applied.any_moment.each t above below image left)))
            (subst (λ w. IsOfWorker w old.workers image) worker
            (subst (λ n. IsOfWorker planned.worker n image) workers
            (applied.of_worker.each t above below image left))));
        before = applied.any_moment.before;
      }

  -- at every moment of a batch a crash leaves what has P
  pub batch-moments : (told : IsToldDisk d) (old planned new : View D I) (most base : ℕ)
      (requests : List Request) (changes : List Change) (P : Image → Type 0)
      → IsOpenStore d i old base → IsStill d i most old planned
      → DifferentKeys (writes_of changes)
      → writes_of changes ≡ net_of (start_of d i old) base requests
      → IsApplied planned new changes
      → ((image : Image) → IsTrue d.tells
      → IsOldOrNew (start_of d i old) base requests old.worker old.workers image → P image)
      → LeavesOnly (d.calls old.disk.disk) (d.calls new.disk.disk) (d.leaves old.disk.disk)
      (d.leaves new.disk.disk) P
  batch-moments told old planned new most base requests changes P opened still differ changes_are
      applied so =
      joins (d.calls old.disk.disk) (d.calls planned.disk.disk) (d.calls new.disk.disk)
      (d.leaves old.disk.disk) (d.leaves planned.disk.disk) (d.leaves new.disk.disk) P
      (still-moments told old planned most base requests P opened still so)
      (applied-moments told old planned new most base requests changes P opened still differ
      changes_are applied so)
