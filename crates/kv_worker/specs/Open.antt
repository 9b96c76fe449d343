-- An open store that a batch finds, and what a batch found out before anything is written.
use Rattle.std.specs.Prelude.{◌≡◌, ℕ, ◌+◌, ◌-◌, ◌≤◌, ◌<◌, ◌^◌, List, [], length, map, count_by, Some}
use Rattle.std.specs.Prelude.{Bool, false, IsTrue, Result, IfOk, Vec}
use Rattle.std.specs.declared.alloc.Global.{Global}
use Rattle.std.specs.List.{AllByRecursion}
use Rattle.std.specs.FinMap as finite
use Rattle.kv_base.specs.Crash.{MayLeave, Only}
use Rattle.kv_base.specs.Image.{Image}
use Rattle.kv_base.specs.Limits.{AreLimits}
use Rattle.kv_base.specs.declared.reply.Reply.{Reply}
use Rattle.kv_base.specs.declared.request.Request.{Request}
use Rattle.kv_disk.specs.declared.disk.Disk as disks
use Rattle.kv_index.specs.declared.entry.Entry.{Entry}
use Rattle.kv_index.specs.declared.index.Index as indexes
use Rattle.kv_model.specs.Agreement.{told_of}
use Rattle.kv_model.specs.Batch.{Start, answers, takes_slot}
use Rattle.kv_model.specs.Frames.{HasReplyFrame}
use Rattle.kv_model.specs.Head.{IsWorker}
use Rattle.kv_slab.specs.Floor.{HasFloorBelow}
use Rattle.kv_slab.specs.View.{IsOfWorker, KeepsMap, View, store_map}
use Rattle.kv_ring.specs.declared.task.Task.{Task}
use Rattle.kv_slab.specs.declared.change.Change.{Change}
use Rattle.kv_slab.specs.declared.fault.StepFault.{StepFault}
use Rattle.kv_worker.specs.Batches.{IsOpenTask, requests_in}
use Rattle.kv_worker.specs.Course.{AreClassed}
use Rattle.kv_worker.specs.Net.{writes_of}
use Rattle.kv_worker.specs.Reads.{IsReady}
use Rattle.kv_worker.specs.Refusals.{replies_by}
use Rattle.kv_worker.specs.Steps.{Steps, net_of}
use Rattle.kv_worker.specs.Worker.{start_of}

-- each entry has a stamp below the bound, and so has each head of a page where the disk tells what
-- it reads
pub record AreBelow {D I : Type 0} (d : disks.Ghosts D) (i : indexes.Ghosts I) (store : View D I)
    (bound : ℕ) : Type 0 where
  pub stamps : (key : List ℕ) (entry : Entry)
      → finite.get (i.entries store.index) key ≡ Some entry → entry.stamp < bound
  pub floor : IsTrue d.tells → HasFloorBelow bound (d.seen store.disk.disk)

-- nothing is pending, and the image keeps the map
pub record IsSettled {D I : Type 0} (d : disks.Ghosts D) (i : indexes.Ghosts I) (store : View D I) :
    Type 0 where
  pub only : Only (d.seen store.disk.disk) (d.leaves store.disk.disk (d.calls store.disk.disk))
  pub keeps : IsTrue d.tells → KeepsMap (d.seen store.disk.disk) (store_map d i store) store.worker
      store.workers
  pub of_worker : (image : Image)
      → MayLeave (d.leaves store.disk.disk (d.calls store.disk.disk)) image
      → IsOfWorker store.worker store.workers image

-- the store of a worker, open, with stamps below the first one of a batch
pub record IsOpenStore {D I : Type 0} (d : disks.Ghosts D) (i : indexes.Ghosts I)
    (store : View D I) (base : ℕ) : Type 0 where
  pub ready : IsReady i store
  pub worker_is : IsWorker store.worker store.workers
  pub limits : AreLimits store.limits
  pub kept : AreClassed (start_of d i store)
  pub settled : IsSettled d i store
  pub below : AreBelow d i store base

-- these are the answers, as far as they are told, and the net changes, for which there is room
pub record ArePrepared (told : Bool) (start : Start) (requests : List Request) (base : ℕ)
    (replies : List Reply) (changes : List Change) : Type 0 where
  pub answers_are : map (told_of told) replies ≡ map (told_of told) (answers start [] base requests)
  pub framed : AllByRecursion HasReplyFrame replies
  pub changes_are : writes_of changes ≡ net_of start base requests
  pub room : (class : ℕ) → 1 ≤ class → class ≤ 11
      → count_by (takes_slot start class) (net_of start base requests)
      ≤ start.limit - start.items class

-- tasks of this worker at its open store, 512 at most, with stamps from the base on
pub record IsBatch {D I : Type 0} (d : disks.Ghosts D) (i : indexes.Ghosts I) (old : View D I)
    (tasks : List (ℕ × Task)) (base : ℕ) : Type 0 where
  pub opened : IsOpenStore d i old base
  pub own : AllByRecursion (IsOpenTask old.worker old.workers) tasks
  pub few : length tasks ≤ 512
  pub first : 1 ≤ base
  pub last : base + length tasks ≤ 2 ^ 62

-- a step over the tasks was made, and there is a reply for each; at an open store the stamps are
-- below the batch's end
pub record IsRun {D I : Type 0} (d : disks.Ghosts D) (i : indexes.Ghosts I) (old new : View D I)
    (tasks : List (ℕ × Task)) (base : ℕ) (result : Result (Vec Reply Global) StepFault) :
    Type 0 where
  pub steps : Steps d i (record { store = old; highest = base - 1 })
      (record { store = new; highest = base + length tasks - 1 }) (requests_in tasks) base
      (replies_by result (requests_in tasks))
  pub many : IfOk result (λ replies. length replies.items ≡ length tasks)
  pub below : new.closed ≡ false → AreBelow d i new (base + length tasks)
