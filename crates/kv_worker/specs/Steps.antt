-- What a worker's step over a batch does.
use Rattle.std.specs.Prelude.{◌≡◌, ◌≢◌, ◌⊎◌, ℕ, ◌+◌, ◌-◌, ◌*◌, ◌<◌, ◌≤◌, List, [], ◌++◌, length}
use Rattle.std.specs.Prelude.{map}
use Rattle.std.specs.Prelude.{true, false}
use Rattle.std.specs.List.{AllByRecursion}
use Rattle.kv_base.specs.Calls.{next_count}
use Rattle.kv_base.specs.Crash.{LeavesOnly, MayLeave}
use Rattle.kv_base.specs.Image.{Image}
use Rattle.kv_base.specs.declared.reply.Reply.{Reply}
use Rattle.kv_base.specs.declared.reply.Reply.TheVariants.{NoMemory, DiskFault}
use Rattle.kv_base.specs.declared.request.Request.{Request}
use Rattle.kv_disk.specs.Steps.{OnlyReads}
use Rattle.kv_disk.specs.declared.disk.Disk as disks
use Rattle.kv_index.specs.declared.index.Index as indexes
use Rattle.kv_model.specs.Agreement.{told_of}
use Rattle.kv_model.specs.Batch.{Start, answers, accepted_writes, net, failed_replies}
use Rattle.kv_model.specs.BatchLaws.{pairs_of}
use Rattle.kv_model.specs.Frames.{HasReplyFrame}
use Rattle.kv_model.specs.History.{Write}
use Rattle.kv_model.specs.Items.{FollowsHistory, HasChanges}
use Rattle.kv_model.specs.Layout.{all_classes}
use Rattle.kv_model.specs.Pairs.{writes, unsure_writes}
use Rattle.kv_model.specs.Recovery.{RecoversPrefix}
use Rattle.kv_slab.specs.View.{View}
use Rattle.kv_worker.specs.Worker.{WorkerView, start_of}

-- of each key the last write that the batch accepts, but none for a key without a value before and
-- after
abbrev pub net_of : Start → ℕ → List Request → List Write
net_of start base requests = net start (accepted_writes start [] base requests)

-- the step is done: the replies are the plain map's, and the store has the net changes; no fault was
-- passed over, and where there are no changes nothing was written and nothing synced
pub record IsDone {D I : Type 0} (d : disks.Ghosts D) (i : indexes.Ghosts I) (old new : View D I)
    (requests : List Request) (base : ℕ) (replies : List Reply) : Type 0 where
  pub replies_are : map (told_of d.tells) replies
      ≡ map (told_of d.tells) (answers (start_of d i old) [] base requests)
  pub changed : HasChanges d.tells (start_of d i old) (start_of d i new)
      (net_of (start_of d i old) base requests)
  pub open_ : new.closed ≡ false
  pub calm : d.faults new.disk.disk ≡ d.faults old.disk.disk
  pub looks : net_of (start_of d i old) base requests ≡ []
      → OnlyReads d old.disk.disk new.disk.disk

-- one reply refuses the whole batch: want of memory, or a read that failed and is counted
abbrev pub HasRefusal : Reply → ℕ → ℕ → Type 0
HasRefusal reply before now = ((reply ≡ NoMemory) × (now ≡ before))
    ⊎ ((reply ≡ DiskFault) × (now ≡ next_count before))

-- the whole batch is refused, and the store is as before
pub record IsRefused {D I : Type 0} (d : disks.Ghosts D) (i : indexes.Ghosts I) (old new : View D I)
    (requests : List Request) (replies : List Reply) : Type 0 where
  pub reply : Reply
  pub replies_are : replies ≡ map (λ _. reply) requests
  pub cause : HasRefusal reply (d.faults old.disk.disk) (d.faults new.disk.disk)
  pub kept : new ≡ record old { disk = new.disk; index = new.index; plan = new.plan }
  pub entries : i.entries new.index ≡ i.entries old.index
  pub reads : OnlyReads d old.disk.disk new.disk.disk
  pub same : HasChanges d.tells (start_of d i old) (start_of d i new) []

-- a write or a sync failed: each Put and Delete that isn't Full is Unsure, each Get DiskFault, and
-- the store is closed
pub record HasFailed {D I : Type 0} (d : disks.Ghosts D) (i : indexes.Ghosts I) (old new : View D I)
    (requests : List Request) (base : ℕ) (replies : List Reply) : Type 0 where
  pub replies_are : replies
      ≡ failed_replies base requests (answers (start_of d i old) [] base requests)
  pub changes : net_of (start_of d i old) base requests ≢ []
  pub closed : new.closed ≡ true
  pub counted : d.faults new.disk.disk ≡ next_count (d.faults old.disk.disk)

-- one of three ways
abbrev pub HasOutcome : {D I : Type 0} → disks.Ghosts D → indexes.Ghosts I → View D I → View D I
    → List Request → ℕ → List Reply → Type 0
HasOutcome d i old new requests base replies = IsDone d i old new requests base replies
    ⊎ (IsRefused d i old new requests replies ⊎ HasFailed d i old new requests base replies)

-- the store follows this history, whose stamps are below the batch's first one
pub record Continues {D I : Type 0} (d : disks.Ghosts D) (i : indexes.Ghosts I) (store : View D I)
    (base : ℕ) (history : List Write) : Type 0 where
  pub follows : FollowsHistory d.tells history (base - 1) (start_of d i store)
  pub below : AllByRecursion (λ write. write.stamp < base) history

-- what an open worker's step over a batch does
pub record Steps {D I : Type 0} (d : disks.Ghosts D) (i : indexes.Ghosts I) (old new : WorkerView D I)
    (requests : List Request) (base : ℕ) (replies : List Reply) : Type 0 where
  pub outcome : HasOutcome d i old.store new.store requests base replies
  pub framed : AllByRecursion HasReplyFrame replies
  pub highest : new.highest + 1 ≡ base + length requests
  pub kept : (new.store.worker ≡ old.store.worker) × (new.store.workers ≡ old.store.workers)
      × (new.store.limits ≡ old.store.limits)
  pub calls : d.calls new.store.disk.disk
      ≤ d.calls old.store.disk.disk + 36 * length requests + 2
  -- at every moment a crash leaves of each key the value after a prefix of its writes, which holds
  -- all that were there before
  pub any_moment : (history : List Write) → Continues d i old.store base history
      → LeavesOnly (d.calls old.store.disk.disk) (d.calls new.store.disk.disk)
      (d.leaves old.store.disk.disk) (d.leaves new.store.disk.disk)
      (λ image. RecoversPrefix all_classes (history ++ writes (pairs_of requests replies)
      ++ unsure_writes (pairs_of requests replies)) history image old.store.worker old.store.workers)
  -- afterwards, unless the store is closed, it leaves all that was answered Stored or Removed
  pub durable : (history : List Write) → Continues d i old.store base history
      → new.store.closed ≡ false → (image : Image)
      → MayLeave (d.leaves new.store.disk.disk (d.calls new.store.disk.disk)) image
      → RecoversPrefix all_classes (history ++ writes (pairs_of requests replies))
      (history ++ writes (pairs_of requests replies)) image old.store.worker old.store.workers
