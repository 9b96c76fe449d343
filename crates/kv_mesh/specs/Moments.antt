-- What a crash leaves while the parties make their turns.
use Rattle.std.specs.Prelude.{◌≡◌, ◌-◌, ◌<◌, ◌≤◌, ℕ, List, ◌++◌, length}
use Rattle.std.specs.List.{AllByRecursion}
use Rattle.kv_base.specs.Crash.{LeavesOnly, MayLeave}
use Rattle.kv_base.specs.Image.{Image}
use Rattle.kv_base.specs.declared.sink.Sink as sinks
use Rattle.kv_base.specs.declared.source.Source as sources
use Rattle.kv_disk.specs.declared.disk.Disk as disks
use Rattle.kv_index.specs.declared.index.Index as indexes
use Rattle.kv_model.specs.History.{Write}
use Rattle.kv_model.specs.Layout.{all_classes}
use Rattle.kv_model.specs.Pairs.{Pair, writes}
use Rattle.kv_model.specs.Recovery.{RecoversPrefix}
use Rattle.kv_parties.specs.Begun.{all_before}
use Rattle.kv_parties.specs.Causes.{all_writes}
use Rattle.kv_parties.specs.Recovered.{Recovers}
use Rattle.kv_parties.specs.Workers.{done_pairs}
use Rattle.kv_ring.specs.Ends.{peers}
use Rattle.kv_session_party.specs.declared.party.SessionParty.{SessionParty}
use Rattle.kv_worker_party.specs.Party.{BeginsWith, Holds}
use Rattle.kv_worker_party.specs.declared.party.WorkerParty.{WorkerParty}
use Rattle.kv_mesh.specs.Linked.{setting_for}
use Rattle.kv_mesh.specs.Places.{IsAt}
use Rattle.kv_mesh.specs.Standing.{answered_pairs}

module _ {D I F : Type 0} {d : disks.Ghosts D} {i : indexes.Ghosts I} where
  -- from these writes on the worker keeps its promise, and it answered these pairs
  pub record HoldsWith (party : WorkerParty D I F d i) (before : List Write) (pairs : List Pair) :
      Type 0 where
    pub holds : Holds d i party.seat.view.start (peers party.ends) party.first.value party.worker
        party.ends party.connections.items party.seat.view party.lifted before
    pub pairs_are : done_pairs holds.promise.groups.history ≡ pairs

  -- the promise went on, with more pairs; an image that recovered a prefix of what had been answered
  -- does so of all that is answered, with the same writes acknowledged; and at each moment between the
  -- two a crash leaves a prefix that holds all that had been answered
  pub record WentOn (old new : WorkerParty D I F d i) (before : List Write) (pairs : List Pair) :
      Type 0 where
    pub more : List Pair
    pub holds : HoldsWith new before (pairs ++ more)
    pub stays : (acknowledged : List Write)
        → AllByRecursion (λ write. write.stamp < old.seat.view.seen) acknowledged
        → (image : Image) → RecoversPrefix all_classes (all_writes before pairs) acknowledged image
        old.first.value.store.worker old.first.value.store.workers
        → RecoversPrefix all_classes (all_writes before (pairs ++ more)) acknowledged image
        old.first.value.store.worker old.first.value.store.workers
    pub moments : LeavesOnly (d.calls old.worker.store.disk.disk)
        (d.calls new.worker.store.disk.disk) (d.leaves old.worker.store.disk.disk)
        (d.leaves new.worker.store.disk.disk) (λ image. RecoversPrefix all_classes
        (all_writes before (pairs ++ more)) (before ++ writes pairs) image
        old.first.value.store.worker old.first.value.store.workers)

  -- this is what the worker became: from whatever promise stood it went on
  pub record Becomes (old new : WorkerParty D I F d i) : Type 0 where
    pub first : new.first.value ≡ old.first.value
    pub start : new.seat.view.start ≡ old.seat.view.start
    pub up : old.seat.view.seen ≤ new.seat.view.seen
    pub goes : (before : List Write)
        → BeginsWith d i old.first.value before (old.seat.view.start - 1) → (pairs : List Pair)
        → HoldsWith old before pairs → WentOn old new before pairs

module _ {So Si D I F : Type 0} {so : sources.Ghosts So} {si : sinks.Ghosts Si}
    {d : disks.Ghosts D} {i : indexes.Ghosts I} where
  -- at each moment from the worker's disk as it was to the disk as it is, a crash leaves a prefix of
  -- all writes that holds the earlier ones and all that had been answered
  abbrev pub LeavePrefixes : List (WorkerParty D I F d i) → List (SessionParty So Si F so si) → ℕ
      → (ℕ → List Write) → List (WorkerParty D I F d i) → Type 0
  LeavePrefixes workers sessions start before now = (worker : ℕ)
      (old new : WorkerParty D I F d i) → IsAt workers worker old → IsAt now worker new
      → (moment : ℕ) → d.calls old.worker.store.disk.disk ≤ moment
      → moment ≤ d.calls new.worker.store.disk.disk → (image : Image)
      → MayLeave (d.leaves new.worker.store.disk.disk moment) image
      → Recovers (setting_for workers sessions start) worker image
      (all_before (setting_for workers sessions start) before)
      (answered_pairs workers (length sessions)) (answered_pairs now (length sessions))
