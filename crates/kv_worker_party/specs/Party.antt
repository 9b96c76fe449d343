-- What a worker's party promises of what went through its rings, its stamps, its map and its disk.
use Rattle.std.specs.Prelude.{◌≡◌, ℕ, ◌-◌, ◌<◌, ◌≤◌, List, [], ◌++◌, length, Bool, false}
use Rattle.std.specs.Prelude.{option_to_list, MatchOption, ⊤}
use Rattle.std.specs.List.{AllByRecursion}
use Rattle.kv_base.specs.Crash.{LeavesOnly, MayLeave}
use Rattle.kv_base.specs.Image.{Image}
use Rattle.kv_disk.specs.declared.disk.Disk as disks
use Rattle.kv_index.specs.declared.index.Index as indexes
use Rattle.kv_model.specs.History.{Write}
use Rattle.kv_model.specs.Items.{FollowsHistory}
use Rattle.kv_model.specs.Layout.{all_classes}
use Rattle.kv_model.specs.Pairs.{Pair, stamp_of, writes, unsure_writes}
use Rattle.kv_model.specs.Recovery.{RecoversPrefix}
use Rattle.kv_parties.specs.Messages.{groups_in, answered_in}
use Rattle.kv_parties.specs.Promises.{WorkerData, WorkerPromise}
use Rattle.kv_parties.specs.Causes.{all_writes}
use Rattle.kv_parties.specs.Setting.{Setting}
use Rattle.kv_parties.specs.Workers.{Done, done_pairs}
use Rattle.kv_ring.specs.Ends.{sent_to, received_from}
use Rattle.kv_ring.specs.declared.ends.Ends.{Ends}
use Rattle.kv_ring.specs.declared.message.Answer.{Answer}
use Rattle.kv_ring.specs.declared.message.Ask.{Ask}
use Rattle.kv_stamps.specs.declared.view.Range.{Range}
use Rattle.kv_stamps.specs.declared.view.View.{View}
use Rattle.kv_groups.specs.declared.connection.Connection.{Connection}
use Rattle.kv_groups.specs.Taking.{connection_of}
use Rattle.kv_worker.specs.Worker.{WorkerView, start_of}

-- the answers that were sent to the session, and the one that waits to be sent
abbrev pub answers_to : {F : Type 0} → Ends (Answer F) (Ask F) 8 → List (Connection F) → ℕ
    → List (Answer F)
answers_to ends connections session = sent_to ends session
    ++ option_to_list (connection_of connections session).waiting

-- what all parties serve, as a worker knows it: stamps begin with this one, and a class has at most so
-- many slots
abbrev pub setting_of : Bool → ℕ → ℕ → ℕ → ℕ → Setting
setting_of told start sessions workers slots = record {
  told = told;
  layout = all_classes;
  slots = slots;
  floor = start - 1;
  sessions = sessions;
  workers = workers;
}

-- at each moment between the two disks a crash leaves of each key the value after a prefix of the
-- earlier writes, the acknowledged and the unsure ones, which holds all earlier ones; and at the last
-- one of all acknowledged ones too
pub record LeavesEach {D : Type 0} (d : disks.Ghosts D) (worker workers : ℕ) (first now : D)
    (before : List Write) (pairs : List Pair) : Type 0 where
  pub any_moment : LeavesOnly (d.calls first) (d.calls now) (d.leaves first) (d.leaves now)
      (λ image. RecoversPrefix all_classes (all_writes before pairs) (before ++ []) image worker
      workers)
  pub exit : (image : Image) → MayLeave (d.leaves now (d.calls now)) image
      → RecoversPrefix all_classes (all_writes before pairs) (before ++ writes pairs) image worker
      workers

-- the open worker begins with what these writes left, none of whose stamps is above the floor, and a
-- crash now leaves all of them
pub record BeginsWith {D I : Type 0} (d : disks.Ghosts D) (i : indexes.Ghosts I)
    (worker : WorkerView D I) (before : List Write) (floor : ℕ) : Type 0 where
  pub open_ : worker.store.closed ≡ false
  pub below : AllByRecursion (λ write. write.stamp ≤ floor) before
  pub follows : FollowsHistory d.tells before floor (start_of d i worker.store)
  pub recovers : (image : Image)
      → MayLeave (d.leaves worker.store.disk.disk (d.calls worker.store.disk.disk)) image
      → RecoversPrefix all_classes before before image worker.store.worker worker.store.workers

-- what the worker has beside its ring ends, with these of the gaps that its seat left
abbrev pub data_of : {D I : Type 0} → disks.Ghosts D → indexes.Ghosts I → WorkerView D I
    → WorkerView D I → View → List Range → WorkerData D
data_of d i first now view gaps = record {
  view = record view { gaps = gaps };
  first = first.store.disk.disk;
  now = now.store.disk.disk;
  closed = now.store.closed;
  store = start_of d i now.store;
}

-- the party keeps its promise of what it received and sent, from these writes on, with all gaps of its
-- seat unless the counter was lifted through it from outside; and each group that it took is answered,
-- and all stamps are below what its seat has seen
pub record Holds {D I F : Type 0} (d : disks.Ghosts D) (i : indexes.Ghosts I)
    (start sessions : ℕ) (first now : WorkerView D I) (ends : Ends (Answer F) (Ask F) 8)
    (connections : List (Connection F)) (view : View) (lifted : Bool) (before : List Write) :
    Type 0 where
  pub gaps : List Range
  pub gaps_are : lifted ≡ false → gaps ≡ view.gaps
  pub promise : WorkerPromise d (setting_of d.tells start sessions first.store.workers
      first.store.limits.slots) first.store.worker before (received_from ends)
      (answers_to ends connections) (data_of d i first now view gaps)
  pub paired : (session : ℕ) → session < sessions
      → length (answered_in (answers_to ends connections session))
      ≡ length (groups_in (promise.taken session))
  pub low : AllByRecursion (λ pair. MatchOption (stamp_of pair.reply) ⊤ (λ stamp. stamp < view.seen))
      (done_pairs promise.groups.history)
  pub sure : now.store.closed ≡ false
      → unsure_writes (done_pairs promise.groups.history) ≡ []
  pub leaves : LeavesEach d first.store.worker first.store.workers first.store.disk.disk
      now.store.disk.disk before (done_pairs promise.groups.history)
  pub same : (now.store.worker ≡ first.store.worker)
      × (now.store.workers ≡ first.store.workers) × (now.store.limits ≡ first.store.limits)

-- the promise goes on, with more behind its history, and the counter lifted or not; an image that
-- recovered a prefix of what was answered before does so of all that is answered now, with the same
-- writes acknowledged; and at each moment between the two a crash leaves of each key the value after a
-- prefix of its writes, which holds all that was answered before
pub record GoesOn {D I F : Type 0} (d : disks.Ghosts D) (i : indexes.Ghosts I)
    (start sessions : ℕ) (first old now : WorkerView D I) (ends new : Ends (Answer F) (Ask F) 8)
    (connections after : List (Connection F)) (view later : View) (lifted raised : Bool)
    (before : List Write)
    (h : Holds d i start sessions first old ends connections view lifted before) :
    Type 0 where
  pub holds : Holds d i start sessions first now new after later raised before
  pub more : List Done
  pub longer : holds.promise.groups.history ≡ h.promise.groups.history ++ more
  pub stays : (acknowledged : List Write)
      → AllByRecursion (λ write. write.stamp < view.seen) acknowledged → (image : Image)
      → RecoversPrefix all_classes (all_writes before (done_pairs h.promise.groups.history))
      acknowledged image first.store.worker first.store.workers
      → RecoversPrefix all_classes (all_writes before (done_pairs holds.promise.groups.history))
      acknowledged image first.store.worker first.store.workers
  pub moments : LeavesOnly (d.calls old.store.disk.disk) (d.calls now.store.disk.disk)
      (d.leaves old.store.disk.disk) (d.leaves now.store.disk.disk)
      (λ image. RecoversPrefix all_classes
      (all_writes before (done_pairs holds.promise.groups.history))
      (before ++ writes (done_pairs h.promise.groups.history)) image first.store.worker
      first.store.workers)

-- from whatever promise of these writes stood the promise goes on so
abbrev pub AlwaysGoesOn : {D I F : Type 0} → disks.Ghosts D → indexes.Ghosts I → ℕ → ℕ
    → WorkerView D I → WorkerView D I → WorkerView D I → Ends (Answer F) (Ask F) 8
    → Ends (Answer F) (Ask F) 8 → List (Connection F) → List (Connection F) → View → View → Bool
    → Bool → List Write → Type 0
AlwaysGoesOn d i start sessions first old now ends new connections after view later lifted raised
    before = (h : Holds d i start sessions first old ends connections view lifted before)
    → GoesOn d i start sessions first old now ends new connections after view later lifted raised
    before h
