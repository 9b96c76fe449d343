-- What becomes of a turn's batch: its replies, and what its stamps leave in the seat's view.
use Rattle.std.specs.Prelude.{◌≡◌, ◌⊎◌, ℕ, ◌+◌, ◌^◌, ◌<◌, ◌≤◌, List, [], length, map, Some, true, false}
use Rattle.kv_base.specs.declared.reply.Reply.{Reply}
use Rattle.kv_base.specs.declared.reply.Reply.TheVariants.{Closed, StampsSpent}
use Rattle.kv_base.specs.declared.request.Request.{Request}
use Rattle.kv_disk.specs.declared.disk.Disk as disks
use Rattle.kv_index.specs.declared.index.Index as indexes
use Rattle.kv_stamps.specs.Seats.{first_spent}
use Rattle.kv_stamps.specs.Steps.{Raises, Draws, Spends}
use Rattle.kv_stamps.specs.declared.view.View.{View}
use Rattle.kv_worker.specs.Steps.{Steps}
use Rattle.kv_worker.specs.Worker.{WorkerView}

-- the counter was raised above what was seen, and then so many stamps were drawn from the base on
pub record HasDrawn (seen count base : ℕ) (old new : View) : Type 0 where
  pub between : View
  pub found : ℕ
  pub raises : Raises (seen + 1) old found between
  pub draws : Draws count between base new

-- the counter was raised so, and no stamps were left from the number on, now or at an earlier draw
pub record HasMet (seen count number : ℕ) (old new : View) : Type 0 where
  pub between : View
  pub found : ℕ
  pub raises : Raises (seen + 1) old found between
  pub spends : ((first_spent between.spent ≡ Some number) × (new ≡ between))
      ⊎ ((between.spent ≡ []) × Spends count between number new)
  pub limit : 2 ^ 62 < number + 512

module _ {D I : Type 0} (d : disks.Ghosts D) (i : indexes.Ghosts I) where
  -- a batch without a task: nothing is done
  pub record IsIdle (old new : WorkerView D I) (view later : View) (requests : List Request)
      (replies : List Reply) : Type 0 where
    pub none : requests ≡ []
    pub replies_are : replies ≡ []
    pub worker : new ≡ old
    pub view_is : later ≡ view

  -- a batch at a closed worker
  pub record IsClosed (old new : WorkerView D I) (view later : View) (requests : List Request)
      (replies : List Reply) : Type 0 where
    pub some : 1 ≤ length requests
    pub closed : old.store.closed ≡ true
    pub replies_are : replies ≡ map (λ _. Closed) requests
    pub worker : new ≡ old
    pub view_is : later ≡ view

  -- a batch for which no stamps are left, or for an earlier one none were
  pub record IsSpent (old new : WorkerView D I) (view later : View) (seen : ℕ)
      (requests : List Request) (replies : List Reply) : Type 0 where
    pub some : 1 ≤ length requests
    pub open_ : old.store.closed ≡ false
    pub number : ℕ
    pub met : HasMet seen (length requests) number view later
    pub replies_are : replies ≡ map (λ _. StampsSpent number) requests
    pub worker : new ≡ old

  -- a batch that the worker answers, with stamps above what was seen
  pub record IsStepped (old new : WorkerView D I) (view later : View) (seen : ℕ)
      (requests : List Request) (replies : List Reply) : Type 0 where
    pub some : 1 ≤ length requests
    pub open_ : old.store.closed ≡ false
    pub base : ℕ
    pub drawn : HasDrawn seen (length requests) base view later
    pub steps : Steps d i old new requests base replies

  -- one of four ways
  abbrev pub HasServed : WorkerView D I → WorkerView D I → View → View → ℕ → List Request
      → List Reply → Type 0
  HasServed old new view later seen requests replies = IsIdle old new view later requests replies
      ⊎ (IsClosed old new view later requests replies
      ⊎ (IsSpent old new view later seen requests replies
      ⊎ IsStepped old new view later seen requests replies))
