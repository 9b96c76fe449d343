-- What all sessions and disks of a store owe together, from its opening to the end of all sessions.
use Rattle.std.specs.Prelude.{◌≡◌, ◌<◌, ℕ, List, [], slice_get, Some}
use Rattle.std.specs.List.{AllByRecursion}
use Rattle.kv_base.specs.Crash.{LeavesOnly, MayLeave}
use Rattle.kv_base.specs.Image.{Image}
use Rattle.kv_base.specs.declared.limits.Limits.{Limits}
use Rattle.kv_disk.specs.declared.disk.Disk.{Ghosts}
use Rattle.kv_mesh.specs.Refusals.{IsSpentBy, RefusesForCause, count_keyed}
use Rattle.kv_mesh.specs.Served.{pairs_of_all}
use Rattle.kv_model.specs.Agreement.{AgreesWithMap}
use Rattle.kv_model.specs.History.{Write}
use Rattle.kv_model.specs.Layout.{all_classes}
use Rattle.kv_model.specs.Order.{RespectsOrder, TellsCounter}
use Rattle.kv_model.specs.Pairs.{Pair, noted_stamps}
use Rattle.kv_parties.specs.Begun.{all_before}
use Rattle.kv_parties.specs.Causes.{any_unsure}
use Rattle.kv_parties.specs.Recovered.{Recovers}
use Rattle.kv_parties.specs.Sessions.{greatest}
use Rattle.kv_parties.specs.Setting.{Setting, owned_pairs}

-- what is served: disks with these limits, with stamps above the floor, by so many workers to so many
-- sessions
abbrev pub setting_with : {D : Type 0} → Ghosts D → Limits → ℕ → ℕ → ℕ → Setting
setting_with d limits floor sessions workers = record {
  told = d.tells;
  layout = all_classes;
  slots = limits.slots;
  floor = floor;
  sessions = sessions;
  workers = workers;
}

-- the replies to all sessions are those of one plain map that began with the earlier writes; each
-- session's stamps are in its order; each number of the counter that it was told is above the floor
-- and all that it had seen; and each refusal has its cause
pub record HasAnswers {D : Type 0} (d : Ghosts D) (setting : Setting) (before : ℕ → List Write)
    (olds news : List D) (groups : ℕ → List (List Pair)) : Type 0 where
  pub agrees : AgreesWithMap setting.told setting.layout (all_before setting before) setting.floor
      (pairs_of_all setting.sessions groups)
  pub ordered : (session : ℕ) → session < setting.sessions → RespectsOrder (groups session)
  pub counter : (session : ℕ) → session < setting.sessions
      → TellsCounter setting.floor (groups session)
  pub causes : (worker : ℕ) (old new : D) → slice_get olds worker ≡ Some old
      → slice_get news worker ≡ Some new
      → RefusesForCause setting worker (all_before setting before) (d.faults old) (d.faults new)
      (any_unsure (owned_pairs setting.workers worker (pairs_of_all setting.sessions groups)))
      (pairs_of_all setting.sessions groups)
  pub spent : AllByRecursion (IsSpentBy
      (greatest setting.floor (noted_stamps (pairs_of_all setting.sessions groups)))
      (count_keyed (pairs_of_all setting.sessions groups)))
      (pairs_of_all setting.sessions groups)

-- at each moment between the two disks a crash leaves of each key the value after a prefix of the
-- earlier writes, the acknowledged and the unsure ones, which holds all earlier ones
abbrev pub LeavesSome : {D : Type 0} → Ghosts D → Setting → ℕ → D → D → List Write → List Pair
    → Type 0
LeavesSome d setting worker old new before pairs = LeavesOnly (d.calls old) (d.calls new)
    (d.leaves old) (d.leaves new) (λ image. Recovers setting worker image before [] pairs)

-- at the last moment it holds all acknowledged ones too
abbrev pub LeavesAcknowledged : {D : Type 0} → Ghosts D → Setting → ℕ → D → List Write
    → List Pair → Type 0
LeavesAcknowledged d setting worker new before pairs = (image : Image)
    → MayLeave (d.leaves new (d.calls new)) image
    → Recovers setting worker image before pairs pairs
