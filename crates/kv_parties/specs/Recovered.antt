-- What recovery of one worker's disk gives of the writes of all parties.
use Rattle.std.specs.Prelude.{◌≤◌, ℕ, List, [], ◌++◌}
use Rattle.kv_base.specs.Crash.{MayLeave}
use Rattle.kv_base.specs.Image.{Image}
use Rattle.kv_disk.specs.declared.disk.Disk as disks
use Rattle.kv_model.specs.History.{Write}
use Rattle.kv_model.specs.Pairs.{Pair, writes}
use Rattle.kv_model.specs.Recovery.{RecoversPrefix}
use Rattle.kv_parties.specs.Causes.{all_writes}
use Rattle.kv_parties.specs.Setting.{Setting}

-- the worker's image recovers a prefix of the writes of these pairs that holds the earlier ones and
-- those that the others acknowledge
abbrev pub Recovers : Setting → ℕ → Image → List Write → List Pair → List Pair → Type 0
Recovers setting worker image before acknowledged pairs = ∥ RecoversPrefix setting.layout
    (all_writes before pairs) (before ++ writes acknowledged) image worker setting.workers ∥₁

-- at each moment from the disk as it was to the disk as it is a crash leaves a prefix that holds
-- all earlier writes, and at the last one all acknowledged ones too
pub record LeavesPrefixes {D : Type 0} (d : disks.Ghosts D) (setting : Setting) (worker : ℕ)
    (first now : D) (before : List Write) (pairs : List Pair) : Type 0 where
  pub later : d.calls first ≤ d.calls now
  pub any_moment : (moment : ℕ) → d.calls first ≤ moment → moment ≤ d.calls now
      → (image : Image) → MayLeave (d.leaves now moment) image
      → Recovers setting worker image before [] pairs
  pub exit : (image : Image) → MayLeave (d.leaves now (d.calls now)) image
      → Recovers setting worker image before pairs pairs
