-- Runs of calls of a disk.
use Rattle.std.proofs.Common.{ℕ}
use Rattle.kv_base.specs.Image.{Image}
use Rattle.kv_base.specs.Crash.{Choices, MayLeave, LeavesOnly}

-- a run of which less is asked, by the images that a crash may leave
pub weaker_left : (from to : ℕ) (past since : ℕ → Choices) (P Q : Image → Type 0)
    → LeavesOnly from to past since P
    → ((t : ℕ) (image : Image) → MayLeave (since t) image → P image → Q image)
    → LeavesOnly from to past since Q
weaker_left from to past since P Q run so = record {
  later = run.later;
  each = λ t above below image left. so t image left (run.each t above below image left);
  before = run.before;
}
