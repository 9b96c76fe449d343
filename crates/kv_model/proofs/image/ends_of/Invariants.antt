-- the ends of the classes so far
use Rattle.std.proofs.Common.{◌≡◌, ℕ, ◌<◌, ◌≤◌, length, get_or}
use Rattle.kv_model.specs.Plain.{image_of, IsEnd}
use Rattle.kv_model.proofs.image.ends_of.Given as goal

abbrev pub invariant-loop-class : goal.invariant-loop-class
invariant-loop-class l = record {
  size : length l.ends ≡ 12;
  ends : (class : ℕ) → 1 ≤ class → class < l.class
      → IsEnd (image_of l.pages) class (get_or l.ends class 0);
  range : (class : ℕ) → get_or l.ends class 0 ≤ 4194304;
}
