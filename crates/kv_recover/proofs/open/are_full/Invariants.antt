-- The classes so far are full.
use Rattle.std.proofs.Common.{◌≡◌, ℕ, ◌+◌, ◌<◌, Some, get_or, slice_get}
use Rattle.kv_free.specs.FreeList.{Tail}
use Rattle.kv_recover.proofs.open.are_full.Given as goal

abbrev pub invariant-loop-class : goal.invariant-loop-class
invariant-loop-class l = (class : ℕ) (stack : Tail) → class < l.class
    → slice_get l.stacks class ≡ Some stack
    → get_or l.ends class 0 ≡ get_or l.counts class 0 + stack.count
