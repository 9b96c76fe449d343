-- The slots so far are freed.
use Rattle.std.proofs.Common.{◌≡◌, ℕ, ◌≤◌}
use Rattle.kv_base.specs.Image.{Image}
use Rattle.kv_base.specs.Crash.{LeavesOnly}
use Rattle.kv_recover.specs.FreeLarge.{AnyMayBeFreed, HasFreedAny}
use Rattle.kv_recover.proofs.free_large.free_large_class.Given as goal

abbrev pub invariant-loop-slot : goal.invariant-loop-slot
invariant-loop-slot g l = record {
  few : l.stack.count ≤ l.slot;
  calm : g.D.Disk.faults l.disk ≡ g.D.Disk.faults l.initial.disk;
  done : (first : Image) (ends : ℕ → ℕ) → ends l.class ≡ l.end
      → HasFreedAny g.D.Disk (g.I.Index.entries l.index) first ends l.floor l.class 0
      l.initial.disk l.initial.stack
      → HasFreedAny g.D.Disk (g.I.Index.entries l.index) first ends l.floor l.class l.slot l.disk
      l.stack;
  any_moment : (first : Image) (ends : ℕ → ℕ) → ends l.class ≡ l.end
      → HasFreedAny g.D.Disk (g.I.Index.entries l.index) first ends l.floor l.class 0
      l.initial.disk l.initial.stack
      → LeavesOnly (g.D.Disk.calls l.initial.disk) (g.D.Disk.calls l.disk)
      (g.D.Disk.leaves l.initial.disk) (g.D.Disk.leaves l.disk)
      (AnyMayBeFreed (g.I.Index.entries l.index) first ends l.floor l.class l.end);
}
