-- The pages so far are freed.
use Rattle.std.proofs.Common.{◌≡◌, ℕ, ◌*◌, ◌≤◌, min}
use Rattle.kv_base.specs.Image.{Image}
use Rattle.kv_base.specs.Crash.{LeavesOnly}
use Rattle.kv_model.specs.Layout.{slots_in_page}
use Rattle.kv_recover.specs.Free.{MayBeFreed, HasFreed}
use Rattle.kv_recover.proofs.free.free_class.Given as goal

abbrev pub invariant-loop-number : goal.invariant-loop-number
invariant-loop-number g l = record {
  few : l.stack.count ≤ min (l.number * slots_in_page l.class) l.end;
  calm : g.D.Disk.faults l.disk ≡ g.D.Disk.faults l.initial.disk;
  done : (first : Image) (ends : ℕ → ℕ) → ends l.class ≡ l.end
      → HasFreed g.D.Disk (g.I.Index.entries l.index) first ends l.floor l.class 0 l.initial.disk
      l.initial.stack
      → HasFreed g.D.Disk (g.I.Index.entries l.index) first ends l.floor l.class
      (min (l.number * slots_in_page l.class) l.end) l.disk l.stack;
  any_moment : (first : Image) (ends : ℕ → ℕ) → ends l.class ≡ l.end
      → HasFreed g.D.Disk (g.I.Index.entries l.index) first ends l.floor l.class 0 l.initial.disk
      l.initial.stack
      → LeavesOnly (g.D.Disk.calls l.initial.disk) (g.D.Disk.calls l.disk)
      (g.D.Disk.leaves l.initial.disk) (g.D.Disk.leaves l.disk)
      (MayBeFreed (g.I.Index.entries l.index) first ends l.floor l.class l.end);
}
