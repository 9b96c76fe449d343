-- The classes so far are freed.
use Rattle.std.proofs.Common.{length, ◌≡◌, ◌+◌, IsTrue, ◌≤◌, get_or}
use Rattle.kv_base.specs.Image.{Image}
use Rattle.kv_base.specs.Crash.{LeavesOnly}
use Rattle.kv_recover.specs.Free.{AreFullTaken}
use Rattle.kv_recover.specs.FreeLarge.{AnyMayBeFreed, FreesAnyBelow}
use Rattle.kv_recover.proofs.free_large.free_large.Given as goal

abbrev pub invariant-loop-class : goal.invariant-loop-class
invariant-loop-class g l = record {
  room : 12 ≤ l.stacks.spare + l.class;
  count : length l.stacks.items ≡ l.class;
  calm : g.D.Disk.faults l.disk ≡ g.D.Disk.faults l.initial.disk;
  done : (first : Image)
      → (IsTrue g.D.Disk.tells → AreFullTaken (g.I.Index.entries l.index) first
      (λ c. get_or l.ends c 0) l.counts)
      → FreesAnyBelow g.D.Disk (g.I.Index.entries l.index) first (λ c. get_or l.ends c 0) l.floor 8
      l.initial.disk l.initial.stacks.items
      → FreesAnyBelow g.D.Disk (g.I.Index.entries l.index) first (λ c. get_or l.ends c 0) l.floor
      l.class l.disk l.stacks.items;
  any_moment : (first : Image)
      → (IsTrue g.D.Disk.tells → AreFullTaken (g.I.Index.entries l.index) first
      (λ c. get_or l.ends c 0) l.counts)
      → FreesAnyBelow g.D.Disk (g.I.Index.entries l.index) first (λ c. get_or l.ends c 0) l.floor 8
      l.initial.disk l.initial.stacks.items
      → LeavesOnly (g.D.Disk.calls l.initial.disk) (g.D.Disk.calls l.disk)
      (g.D.Disk.leaves l.initial.disk) (g.D.Disk.leaves l.disk)
      (AnyMayBeFreed (g.I.Index.entries l.index) first (λ c. get_or l.ends c 0) l.floor 12 0);
}
