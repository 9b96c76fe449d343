-- The slabs so far are zero.
use Rattle.std.proofs.Common.{◌≡◌, ℕ, ◌<◌, ◌≤◌, IsTrue}
use Rattle.kv_base.specs.Image.{zero_page}
use Rattle.kv_disk.specs.Steps.{OnlyReads}
use Rattle.kv_recover.proofs.head.check_slabs.Given as goal

abbrev pub invariant-loop-class : goal.invariant-loop-class
invariant-loop-class g l = record {
  reads : OnlyReads g.D.Disk l.initial.disk l.disk;
  calm : g.D.Disk.faults l.disk ≡ g.D.Disk.faults l.initial.disk;
  zeros : IsTrue g.D.Disk.tells → (class page : ℕ) → 1 ≤ class → class < l.class
      → g.D.Disk.seen l.initial.disk class page ≡ zero_page;
}
