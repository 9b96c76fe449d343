use Rattle.std.proofs.Common.{◌≡◌, ◌≤◌, ◌+◌, IsTrue}
use Rattle.kv_base.specs.Crash.{LeavesOnly}
use Rattle.kv_slab.specs.Images.{Mix}
use Rattle.kv_slab.specs.Pages.{over, AreWritten}
use Rattle.kv_slab.proofs.rounds.write_pages.Given as goal

abbrev pub invariant-loop-turn : goal.invariant-loop-turn
invariant-loop-turn g l = record {
  crash : LeavesOnly (g.D.Disk.calls l.fn.disk.disk) (g.D.Disk.calls l.disk.disk)
      (g.D.Disk.leaves l.fn.disk.disk) (g.D.Disk.leaves l.disk.disk)
      (Mix (g.D.Disk.seen l.fn.disk.disk) (over (g.D.Disk.seen l.fn.disk.disk) l.pages));
  seen : IsTrue g.D.Disk.tells → AreWritten (g.D.Disk.seen l.fn.disk.disk) l.pages l.order l.turn
      (g.D.Disk.seen l.disk.disk);
  faults : g.D.Disk.faults l.disk.disk ≡ g.D.Disk.faults l.fn.disk.disk;
  count : g.D.Disk.calls l.disk.disk ≤ g.D.Disk.calls l.fn.disk.disk + l.turn;
}
