use Rattle.std.proofs.Common.{◌≡◌, ◌≤◌, ◌*◌, ℕ, IsTrue, length}
use Rattle.kv_model.specs.Layout.{all_classes}
use Rattle.kv_model.specs.Reading.{slot_at}
use Rattle.kv_slab.specs.Pages.{over, ArePages}
use Rattle.kv_disk.specs.Steps.{ReadsAtMost}
use Rattle.kv_slab.specs.Moves.{FirstSoFar, StillFirst, TargetsApart, AreWhole, AreUpTo}
use Rattle.kv_slab.specs.Floor.{HasFloorUpTo}
use Rattle.kv_slab.proofs.planning.plan_first.Given as goal

abbrev pub invariant-loop-i : goal.invariant-loop-i
invariant-loop-i g l = record {
  reads : ReadsAtMost g.D.Disk l.i l.fn.disk.disk l.disk.disk;
  faults : g.D.Disk.faults l.disk.disk ≡ g.D.Disk.faults l.fn.disk.disk;
  first : IsTrue g.D.Disk.tells → TargetsApart l.moves → FirstSoFar l.changes l.moves l.i
      (slot_at all_classes (g.D.Disk.seen l.fn.disk.disk)) (slot_at all_classes
      (over (g.D.Disk.seen l.fn.disk.disk) l.round));
  still : IsTrue g.D.Disk.tells → StillFirst l.moves (g.D.Disk.seen l.fn.disk.disk)
      (over (g.D.Disk.seen l.fn.disk.disk) l.round);
  pages : ArePages l.round;
  whole : IsTrue g.D.Disk.tells → TargetsApart l.moves → AreWhole l.changes l.moves l.i
      (over (g.D.Disk.seen l.fn.disk.disk) l.round);
  floor : IsTrue g.D.Disk.tells → (bound : ℕ) → AreUpTo bound l.changes
      → HasFloorUpTo bound (g.D.Disk.seen l.fn.disk.disk) → HasFloorUpTo bound
      (over (g.D.Disk.seen l.fn.disk.disk) l.round);
  count : length l.round ≤ 16 * l.i;
}
