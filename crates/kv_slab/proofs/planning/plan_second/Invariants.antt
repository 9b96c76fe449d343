use Rattle.std.proofs.Common.{◌≡◌, ◌≤◌, ℕ, IsTrue, length}
use Rattle.kv_model.specs.Layout.{all_classes}
use Rattle.kv_model.specs.Reading.{slot_at}
use Rattle.kv_slab.specs.Pages.{over, ArePages}
use Rattle.kv_disk.specs.Steps.{ReadsAtMost}
use Rattle.kv_slab.specs.Moves.{SecondSoFar, StillSecond, LeftApart, StampsUpTo}
use Rattle.kv_slab.specs.Floor.{HasFloorUpTo}
use Rattle.kv_slab.specs.Images.{StillLater}
use Rattle.kv_slab.proofs.planning.plan_second.Given as goal

abbrev pub invariant-loop-i : goal.invariant-loop-i
invariant-loop-i g l = record {
  reads : ReadsAtMost g.D.Disk l.i l.fn.disk.disk l.disk.disk;
  faults : g.D.Disk.faults l.disk.disk ≡ g.D.Disk.faults l.fn.disk.disk;
  second : IsTrue g.D.Disk.tells → LeftApart l.moves → SecondSoFar l.moves l.links l.i
      (slot_at all_classes (over (g.D.Disk.seen l.fn.disk.disk) l.first))
      (slot_at all_classes (over (over (g.D.Disk.seen l.fn.disk.disk) l.first) l.round));
  still : IsTrue g.D.Disk.tells → StillSecond l.moves (over (g.D.Disk.seen l.fn.disk.disk) l.first)
      (over (over (g.D.Disk.seen l.fn.disk.disk) l.first) l.round);
  later : IsTrue g.D.Disk.tells → StillLater (over (g.D.Disk.seen l.fn.disk.disk) l.first)
      (over (over (g.D.Disk.seen l.fn.disk.disk) l.first) l.round);
  floor : IsTrue g.D.Disk.tells → (bound : ℕ) → StampsUpTo bound l.moves
      → HasFloorUpTo bound (over (g.D.Disk.seen l.fn.disk.disk) l.first)
      → HasFloorUpTo bound (over (over (g.D.Disk.seen l.fn.disk.disk) l.first) l.round);
  pages : ArePages l.round;
  count : length l.round ≤ l.i;
}
