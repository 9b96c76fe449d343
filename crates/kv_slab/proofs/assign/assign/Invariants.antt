use Rattle.std.proofs.Common.{◌≡◌, ℕ, length, take, IsTrue}
use Rattle.std.specs.FinMap as finite
use Rattle.kv_model.specs.Layout.{all_classes}
use Rattle.kv_model.specs.Reading.{slot_at}
use Rattle.kv_slab.specs.declared.change.Change.{Change}
use Rattle.kv_slab.specs.declared.moves.Move.{Move}
use Rattle.kv_slab.specs.Moves.{IsPair, IsMove}
use Rattle.kv_disk.specs.Steps.{ReadsAtMost}
use Rattle.kv_slab.specs.Rooms.{Rooms, AreRooms, AreLinked, ArePlaced, needed, left_by}
use Rattle.kv_slab.specs.Memory.{HaveLengths}
use Rattle.kv_slab.specs.Assigned.{AreEnds}
use Rattle.kv_slab.proofs.AssignSteps.{SoFar}
use Rattle.kv_slab.proofs.assign.assign.Given as goal

abbrev pub invariant-loop-change : goal.invariant-loop-change
invariant-loop-change g l = record {
  reads : ReadsAtMost g.D.Disk l.change-index l.fn.disk.disk l.disk.disk;
  faults : g.D.Disk.faults l.disk.disk ≡ g.D.Disk.faults l.fn.disk.disk;
  ends : AreEnds l.rooms.items;
  count : length l.moves.items ≡ l.change-index;
  counted : HaveLengths (needed (finite.get (g.I.Index.entries l.index))
      (take l.change-index l.changes)) (λ _. 0) l.fn.rooms.items l.rooms.items;
  lefts : (i : ℕ) (c : Change) (m : Move) → IsPair l.changes l.moves.items i c m → m.left
      ≡ left_by (finite.get (g.I.Index.entries l.index)) c;
  each : (i : ℕ) (c : Change) (m : Move) → IsPair l.changes l.moves.items i c m
      → IsMove (finite.get (g.I.Index.entries l.index)) c m;
  assigned : IsTrue g.D.Disk.tells → (start : Rooms) → AreRooms l.fn.rooms.items start
      → ArePlaced (finite.get (g.I.Index.entries l.index)) start
      → AreLinked (slot_at all_classes (g.D.Disk.seen l.fn.disk.disk)) start
      → SoFar (finite.get (g.I.Index.entries l.index)) (slot_at all_classes
      (g.D.Disk.seen l.fn.disk.disk)) l.rooms.items start l.changes l.moves.items;
}
