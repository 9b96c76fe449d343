-- The slots so far are seen.
use Rattle.std.proofs.Common.{◌≡◌, ℕ, ◌≤◌, IsTrue, ◌<◌}
use Rattle.kv_recover.specs.Large.{HasFoundLarge, IsWholeSlot}
use Rattle.kv_recover.specs.Placed.{HasCounts, ArePlaced, AreOwned, with_end}
use Rattle.kv_disk.specs.Steps.{OnlyReads}
use Rattle.kv_recover.proofs.large.find_large_slots.Given as goal

abbrev pub invariant-loop-slot : goal.invariant-loop-slot
invariant-loop-slot g l = record {
  reads : OnlyReads g.D.Disk l.initial.disk l.disk;
  calm : g.D.Disk.faults l.disk ≡ g.D.Disk.faults l.initial.disk;
  whole : IsTrue g.D.Disk.tells → (slot : ℕ) → slot < l.slot
      → IsWholeSlot (g.D.Disk.seen l.initial.disk) l.class slot;
  behind : l.seen.end ≤ l.slot;
  placed : (ends : ℕ → ℕ) → ArePlaced (g.I.Index.entries l.initial.items.index)
      l.floor (with_end ends l.class 0)
      → ArePlaced (g.I.Index.entries l.items.index) l.seen.floor
      (with_end ends l.class l.seen.end);
  counted : HasCounts (g.I.Index.entries l.items.index) l.items.counts;
  owned : AreOwned (g.I.Index.entries l.items.index) l.share.worker l.share.workers;
  found : IsTrue g.D.Disk.tells
      → HasFoundLarge (g.D.Disk.seen l.initial.disk) l.share.worker l.share.workers l.class 0
      (g.I.Index.entries l.initial.items.index) l.floor 0
      → HasFoundLarge (g.D.Disk.seen l.initial.disk) l.share.worker l.share.workers l.class l.slot
      (g.I.Index.entries l.items.index) l.seen.floor l.seen.end;
}
