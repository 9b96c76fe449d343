-- The slots of the pages so far are seen.
use Rattle.std.proofs.Common.{◌≡◌, ℕ, ◌*◌, ◌≤◌, IsTrue, length, ◌<◌}
use Rattle.kv_model.specs.Layout.{slots_in_page}
use Rattle.kv_recover.specs.Pass.{HasFound}
use Rattle.kv_recover.specs.Placed.{HasCounts, ArePlaced, AreOwned, with_end}
use Rattle.kv_disk.specs.Steps.{OnlyReads}
use Rattle.kv_recover.proofs.find.find_in_pages.Given as goal
use Rattle.kv_base.specs.Image.{page_size}

abbrev pub invariant-loop-number : goal.invariant-loop-number
invariant-loop-number g l = record {
  reads : OnlyReads g.D.Disk l.initial.disk l.disk;
  calm : g.D.Disk.faults l.disk ≡ g.D.Disk.faults l.initial.disk;
  whole : IsTrue g.D.Disk.tells → (page : ℕ) → page < l.number
      → length (g.D.Disk.seen l.initial.disk l.class page) ≡ page_size;
  behind : l.seen.end ≤ l.number * slots_in_page l.class;
  placed : (ends : ℕ → ℕ) → ArePlaced (g.I.Index.entries l.initial.items.index)
      l.floor (with_end ends l.class 0)
      → ArePlaced (g.I.Index.entries l.items.index) l.seen.floor
      (with_end ends l.class l.seen.end);
  counted : HasCounts (g.I.Index.entries l.items.index) l.items.counts;
  owned : AreOwned (g.I.Index.entries l.items.index) l.share.worker l.share.workers;
  found : IsTrue g.D.Disk.tells
      → HasFound (g.D.Disk.seen l.initial.disk) l.share.worker l.share.workers l.class 0
      (g.I.Index.entries l.initial.items.index) l.floor 0
      → HasFound (g.D.Disk.seen l.initial.disk) l.share.worker l.share.workers l.class
      (l.number * slots_in_page l.class) (g.I.Index.entries l.items.index) l.seen.floor l.seen.end;
}
