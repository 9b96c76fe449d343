-- The classes so far are seen.
use Rattle.std.proofs.Common.{◌≡◌, ℕ, ◌≤◌, ◌^◌, IsTrue, length, get_or}
use Rattle.kv_recover.specs.Pass.{FindsBelow}
use Rattle.kv_recover.specs.Placed.{HasCounts, ArePlaced, AreOwned}
use Rattle.kv_disk.specs.Steps.{OnlyReads}
use Rattle.kv_recover.proofs.find.find_small.Given as goal

abbrev pub invariant-loop-class : goal.invariant-loop-class
invariant-loop-class g l = record {
  reads : OnlyReads g.D.Disk l.initial.disk l.disk;
  calm : g.D.Disk.faults l.disk ≡ g.D.Disk.faults l.initial.disk;
  size : length l.ends ≡ 12;
  ends : (class : ℕ) → get_or l.ends class 0 ≤ 2 ^ 24;
  zero : get_or l.ends 0 0 ≡ 0;
  rest : (class : ℕ) → l.class ≤ class → get_or l.ends class 0 ≡ 0;
  placed : ArePlaced (g.I.Index.entries l.items.index) l.floor (λ c. get_or l.ends c 0);
  counted : HasCounts (g.I.Index.entries l.items.index) l.items.counts;
  owned : AreOwned (g.I.Index.entries l.items.index) l.share.worker l.share.workers;
  found : IsTrue g.D.Disk.tells → FindsBelow (g.D.Disk.seen l.initial.disk) l.share.worker
      l.share.workers l.class (g.I.Index.entries l.items.index) l.floor l.ends;
}
