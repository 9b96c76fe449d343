-- The disks so far are taken, and the others have room.
use Rattle.std.proofs.Common.{◌≡◌, ◌≤◌, ◌+◌, IsTrue, length}
use Rattle.kv_serve.specs.Taken.{TookDisks}
use Rattle.kv_serve.proofs.disks.take_disks.Given as goal

abbrev pub invariant-loop-worker : goal.invariant-loop-worker
invariant-loop-worker g l = record {
  took : IsTrue g.S.Site.tells → TookDisks (g.S.Site.holds l.initial.site) (g.S.Site.holds l.site)
      l.folder l.disks.items;
  count : l.worker ≡ length l.disks.items;
  room : l.workers ≤ l.disks.spare + l.worker;
  calm : g.S.Site.faults l.site ≡ g.S.Site.faults l.initial.site;
}
