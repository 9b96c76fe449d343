-- The items of the disks so far are listed.
use Rattle.std.proofs.Common.{Ok, IsTrue}
use Rattle.kv_tools.specs.Disks.{ReadsAll, CountsAll}
use Rattle.kv_tools.specs.Dumped.{AreItemsOf, ArePlaced}
use Rattle.kv_tools.proofs.list.list_all.Given as goal

abbrev pub invariant-loop-worker : goal.invariant-loop-worker
invariant-loop-worker g l = record {
  items : IsTrue g.D.Disk.tells → AreItemsOf g.D.Disk l.initial.disks l.worker l.listed.items;
  places : ArePlaced l.worker l.listed.items;
  reads : ReadsAll g.D.Disk l.initial.disks l.disks;
  calm : CountsAll {T = Unit {0}} g.D.Disk l.initial.disks l.disks (Ok tt);
}
