-- The lines of the items so far are put.
use Rattle.std.proofs.Common.{◌≡◌, Ok, IsTrue, take}
use Rattle.kv_tools.specs.Disks.{ReadsAll, CountsAll}
use Rattle.kv_tools.specs.Dumped.{lines_of}
use Rattle.kv_tools.specs.Sent.{Puts}
use Rattle.kv_tools.proofs.dump.put_lines.Given as goal

abbrev pub invariant-loop-item : goal.invariant-loop-item
invariant-loop-item g l = record {
  puts : IsTrue g.D.Disk.tells → Puts (g.Si.Sink.held l.initial.out) (g.Si.Sink.held l.out)
      l.initial.text l.text (lines_of g.D.Disk l.initial.disks (take l.item-index l.items));
  reads : ReadsAll g.D.Disk l.initial.disks l.disks;
  calm : CountsAll {T = Unit {0}} g.D.Disk l.initial.disks l.disks (Ok tt);
  sink : g.Si.Sink.faults l.out ≡ g.Si.Sink.faults l.initial.out;
}
