-- The lines of the disks so far were appended.
use Rattle.std.proofs.Common.{◌≡◌, Ok}
use Rattle.kv_tools.specs.Checked.{Checks}
use Rattle.kv_tools.specs.Disks.{ReadsAll, CountsAll}
use Rattle.kv_tools.proofs.check.check_all.Given as goal

abbrev pub invariant-loop-worker : goal.invariant-loop-worker
invariant-loop-worker g l = record {
  checks : Checks g.D.Disk l.initial.disks l.worker (g.Si.Sink.held l.initial.out) (g.Si.Sink.held l.out);
  reads : ReadsAll g.D.Disk l.initial.disks l.disks;
  calm : CountsAll {T = Unit {0}} g.D.Disk l.initial.disks l.disks (Ok tt);
  sink : g.Si.Sink.faults l.out ≡ g.Si.Sink.faults l.initial.out;
}
