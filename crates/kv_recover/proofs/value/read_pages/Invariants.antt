-- The pages so far are read.
use Rattle.std.proofs.Common.{◌≡◌, ◌+◌, ◌≤◌, IsTrue, length, map}
use Rattle.std.specs.List.{range_with_len}
use Rattle.kv_disk.specs.Steps.{OnlyReads}
use Rattle.kv_recover.proofs.value.read_pages.Given as goal

abbrev pub invariant-loop-number : goal.invariant-loop-number
invariant-loop-number g l = record {
  reads : OnlyReads g.D.Disk l.initial.disk l.disk;
  calm : g.D.Disk.faults l.disk ≡ g.D.Disk.faults l.initial.disk;
  room : l.count ≤ l.pages.spare + l.number;
  size : length l.pages.items ≡ l.number;
  pages : IsTrue g.D.Disk.tells → l.pages.items
      ≡ map (λ page. g.D.Disk.seen l.initial.disk l.class page) (range_with_len l.first l.number);
}
