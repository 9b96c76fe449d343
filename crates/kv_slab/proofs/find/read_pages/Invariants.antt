-- The pages so far are read.
use Rattle.std.proofs.Common.{◌≡◌, ◌+◌, ◌≤◌, IsTrue, length, map}
use Rattle.std.specs.List.{range_with_len}
use Rattle.kv_disk.specs.Steps.{ReadsAtMost}
use Rattle.kv_slab.proofs.find.read_pages.Given as goal

abbrev pub invariant-loop-number : goal.invariant-loop-number
invariant-loop-number g l = record {
  reads : ReadsAtMost g.D.Disk l.number l.fn.disk.disk l.disk.disk;
  faults : g.D.Disk.faults l.disk.disk ≡ g.D.Disk.faults l.fn.disk.disk;
  room : l.count ≤ l.pages.spare + l.number;
  size : length l.pages.items ≡ l.number;
  pages : IsTrue g.D.Disk.tells → l.pages.items
      ≡ map (λ page. g.D.Disk.seen l.fn.disk.disk l.file page) (range_with_len l.first l.number);
}
