-- The pages so far are read.
use Rattle.std.proofs.Common.{◌≡◌, ◌≤◌, IsTrue, map, length, ◌<◌, ◌+◌, ℕ}
use Rattle.std.specs.List.{range_with_len}
use Rattle.kv_disk.specs.Steps.{OnlyReads}
use Rattle.kv_recover.specs.Large.{IsLater}
use Rattle.kv_recover.proofs.large.read_later.Given as goal
use Rattle.kv_base.specs.Image.{page_size}

abbrev pub invariant-loop-number : goal.invariant-loop-number
invariant-loop-number g l = record {
  reads : OnlyReads g.D.Disk l.initial.disk l.disk;
  calm : g.D.Disk.faults l.disk ≡ g.D.Disk.faults l.initial.disk;
  whole : IsTrue g.D.Disk.tells → (k : ℕ) → k < l.number
      → length (g.D.Disk.seen l.initial.disk l.class (l.first + k)) ≡ page_size;
  floor : l.floor ≤ l.later.floor;
  pages : IsTrue g.D.Disk.tells → IsLater
      (map (λ page. g.D.Disk.seen l.initial.disk l.class page) (range_with_len l.first l.number))
      l.stamp l.floor l.later.whole l.later.blank l.later.floor;
}
