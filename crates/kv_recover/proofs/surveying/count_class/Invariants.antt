-- The slots so far are counted.
use Rattle.std.proofs.Common.{◌≡◌, ◌-◌, ◌<◌, ◌≤◌, IsTrue}
use Rattle.kv_disk.specs.Steps.{OnlyReads}
use Rattle.kv_model.specs.Layout.{all_classes}
use Rattle.kv_model.specs.Reading.{slot_at, page_of}
use Rattle.kv_recover.specs.Kinds.{kind_at, sum_of, HasTally}
use Rattle.kv_recover.proofs.surveying.count_class.Given as goal

abbrev pub invariant-loop-slot : goal.invariant-loop-slot
invariant-loop-slot g l = record {
  reads : OnlyReads g.D.Disk l.initial.disk l.disk;
  calm : g.D.Disk.faults l.disk ≡ g.D.Disk.faults l.initial.disk;
  sum : sum_of l.count ≡ l.slot;
  end_is : l.count.end ≡ l.end;
  page : IsTrue g.D.Disk.tells → l.class ≤ 7 → 0 < l.slot
      → l.page ≡ g.D.Disk.seen l.initial.disk l.class (page_of l.class (l.slot - 1));
  tally : IsTrue g.D.Disk.tells → HasTally (λ s. kind_at (g.I.Index.entries l.index) l.share.worker
      l.share.workers l.class s (slot_at all_classes (g.D.Disk.seen l.initial.disk) l.class s)) l.slot
      l.count;
}
