-- The classes so far are counted.
use Rattle.std.proofs.Common.{◌≡◌, ℕ, ◌+◌, ◌-◌, ◌*◌, ◌^◌, ◌≤◌, IsTrue, length, get_or, slice_get, Some}
use Rattle.std.specs.List.{sum_by}
use Rattle.kv_disk.specs.Steps.{OnlyReads}
use Rattle.kv_model.specs.Layout.{all_classes}
use Rattle.kv_model.specs.Reading.{slot_at}
use Rattle.kv_recover.specs.declared.kind.ClassCount.{ClassCount}
use Rattle.kv_recover.specs.Kinds.{kind_at, sum_of, HasTally}
use Rattle.kv_recover.proofs.surveying.count_all.Given as goal

abbrev pub invariant-loop-class : goal.invariant-loop-class
invariant-loop-class g l = record {
  reads : OnlyReads g.D.Disk l.initial.disk l.disk;
  calm : g.D.Disk.faults l.disk ≡ g.D.Disk.faults l.initial.disk;
  count : length l.classes.items + 1 ≡ l.class;
  few : l.keys ≤ l.class * 2 ^ 24;
  keys_are : l.keys ≡ sum_by (λ count. count.kept) l.classes.items;
  ends_are : (class : ℕ) (count : ClassCount) → 1 ≤ class
      → slice_get l.classes.items (class - 1) ≡ Some count
      → (count.end ≡ get_or l.ends class 0) × (sum_of count ≡ count.end);
  tally : IsTrue g.D.Disk.tells → (class : ℕ) (count : ClassCount) → 1 ≤ class
      → slice_get l.classes.items (class - 1) ≡ Some count
      → HasTally (λ s. kind_at (g.I.Index.entries l.index) l.share.worker l.share.workers class s
      (slot_at all_classes (g.D.Disk.seen l.initial.disk) class s)) (get_or l.ends class 0) count;
}
