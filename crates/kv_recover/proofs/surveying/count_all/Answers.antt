-- One class more.
use Rattle.std.proofs.Common.{◌≡◌, ◌⊎◌, ℕ, inl, inr, ◌+◌, ◌-◌, ◌≤◌, [], ◌∷◌, Some, slice_get, get_or}
use Rattle.std.proofs.Common.{length, length-append, sym, ap, ◌∙◌, subst, arith}
use Rattle.std.specs.List.{sum_by}
use Rattle.std.proofs.lemmas.List.Sums.{sum_by_push}
use Rattle.kv_disk.proofs.StepsLemmas.{reads-then}
use Rattle.kv_model.specs.Layout.{all_classes}
use Rattle.kv_model.specs.Reading.{slot_at}
use Rattle.kv_recover.specs.declared.kind.ClassCount.{ClassCount}
use Rattle.kv_recover.specs.Kinds.{kind_at, sum_of, HasTally}
use Rattle.kv_recover.proofs.FilteredLemmas.{get-push}
use Rattle.kv_recover.proofs.surveying.count_all.Goals as goal

pub returns-in_err-count-clause-reads : goal.returns-in_err-count-clause-reads
returns-in_err-count-clause-reads g c =
    reads-then g.D.Disk _ _ _ c.loop-class.invariant.reads c.count_class.ensures.reads

pub returns-in_err-push-clause-reads : goal.returns-in_err-push-clause-reads
returns-in_err-push-clause-reads g c =
    reads-then g.D.Disk _ _ _ c.loop-class.invariant.reads c.count_class.ensures.reads

-- the kept ones are some of all
kept_few : (count : ClassCount) → count.kept ≤ sum_of count
kept_few count = omega arith

pub loop-class-preserved : goal.loop-class-preserved
loop-class-preserved g c =
    let items = c.in_ok-push.ensures in
    let size = c.loop-class.invariant.count in
    let after : (class : ℕ) (count : ClassCount) → 1 ≤ class
    → slice_get c.push.new.classes.items (class - 1) ≡ Some count
    → (slice_get c.loop-class.classes.items (class - 1) ≡ Some count)
    ⊎ ((class ≡ c.loop-class.class) × (c.in_ok-count.count ≡ count)) = λ class count low is.
    (elim (get-push c.loop-class.classes.items c.in_ok-count.count count (class - 1)
    (sym (ap (λ xs. slice_get xs (class - 1)) items) ∙ is)) [
      | inl was ↦ inl was
      | inr last ↦ inr ((let place = last.0 in omega arith), last.1)
    ]) in
    record {
      reads = reads-then g.D.Disk _ _ _ c.loop-class.invariant.reads c.count_class.ensures.reads;
      calm = c.in_ok-count.ensures.counted ∙ c.loop-class.invariant.calm;
      count = omega (
        arith,
        ap length items,
        length-append c.loop-class.classes.items
            (c.in_ok-count.count ∷ []),
        size,
      );
      few = let few = c.loop-class.invariant.few in
          let sum = c.in_ok-count.ensures.sum in
          let some = kept_few c.in_ok-count.count in
          let end = c.requires.ends c.loop-class.class in
          omega arith;
      keys_are = let was = c.loop-class.invariant.keys_are in
          ap (λ n. n + c.in_ok-count.count.kept) was
          ∙ sym (sum_by_push (λ count. count.kept) c.loop-class.classes.items c.in_ok-count.count)
          ∙ sym (ap (sum_by (λ count. count.kept)) items);
      ends_are = λ class count low is. elim (after class count low is) [
        | inl was ↦ c.loop-class.invariant.ends_are class count low was
        | inr last ↦ subst (λ x. (x.end ≡ get_or c.args.ends.now class 0) × (sum_of x ≡ x.end))
            last.1 (
              c.in_ok-count.ensures.end ∙ ap (λ k. get_or c.args.ends.now k 0) (sym last.0),
              c.in_ok-count.ensures.sum ∙ sym c.in_ok-count.ensures.end,
            )
      ];
      tally = λ tells class count low is. elim (after class count low is) [
        | inl was ↦ c.loop-class.invariant.tally tells class count low was
        | inr last ↦
            let same = c.loop-class.invariant.reads.seen tells in
            subst (λ x. HasTally (λ s. kind_at (g.I.Index.entries c.args.index.now) c.args.share.worker c.args.share.workers
            class s (slot_at all_classes (g.D.Disk.seen c.args.disk.now) class s))
            (get_or c.args.ends.now class 0) x) last.1
            (subst (λ k. HasTally (λ s. kind_at (g.I.Index.entries c.args.index.now) c.args.share.worker c.args.share.workers
            k s (slot_at all_classes (g.D.Disk.seen c.args.disk.now) k s))
            (get_or c.args.ends.now k 0) c.in_ok-count.count) (sym last.0)
            (subst (λ i. HasTally (λ s. kind_at (g.I.Index.entries c.args.index.now) c.args.share.worker c.args.share.workers
            c.loop-class.class s (slot_at all_classes i c.loop-class.class s))
            (get_or c.args.ends.now c.loop-class.class 0) c.in_ok-count.count) same
            (c.in_ok-count.ensures.tally tells)))
      ];
    }
