-- One slot more.
use Rattle.std.proofs.Common.{◌≡◌, ℕ, ◌+◌, ◌-◌, ◌<◌, ◌≤◌, refl, sym, ap, ◌∙◌, subst, arith, IsTrue}
use Rattle.kv_disk.proofs.StepsLemmas.{reads-none, reads-then}
use Rattle.kv_model.specs.Layout.{all_classes}
use Rattle.kv_model.specs.Reading.{slot_at, page_of}
use Rattle.kv_recover.specs.declared.kind.Kind.{Kind}
use Rattle.kv_recover.specs.Kinds.{kind_at, HasTally}
use Rattle.kv_recover.proofs.SurveyLemmas.{tally-none, tally-next}
use Rattle.kv_recover.proofs.surveying.count_class.Goals as goal

pub loop-slot-init : goal.loop-slot-init
loop-slot-init g c = record {
  reads = reads-none g.D.Disk c.args.disk.now;
  calm = refl;
  sum = refl;
  end_is = refl;
  page = λ tells small some. absurd (omega arith);
  tally = λ tells. tally-none (λ s. kind_at (g.I.Index.entries c.args.index.now) c.args.share.worker c.args.share.workers
      c.args.class s (slot_at all_classes (g.D.Disk.seen c.args.disk.now) c.args.class s)) c.args.end;
}

pub returns-in_err-kind-clause-reads : goal.returns-in_err-kind-clause-reads
returns-in_err-kind-clause-reads g c =
    reads-then g.D.Disk _ _ _ c.loop-slot.invariant.reads c.kind_here.ensures.reads

pub loop-slot-preserved : goal.loop-slot-preserved
loop-slot-preserved g c =
    let class = c.args.class in
    let slot = c.loop-slot.slot in
    let image = g.D.Disk.seen c.args.disk.now in
    let before : IsTrue g.D.Disk.tells → class ≤ 7 → 0 < slot
    → c.loop-slot.page ≡ g.D.Disk.seen c.loop-slot.disk class (page_of class (slot - 1)) =
    λ tells small some. c.loop-slot.invariant.page tells small some
    ∙ ap (λ i. i class (page_of class (slot - 1))) (sym (c.loop-slot.invariant.reads.seen tells)) in
    record {
      reads = reads-then g.D.Disk _ _ _ c.loop-slot.invariant.reads c.kind_here.ensures.reads;
      calm = c.in_ok-kind.ensures.counted ∙ c.loop-slot.invariant.calm;
      sum = let sum = c.counted-count.ensures.sum in let was = c.loop-slot.invariant.sum in omega arith;
      end_is = c.counted-count.ensures.end ∙ c.loop-slot.invariant.end_is;
      page = λ tells small some.
          let next : slot ≡ slot + 1 - 1 = omega arith in
          c.in_ok-kind.ensures.page tells small (before tells small)
          ∙ ap (λ i. i class (page_of class slot)) (c.loop-slot.invariant.reads.seen tells)
          ∙ ap (λ n. image class (page_of class n)) next;
      tally = λ tells.
          let kinds : ℕ → Kind = λ s. kind_at (g.I.Index.entries c.args.index.now) c.args.share.worker c.args.share.workers
          class s (slot_at all_classes image class s) in
          subst (HasTally kinds (slot + 1)) (sym c.counted-count.ensures.value)
          (tally-next kinds slot c.loop-slot.count c.in_ok-kind.kind
          (c.in_ok-kind.ensures.kind tells (before tells)
          ∙ ap (λ i. kind_at (g.I.Index.entries c.args.index.now) c.args.share.worker c.args.share.workers
          class slot (slot_at all_classes i class slot)) (c.loop-slot.invariant.reads.seen tells))
          (c.loop-slot.invariant.tally tells));
    }

pub returns-clause-tally : goal.returns-clause-tally
returns-clause-tally g c = λ tells.
    let all : c.loop-slot.slot ≡ c.args.end = omega arith in
    subst (λ n. HasTally (λ s. kind_at (g.I.Index.entries c.args.index.now) c.args.share.worker c.args.share.workers
    c.args.class s (slot_at all_classes (g.D.Disk.seen c.args.disk.now) c.args.class s)) n
    c.loop-slot.count) all (c.loop-slot.invariant.tally tells)
