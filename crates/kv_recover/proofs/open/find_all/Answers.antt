-- One class more.
use Rattle.std.proofs.Common.{◌≡◌, ℕ, get_or, get_or-set_other, length-set, ◌∙◌, subst, arith}
use Rattle.kv_recover.specs.Opened.{FindsAllBelow}
use Rattle.kv_recover.specs.Large.{FindsLargeClass}
use Rattle.kv_recover.proofs.PlacedLemmas.{placed-begin, placed-end, ends-rest}
use Rattle.kv_recover.proofs.FindLemmas.{ends-next}
use Rattle.kv_recover.proofs.OpenSteps.{all-next}
use Rattle.kv_disk.proofs.StepsLemmas.{reads-then}
use Rattle.kv_recover.proofs.open.find_all.Goals as goal

pub returns-in_err-seen-clause-reads : goal.returns-in_err-seen-clause-reads
returns-in_err-seen-clause-reads g c =
    reads-then g.D.Disk _ _ _ c.loop-class.invariant.reads c.find_large_class.ensures.reads

pub loop-class-preserved : goal.loop-class-preserved
loop-class-preserved g c =
    let size = c.loop-class.invariant.size in record {
      reads = reads-then g.D.Disk _ _ _ c.loop-class.invariant.reads
          c.find_large_class.ensures.reads;
      calm = c.in_ok-seen.ensures.faults ∙ c.loop-class.invariant.calm;
      size = omega (
        arith,
        length-set {A = ℕ} c.loop-class.ends c.loop-class.class
            c.in_ok-seen.seen.end,
        size,
      );
      ends = ends-next c.loop-class.ends c.loop-class.class c.in_ok-seen.seen.end
          (omega (arith, size)) c.in_ok-seen.ensures.end c.loop-class.invariant.ends;
      zero = get_or-set_other c.loop-class.ends c.loop-class.class 0 c.in_ok-seen.seen.end 0
          (λ same. omega arith) ∙ c.loop-class.invariant.zero;
      rest = ends-rest c.loop-class.class c.in_ok-seen.seen.end c.loop-class.ends
          c.loop-class.invariant.rest;
      placed = placed-end (g.I.Index.entries c.find_large_class.new.items.index) c.in_ok-seen.seen.floor
          c.loop-class.class c.in_ok-seen.seen.end c.loop-class.ends (omega (arith, size))
          (c.in_ok-seen.ensures.placed (λ x. get_or c.loop-class.ends x 0)
          (placed-begin (g.I.Index.entries c.loop-class.items.index) c.loop-class.floor
          c.loop-class.class c.loop-class.ends (c.loop-class.invariant.rest c.loop-class.class
          (omega arith)) c.loop-class.invariant.placed));
      counted = c.in_ok-seen.ensures.counted;
      owned = c.in_ok-seen.ensures.owned;
      found = λ tells. all-next (g.D.Disk.seen c.args.disk.now) c.args.share.worker
          c.args.share.workers c.loop-class.class _ _ c.loop-class.floor c.in_ok-seen.seen.floor
          c.in_ok-seen.seen.end c.loop-class.ends (omega arith) (omega (arith, size))
          (c.loop-class.invariant.found tells)
          (subst (λ image. FindsLargeClass image c.args.share.worker c.args.share.workers
          c.loop-class.class (g.I.Index.entries c.loop-class.items.index)
          (g.I.Index.entries c.find_large_class.new.items.index) c.loop-class.floor
          c.in_ok-seen.seen.floor c.in_ok-seen.seen.end)
          (c.loop-class.invariant.reads.seen tells) (c.in_ok-seen.ensures.found tells));
    }

pub returns-clause-found : goal.returns-clause-found
returns-clause-found g c = λ tells.
    let last : c.loop-class.class ≡ 12 = omega arith in
    subst (λ n. FindsAllBelow (g.D.Disk.seen c.args.disk.now) c.args.share.worker
    c.args.share.workers n (g.I.Index.entries c.loop-class.items.index) c.loop-class.floor
    c.loop-class.ends) last (c.loop-class.invariant.found tells)
