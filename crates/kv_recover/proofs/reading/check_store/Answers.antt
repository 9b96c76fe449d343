-- The head page is read, and then the slabs of a new disk.
use Rattle.std.proofs.Common.{◌≡◌, sym, subst, IsTrue}
use Rattle.kv_base.specs.Image.{zero_page}
use Rattle.kv_disk.proofs.StepsLemmas.{reads-then}
use Rattle.kv_recover.specs.Causes.{HasMakeCause}
use Rattle.kv_recover.specs.HeadCheck.{IsGoodHead, AreBlank}
use Rattle.kv_recover.proofs.CauseLemmas.{handed, head-cause, make-cause}
use Rattle.kv_recover.proofs.reading.check_store.Goals as goal

pub returns-in_err-check_head-clause-cause : goal.returns-in_err-check_head-clause-cause
returns-in_err-check_head-clause-cause g c =
    handed c.from_residual.result _ _ c.from_residual.ensures.1
    (λ e is. subst (HasMakeCause (IsTrue g.D.Disk.tells) (g.D.Disk.seen c.args.disk.now)
    c.args.share.worker c.args.share.workers) (sym is) (head-cause (IsTrue g.D.Disk.tells)
    (g.D.Disk.seen c.args.disk.now) c.args.share.worker c.args.share.workers
    c.in_err-check_head.field-0.0 c.in_err-check_head.ensures.cause))

pub returns-in_err-check_slabs-clause-cause : goal.returns-in_err-check_slabs-clause-cause
returns-in_err-check_slabs-clause-cause g c =
    let zero : IsTrue g.D.Disk.tells → g.D.Disk.seen c.args.disk.now 0 0 ≡ zero_page = λ tells.
    subst (λ b. IsGoodHead b (g.D.Disk.seen c.args.disk.now 0 0) c.args.share.worker
    c.args.share.workers) c.if-branch.true (c.in_ok-check_head.ensures.ok tells) in
    handed c.from_residual-in_err-check_slabs.result _ _
    c.from_residual-in_err-check_slabs.ensures.1
    (λ e is. subst (HasMakeCause (IsTrue g.D.Disk.tells) (g.D.Disk.seen c.args.disk.now)
    c.args.share.worker c.args.share.workers) (sym is) (make-cause (IsTrue g.D.Disk.tells)
    (g.D.Disk.seen c.args.disk.now) (g.D.Disk.seen c.check_head.new.disk) c.args.share.worker
    c.args.share.workers c.in_err-check_slabs.field-0.0 c.check_head.ensures.reads.seen zero
    c.in_err-check_slabs.ensures.cause))

pub returns-in_err-check_slabs-clause-reads : goal.returns-in_err-check_slabs-clause-reads
returns-in_err-check_slabs-clause-reads g c =
    reads-then g.D.Disk _ _ _ c.check_head.ensures.reads c.check_slabs.ensures.reads

pub returns-in_ok-check_slabs-clause-reads : goal.returns-in_ok-check_slabs-clause-reads
returns-in_ok-check_slabs-clause-reads g c =
    reads-then g.D.Disk _ _ _ c.check_head.ensures.reads c.check_slabs.ensures.reads

pub returns-in_ok-check_slabs-clause-readable : goal.returns-in_ok-check_slabs-clause-readable
returns-in_ok-check_slabs-clause-readable g c = λ tells. record {
  head = subst (λ b. IsGoodHead b (g.D.Disk.seen c.args.disk.now 0 0) c.args.share.worker
      c.args.share.workers) c.if-branch.true (c.in_ok-check_head.ensures.ok tells);
  slabs = subst AreBlank (c.check_head.ensures.reads.seen tells)
      (c.in_ok-check_slabs.ensures.ok tells);
}

pub returns-else-branch-clause-readable : goal.returns-else-branch-clause-readable
returns-else-branch-clause-readable g c = λ tells.
    subst (λ b. IsGoodHead b (g.D.Disk.seen c.args.disk.now 0 0) c.args.share.worker
    c.args.share.workers) c.if-branch.false (c.in_ok-check_head.ensures.ok tells)
