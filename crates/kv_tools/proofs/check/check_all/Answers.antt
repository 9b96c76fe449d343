-- One disk more.
use Rattle.std.proofs.Common.{refl, sym, ap, subst, ◌∙◌, set, Result, Ok, Err}
use Rattle.std.proofs.lemmas.Result.{err_from_is_err_and}
use Rattle.kv_recover.proofs.CauseLemmas.{handed}
use Rattle.kv_tools.specs.declared.fault.ToolFault.{ToolFault}
use Rattle.kv_tools.specs.Checked.{ChecksUntil}
use Rattle.kv_tools.specs.Disks.{CountsAll}
use Rattle.kv_tools.specs.Faults.{HasReportCause}
use Rattle.kv_tools.proofs.DisksLemmas.{are_at, reads_all-set, counts_all-set}
use Rattle.kv_tools.proofs.CheckedLemmas.{checks-next, checks-until, checks-cause, checks-others}
use Rattle.kv_tools.proofs.check.check_all.Goals as goal

pub returns-in_err-check_disk-clause-err : goal.returns-in_err-check_disk-clause-err
returns-in_err-check_disk-clause-err g c =
    let at = are_at g.D.Disk c.args.disks.now c.loop-worker.disks c.loop-worker.worker
    c.index-disks-worker.result c.loop-worker-test.true c.loop-worker.invariant.reads in
    handed c.from_residual.result _ _ c.from_residual.ensures.1 (λ e is.
    subst (ChecksUntil g.D.Disk c.args.disks.now (g.Si.Sink.held c.args.out.now)
    (g.Si.Sink.held c.check_disk.new.out)) (sym is)
    (checks-until g.D.Disk c.args.disks.now c.loop-worker.worker _ _ at.old
    c.loop-worker-test.true at.same _ _ _ _ c.loop-worker.invariant.checks
    c.in_err-check_disk.ensures.err))

pub returns-in_err-check_disk-clause-cause : goal.returns-in_err-check_disk-clause-cause
returns-in_err-check_disk-clause-cause g c =
    let at = are_at g.D.Disk c.args.disks.now c.loop-worker.disks c.loop-worker.worker
    c.index-disks-worker.result c.loop-worker-test.true c.loop-worker.invariant.reads in
    handed c.from_residual.result _ _ c.from_residual.ensures.1 (λ e is.
    subst (HasReportCause g.D.Disk c.args.disks.now) (sym is)
    (checks-cause g.D.Disk c.args.disks.now c.loop-worker.worker _ _ at.old
    c.loop-worker-test.true at.same _ _ _ c.in_err-check_disk.ensures.err))

pub returns-in_err-check_disk-clause-reads : goal.returns-in_err-check_disk-clause-reads
returns-in_err-check_disk-clause-reads g c =
    let at = are_at g.D.Disk c.args.disks.now c.loop-worker.disks c.loop-worker.worker
    c.index-disks-worker.result c.loop-worker-test.true c.loop-worker.invariant.reads in
    reads_all-set g.D.Disk _ _ _ _ _ c.loop-worker.invariant.reads at.mid c.check_disk.ensures.reads

pub returns-in_err-check_disk-clause-faults : goal.returns-in_err-check_disk-clause-faults
returns-in_err-check_disk-clause-faults g c =
    let at = are_at g.D.Disk c.args.disks.now c.loop-worker.disks c.loop-worker.worker
    c.index-disks-worker.result c.loop-worker-test.true c.loop-worker.invariant.reads in
    let fault = c.in_err-check_disk.field-0.0 in
    let failed : Result (Unit {0}) ToolFault = Err fault in
    let given = err_from_is_err_and c.from_residual.result c.from_residual.ensures.1 in
    subst (CountsAll g.D.Disk c.args.disks.now
    (set c.loop-worker.disks c.loop-worker.worker c.check_disk.new.disk))
    (sym (given.1 ∙ ap Err given.2))
    (counts_all-set g.D.Disk _ _ _ _ _ tt failed c.loop-worker.invariant.calm
    at.mid c.in_err-check_disk.ensures.faults
    (checks-others (Unit {0}) g.D.Disk _ _ _ _ _ fault c.in_err-check_disk.ensures.err))

pub loop-worker-preserved : goal.loop-worker-preserved
loop-worker-preserved g c =
    let at = are_at g.D.Disk c.args.disks.now c.loop-worker.disks c.loop-worker.worker
    c.index-disks-worker.result c.loop-worker-test.true c.loop-worker.invariant.reads in
    record {
      checks = checks-next g.D.Disk c.args.disks.now c.loop-worker.worker _ _ at.old
          c.loop-worker-test.true at.same _ _ _ c.loop-worker.invariant.checks
          c.in_ok-check_disk.ensures.ok;
      reads = reads_all-set g.D.Disk _ _ _ _ _ c.loop-worker.invariant.reads at.mid
          c.check_disk.ensures.reads;
      calm = counts_all-set g.D.Disk _ _ _ _ _ tt (Ok tt) c.loop-worker.invariant.calm at.mid
          c.in_ok-check_disk.ensures.faults (λ w n other. refl);
      sink = (let now = c.in_ok-check_disk.ensures.counted in let was = c.loop-worker.invariant.sink in
          cc);
    }
