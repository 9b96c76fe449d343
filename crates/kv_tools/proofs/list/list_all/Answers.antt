-- One disk more.
use Rattle.std.proofs.Common.{refl, sym, subst, Ok, arith}
use Rattle.kv_recover.proofs.CauseLemmas.{handed}
use Rattle.kv_tools.specs.DumpedDisk.{IsListFault}
use Rattle.kv_tools.specs.Faults.{HasReportCause}
use Rattle.kv_tools.proofs.DisksLemmas.{are_at, reads_all-set, counts_all-set}
use Rattle.kv_tools.proofs.ListedLemmas.{items_of-next, placed-next, list-cause, list-fault, list-counts}
use Rattle.kv_tools.proofs.list.list_all.Goals as goal

pub returns-in_err-listed-clause-err : goal.returns-in_err-listed-clause-err
returns-in_err-listed-clause-err g c =
    handed c.from_residual.result _ _ c.from_residual.ensures.1 (λ e is.
    subst (IsListFault g.D.Disk c.args.disks.now) (sym is)
    (list-fault g.D.Disk c.args.disks.now _ c.loop-worker.worker _ _
    (λ tells. (c.loop-worker.invariant.items tells).stores) c.in_err-listed.ensures.cause))

pub returns-in_err-listed-clause-cause : goal.returns-in_err-listed-clause-cause
returns-in_err-listed-clause-cause g c =
    let at = are_at g.D.Disk c.args.disks.now c.loop-worker.disks c.loop-worker.worker
    c.index-disks-worker.result c.loop-worker-test.true c.loop-worker.invariant.reads in
    handed c.from_residual.result _ _ c.from_residual.ensures.1 (λ e is.
    subst (HasReportCause g.D.Disk c.args.disks.now) (sym is)
    (list-cause g.D.Disk c.args.disks.now c.loop-worker.worker _ _ _ at.old at.same
    c.in_err-listed.ensures.cause))

pub returns-in_err-listed-clause-reads : goal.returns-in_err-listed-clause-reads
returns-in_err-listed-clause-reads g c =
    let at = are_at g.D.Disk c.args.disks.now c.loop-worker.disks c.loop-worker.worker
    c.index-disks-worker.result c.loop-worker-test.true c.loop-worker.invariant.reads in
    reads_all-set g.D.Disk _ _ _ _ _ c.loop-worker.invariant.reads at.mid c.list_disk.ensures.reads

pub returns-in_err-listed-clause-faults : goal.returns-in_err-listed-clause-faults
returns-in_err-listed-clause-faults g c =
    let at = are_at g.D.Disk c.args.disks.now c.loop-worker.disks c.loop-worker.worker
    c.index-disks-worker.result c.loop-worker-test.true c.loop-worker.invariant.reads in
    list-counts g.D.Disk c.args.disks.now c.loop-worker.disks c.loop-worker.worker _ _ _ tt
    c.from_residual.result c.in_err-listed.field-0.0 c.from_residual.ensures.1
    c.loop-worker.invariant.calm at.mid c.in_err-listed.ensures.faults
    c.in_err-listed.ensures.cause

pub loop-worker-preserved : goal.loop-worker-preserved
loop-worker-preserved g c =
    let at = are_at g.D.Disk c.args.disks.now c.loop-worker.disks c.loop-worker.worker
    c.index-disks-worker.result c.loop-worker-test.true c.loop-worker.invariant.reads in
    record {
      items = λ tells. items_of-next g.D.Disk c.args.disks.now c.loop-worker.worker _ _ at.old tells
          (at.same tells) _ _ c.in_ok-listed.ensures.ok (c.loop-worker.invariant.items tells)
          c.loop-worker.invariant.places;
      places = placed-next g.D.Disk _ _ _ _ _ c.loop-worker.invariant.places
          c.in_ok-listed.ensures.ok;
      reads = reads_all-set g.D.Disk _ _ _ _ _ c.loop-worker.invariant.reads at.mid
          c.list_disk.ensures.reads;
      calm = counts_all-set g.D.Disk _ _ _ _ _ tt (Ok tt) c.loop-worker.invariant.calm at.mid
          c.in_ok-listed.ensures.faults (λ w n other. refl);
    }

pub returns-clause-places : goal.returns-clause-places
returns-clause-places g c = λ item has.
    let placed = c.loop-worker.invariant.places item has in (omega (arith, placed.0), placed.1)
