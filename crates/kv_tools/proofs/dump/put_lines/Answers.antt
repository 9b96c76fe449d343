-- One line more.
use Rattle.std.proofs.Common.{◌++◌, refl, sym, ap, subst, ◌∙◌, Result, Ok, Err, arith}
use Rattle.std.proofs.Common.{◌<◌, length, rules}
use Rattle.std.proofs.lemmas.Option.{slice_get_read}
use Rattle.std.proofs.lemmas.Result.{err_from_is_err_and}
use Rattle.kv_recover.proofs.CauseLemmas.{handed, on_err}
use Rattle.kv_tools.specs.declared.fault.ToolFault.{ToolFault}
use Rattle.kv_tools.specs.Disks.{CountsAll}
use Rattle.kv_tools.specs.DumpedDisk.{IsLinesFault}
use Rattle.kv_tools.specs.Sent.{Puts, TakesSome}
use Rattle.kv_tools.proofs.DisksLemmas.{are_at, reads_all-set, counts_all-set}
use Rattle.kv_tools.proofs.DumpedLemmas.{stands_in, lines-next, lines-some, line-here, kept-here}
use Rattle.kv_tools.proofs.DumpedLemmas.{lines-fault, line-others}
use Rattle.kv_tools.proofs.dump.put_lines.Goals as goal

pub bounds-disks-worker : goal.bounds-disks-worker
bounds-disks-worker g c =
    let item = c.item-item.result in
    let here = slice_get_read c.args.items.now _ c.loop-item.item-index item refl
    c.loop-item-test.true c.item-item.is in
    let placed = c.requires.places item (stands_in _ _ item here) in
    omega (arith, placed.0, c.loop-item.invariant.reads.count)

pub offset_bounds-disks-worker : goal.offset_bounds-disks-worker
offset_bounds-disks-worker g c =
    let item = c.item-item.result in
    let here = slice_get_read c.args.items.now _ c.loop-item.item-index item refl
    c.loop-item-test.true c.item-item.is in
    let placed = c.requires.places item (stands_in _ _ item here) in
    let within : item.worker < length c.loop-item.disks =
    omega (arith, placed.0, c.loop-item.invariant.reads.count) in
    search rules

pub put_line-requires-clause-place : goal.put_line-requires-clause-place
put_line-requires-clause-place g c =
    let item = c.item-item.result in
    let here = slice_get_read c.args.items.now _ c.loop-item.item-index item refl
    c.loop-item-test.true c.item-item.is in
    (c.requires.places item (stands_in _ _ item here)).1

pub put_line-requires-clause-kept : goal.put_line-requires-clause-kept
put_line-requires-clause-kept g c =
    let item = c.item-item.result in
    let here = slice_get_read c.args.items.now _ c.loop-item.item-index item refl
    c.loop-item-test.true c.item-item.is in
    let placed = c.requires.places item (stands_in _ _ item here) in
    let at = are_at g.D.Disk c.args.disks.now c.loop-item.disks item.worker
    c.index-disks-worker.result placed.0 c.loop-item.invariant.reads in
    λ tells. kept-here g.D.Disk c.args.disks.now item _ _ at.old (at.same tells)
    (c.requires.kept tells item (stands_in _ _ item here))

pub returns-in_err-put_line-clause-err : goal.returns-in_err-put_line-clause-err
returns-in_err-put_line-clause-err g c =
    let item = c.item-item.result in
    let here = slice_get_read c.args.items.now _ c.loop-item.item-index item refl
    c.loop-item-test.true c.item-item.is in
    let placed = c.requires.places item (stands_in _ _ item here) in
    let at = are_at g.D.Disk c.args.disks.now c.loop-item.disks item.worker
    c.index-disks-worker.result placed.0 c.loop-item.invariant.reads in
    λ tells. on_err c.from_residual.result _
    (lines-some g.D.Disk c.args.disks.now c.args.items.now c.loop-item.item-index item here
    (c.loop-item.invariant.puts tells)
    (subst (λ line. TakesSome (g.Si.Sink.held c.loop-item.out) (g.Si.Sink.held c.put_line.new.out)
    (c.loop-item.text ++ line))
    (line-here g.D.Disk c.args.disks.now item _ _ at.old (at.same tells))
    (c.in_err-put_line.ensures.err tells)))

pub returns-in_err-put_line-clause-cause : goal.returns-in_err-put_line-clause-cause
returns-in_err-put_line-clause-cause g c =
    let item = c.item-item.result in
    let here = slice_get_read c.args.items.now _ c.loop-item.item-index item refl
    c.loop-item-test.true c.item-item.is in
    let placed = c.requires.places item (stands_in _ _ item here) in
    handed c.from_residual.result _ _ c.from_residual.ensures.1 (λ e is.
    subst (IsLinesFault _) (sym is)
    (lines-fault item.worker _ _ placed.0 c.in_err-put_line.ensures.cause))

pub returns-in_err-put_line-clause-reads : goal.returns-in_err-put_line-clause-reads
returns-in_err-put_line-clause-reads g c =
    let item = c.item-item.result in
    let here = slice_get_read c.args.items.now _ c.loop-item.item-index item refl
    c.loop-item-test.true c.item-item.is in
    let placed = c.requires.places item (stands_in _ _ item here) in
    let at = are_at g.D.Disk c.args.disks.now c.loop-item.disks item.worker
    c.index-disks-worker.result placed.0 c.loop-item.invariant.reads in
    reads_all-set g.D.Disk _ _ _ _ _ c.loop-item.invariant.reads at.mid c.put_line.ensures.reads

pub returns-in_err-put_line-clause-faults : goal.returns-in_err-put_line-clause-faults
returns-in_err-put_line-clause-faults g c =
    let item = c.item-item.result in
    let here = slice_get_read c.args.items.now _ c.loop-item.item-index item refl
    c.loop-item-test.true c.item-item.is in
    let placed = c.requires.places item (stands_in _ _ item here) in
    let at = are_at g.D.Disk c.args.disks.now c.loop-item.disks item.worker
    c.index-disks-worker.result placed.0 c.loop-item.invariant.reads in
    let fault = c.in_err-put_line.field-0.0 in
    let failed : Result (Unit {0}) ToolFault = Err fault in
    let given = err_from_is_err_and c.from_residual.result c.from_residual.ensures.1 in
    subst (CountsAll g.D.Disk c.args.disks.now _) (sym (given.1 ∙ ap Err given.2))
    (counts_all-set g.D.Disk _ _ _ _ _ tt failed c.loop-item.invariant.calm at.mid
    c.in_err-put_line.ensures.faults
    (line-others (Unit {0}) item.worker fault c.in_err-put_line.ensures.cause))

pub loop-item-preserved : goal.loop-item-preserved
loop-item-preserved g c =
    let item = c.item-item.result in
    let here = slice_get_read c.args.items.now _ c.loop-item.item-index item refl
    c.loop-item-test.true c.item-item.is in
    let placed = c.requires.places item (stands_in _ _ item here) in
    let at = are_at g.D.Disk c.args.disks.now c.loop-item.disks item.worker
    c.index-disks-worker.result placed.0 c.loop-item.invariant.reads in
    record {
      puts = λ tells. lines-next g.D.Disk c.args.disks.now c.args.items.now
          c.loop-item.item-index item here (c.loop-item.invariant.puts tells)
          (subst (Puts (g.Si.Sink.held c.loop-item.out) (g.Si.Sink.held c.put_line.new.out)
          c.loop-item.text c.put_line.new.text) (line-here g.D.Disk c.args.disks.now item _ _ at.old
          (at.same tells)) (c.in_ok-put_line.ensures.ok tells));
      reads = reads_all-set g.D.Disk _ _ _ _ _ c.loop-item.invariant.reads at.mid
          c.put_line.ensures.reads;
      calm = counts_all-set g.D.Disk _ _ _ _ _ tt (Ok tt) c.loop-item.invariant.calm at.mid
          c.in_ok-put_line.ensures.faults (λ w n other. refl);
      sink = (let now = c.in_ok-put_line.ensures.counted in let was = c.loop-item.invariant.sink in
          cc);
    }
