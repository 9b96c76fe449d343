-- What was listed is what the disks keep, and its lines are put.
use Rattle.std.proofs.Common.{sym, ap, subst, ◌∙◌, Result, Ok, Err, Contains, length}
use Rattle.std.proofs.lemmas.Result.{err_from_is_err_and}
use Rattle.kv_recover.proofs.CauseLemmas.{handed}
use Rattle.kv_tools.specs.declared.fault.ToolFault.{ToolFault}
use Rattle.kv_tools.specs.Disks.{CountsAll}
use Rattle.kv_tools.specs.Dumped.{AreItemsOf, ArePlaced, DumpsUntil}
use Rattle.kv_tools.proofs.DumpedLemmas.{kept-were, reads_all-then, counts_all-then, until-lines}
use Rattle.kv_tools.proofs.UntilLemmas.{front-put, front-flushed, dumps-all, counts-sink}
use Rattle.kv_tools.proofs.dump.dump_all.Goals as goal

pub put_lines-requires-clause-places : goal.put_lines-requires-clause-places
put_lines-requires-clause-places g c =
    subst (λ n. ArePlaced n c.as_slice.result.now) (sym c.list_all.ensures.reads.count)
    (subst (ArePlaced (length c.args.disks.now)) (sym c.as_slice.ensures.value)
    c.in_ok-items.ensures.places)

pub put_lines-requires-clause-kept : goal.put_lines-requires-clause-kept
put_lines-requires-clause-kept g c = λ tells item has.
    kept-were g.D.Disk c.args.disks.now _ item tells c.list_all.ensures.reads
    ((c.in_ok-items.ensures.items tells).each item
    (subst (λ l. Contains l item) c.as_slice.ensures.value has))

pub returns-in_err-put_lines-clause-err : goal.returns-in_err-put_lines-clause-err
returns-in_err-put_lines-clause-err g c =
    handed c.from_residual-in_err-put_lines.result _ _
    c.from_residual-in_err-put_lines.ensures.1 (λ e is.
    subst (DumpsUntil g.D.Disk c.args.disks.now (g.Si.Sink.held c.args.out.now)
    (g.Si.Sink.held c.put_lines.new.out)) (sym is)
    (until-lines g.D.Disk c.args.disks.now _ _ _ _ c.in_err-put_lines.ensures.cause (λ tells.
    front-put g.D.Disk c.args.disks.now _ _ _ c.in_ok-text.ensures tells
    c.list_all.ensures.reads (subst (AreItemsOf g.D.Disk c.args.disks.now (length c.args.disks.now))
    (sym c.as_slice.ensures.value) (c.in_ok-items.ensures.items tells)) _ _
    (c.in_err-put_lines.ensures.err tells))))

pub returns-in_err-put_lines-clause-reads : goal.returns-in_err-put_lines-clause-reads
returns-in_err-put_lines-clause-reads g c =
    reads_all-then g.D.Disk _ _ _ c.list_all.ensures.reads c.put_lines.ensures.reads

pub returns-in_err-put_lines-clause-faults : goal.returns-in_err-put_lines-clause-faults
returns-in_err-put_lines-clause-faults g c =
    let fault = c.in_err-put_lines.field-0.0 in
    let failed : Result (Unit {0}) ToolFault = Err fault in
    let given = err_from_is_err_and c.from_residual-in_err-put_lines.result
    c.from_residual-in_err-put_lines.ensures.1 in
    subst (CountsAll g.D.Disk c.args.disks.now c.put_lines.new.disks)
    (sym (given.1 ∙ ap Err given.2))
    (counts_all-then g.D.Disk _ _ _ _ failed c.list_all.ensures.reads
    c.in_ok-items.ensures.faults c.in_err-put_lines.ensures.faults)

pub returns-in_err-flush-clause-err : goal.returns-in_err-flush-clause-err
returns-in_err-flush-clause-err g c =
    handed c.from_residual-in_err-flush.result _ _
    c.from_residual-in_err-flush.ensures.1 (λ e is.
    subst (DumpsUntil g.D.Disk c.args.disks.now (g.Si.Sink.held c.args.out.now)
    (g.Si.Sink.held c.flush.new.out)) (sym is)
    (λ tells. front-flushed g.D.Disk c.args.disks.now _ _ _ c.in_ok-text.ensures tells
    c.list_all.ensures.reads (subst (AreItemsOf g.D.Disk c.args.disks.now (length c.args.disks.now))
    (sym c.as_slice.ensures.value) (c.in_ok-items.ensures.items tells)) _ _ _ _
    (c.in_ok-put_lines.ensures.ok tells)
    c.in_err-flush.ensures.err))

pub returns-in_err-flush-clause-reads : goal.returns-in_err-flush-clause-reads
returns-in_err-flush-clause-reads g c =
    reads_all-then g.D.Disk _ _ _ c.list_all.ensures.reads c.put_lines.ensures.reads

pub returns-in_err-flush-clause-faults : goal.returns-in_err-flush-clause-faults
returns-in_err-flush-clause-faults g c =
    let given = err_from_is_err_and c.from_residual-in_err-flush.result
    c.from_residual-in_err-flush.ensures.1 in
    subst (CountsAll g.D.Disk c.args.disks.now c.put_lines.new.disks)
    (sym (given.1 ∙ ap Err given.2))
    (counts-sink g.D.Disk _ _ (counts_all-then g.D.Disk _ _ _ _ (Ok tt)
    c.list_all.ensures.reads c.in_ok-items.ensures.faults c.in_ok-put_lines.ensures.faults))

pub returns-clause-ok : goal.returns-clause-ok
returns-clause-ok g c = λ tells.
    dumps-all g.D.Disk c.args.disks.now _ _ _ c.in_ok-text.ensures tells
    c.list_all.ensures.reads (subst (AreItemsOf g.D.Disk c.args.disks.now (length c.args.disks.now))
    (sym c.as_slice.ensures.value) (c.in_ok-items.ensures.items tells)) _ _ _ _
    (c.in_ok-put_lines.ensures.ok tells)
    c.in_ok-flush.ensures.ok

pub returns-clause-reads : goal.returns-clause-reads
returns-clause-reads g c =
    reads_all-then g.D.Disk _ _ _ c.list_all.ensures.reads c.put_lines.ensures.reads

pub returns-clause-faults : goal.returns-clause-faults
returns-clause-faults g c = counts_all-then g.D.Disk _ _ _ _ (Ok tt) c.list_all.ensures.reads
    c.in_ok-items.ensures.faults c.in_ok-put_lines.ensures.faults
