-- The disk is checked, and then all is found.
use Rattle.std.proofs.Common.{sym, subst, IsTrue}
use Rattle.kv_disk.proofs.StepsLemmas.{reads-then}
use Rattle.kv_recover.specs.Causes.{HasMakeCause}
use Rattle.kv_recover.specs.Opened.{FindsAllBelow}
use Rattle.kv_recover.proofs.CauseLemmas.{handed, past-cause, at_first}
use Rattle.kv_recover.proofs.ReadingLemmas.{readable-own, readable-start, readable-opens}
use Rattle.kv_recover.proofs.reading.read_all.Goals as goal

pub returns-in_err-found-clause-reads : goal.returns-in_err-found-clause-reads
returns-in_err-found-clause-reads g c =
    reads-then g.D.Disk _ _ _ c.check_store.ensures.reads c.find_all.ensures.reads

pub returns-clause-reads : goal.returns-clause-reads
returns-clause-reads g c =
    reads-then g.D.Disk _ _ _ c.check_store.ensures.reads c.find_all.ensures.reads

pub returns-clause-found : goal.returns-clause-found
returns-clause-found g c = λ tells.
    subst (λ image. FindsAllBelow image c.args.share.worker c.args.share.workers 12
    (g.I.Index.entries c.find_all.new.items.index) c.in_ok-found.found.floor c.in_ok-found.found.ends)
    (c.check_store.ensures.reads.seen tells) (c.in_ok-found.ensures.found tells)

pub returns-clause-opens : goal.returns-clause-opens
returns-clause-opens g c = λ tells.
    readable-opens c.in_ok-fresh.fresh (g.D.Disk.seen c.args.disk.now) c.args.share.worker
    c.args.share.workers (g.I.Index.entries c.find_all.new.items.index) c.in_ok-found.found.floor
    c.in_ok-found.found.ends c.requires.below c.requires.limit
    (c.in_ok-fresh.ensures.readable tells)
    (subst (λ image. FindsAllBelow image c.args.share.worker c.args.share.workers 12
    (g.I.Index.entries c.find_all.new.items.index) c.in_ok-found.found.floor c.in_ok-found.found.ends)
    (c.check_store.ensures.reads.seen tells) (c.in_ok-found.ensures.found tells))

pub returns-in_err-found-clause-cause : goal.returns-in_err-found-clause-cause
returns-in_err-found-clause-cause g c =
    let first = g.D.Disk.seen c.args.disk.now in
    handed c.from_residual-in_err-found.result _ _ c.from_residual-in_err-found.ensures.1
    (λ e is. subst (HasMakeCause (IsTrue g.D.Disk.tells) first c.args.share.worker
    c.args.share.workers)
    (sym is) (past-cause (IsTrue g.D.Disk.tells) first c.args.share.worker c.args.share.workers
    c.in_err-found.field-0.0
    (λ tells. readable-own c.in_ok-fresh.fresh first c.args.share.worker c.args.share.workers
    c.requires.below c.requires.limit (c.in_ok-fresh.ensures.readable tells))
    (λ tells. readable-start c.in_ok-fresh.fresh first c.args.share.worker c.args.share.workers
    (c.in_ok-fresh.ensures.readable tells))
    (at_first (IsTrue g.D.Disk.tells) (g.D.Disk.seen c.check_store.new.disk) first
    c.in_err-found.field-0.0 c.check_store.ensures.reads.seen c.in_err-found.ensures.cause)))
