-- The slabs are read, and then the head page is written.
use Rattle.std.proofs.Common.{inl, inr, ap, ◌∙◌}
use Rattle.kv_base.specs.Image.{with_page}
use Rattle.kv_model.specs.Head.{head_page}
use Rattle.kv_recover.proofs.CauseLemmas.{on_err}
use Rattle.kv_recover.proofs.PrepareSteps.{settled-reads, blank-moments, made-moments}
use Rattle.kv_recover.proofs.head.make_store.Goals as goal

pub returns-in_err-check_slabs-clause-any_moment : goal.returns-in_err-check_slabs-clause-any_moment
returns-in_err-check_slabs-clause-any_moment g c =
    blank-moments g.D.Disk g.met.D.Disk.told c.args.share.worker c.args.share.workers c.args.disk.now
    c.check_slabs.new.disk c.requires.settled c.check_slabs.ensures.reads

pub returns-in_err-write_head-clause-any_moment : goal.returns-in_err-write_head-clause-any_moment
returns-in_err-write_head-clause-any_moment g c =
    made-moments g.D.Disk g.met.D.Disk.told c.args.share.worker c.args.share.workers c.args.disk.now
    c.check_slabs.new.disk c.requires.settled c.check_slabs.ensures.reads c.write_head.new.disk
    c.in_ok-check_slabs.ensures.ok (c.write_head.ensures.any_moment (settled-reads g.D.Disk
    g.met.D.Disk.told c.args.disk.now c.check_slabs.new.disk c.requires.settled
    c.check_slabs.ensures.reads))

pub returns-clause-any_moment : goal.returns-clause-any_moment
returns-clause-any_moment g c =
    made-moments g.D.Disk g.met.D.Disk.told c.args.share.worker c.args.share.workers c.args.disk.now
    c.check_slabs.new.disk c.requires.settled c.check_slabs.ensures.reads c.write_head.new.disk
    c.in_ok-check_slabs.ensures.ok (c.write_head.ensures.any_moment (settled-reads g.D.Disk
    g.met.D.Disk.told c.args.disk.now c.check_slabs.new.disk c.requires.settled
    c.check_slabs.ensures.reads))

pub returns-clause-head : goal.returns-clause-head
returns-clause-head g c = λ tells. c.in_ok-write_head.ensures.head tells
    ∙ ap (λ image. with_page image 0 0 (head_page c.args.share.worker c.args.share.workers))
    (c.check_slabs.ensures.reads.seen tells)

pub returns-in_err-check_slabs-clause-written : goal.returns-in_err-check_slabs-clause-written
returns-in_err-check_slabs-clause-written g c =
    on_err c.from_residual.result _ (inl c.check_slabs.ensures.reads)

pub returns-in_err-write_head-clause-written : goal.returns-in_err-write_head-clause-written
returns-in_err-write_head-clause-written g c =
    on_err c.from_residual-in_err-write_head.result _ (inr c.in_ok-check_slabs.ensures.ok)
