-- a delete is passed on
use Rattle.std.proofs.Common.{subst, sym, ◌≡◌, ℕ, List}
use Rattle.kv_base.specs.declared.request.Request.{Request}
use Rattle.kv_base.specs.declared.request.Request.TheVariants.{Delete}
use Rattle.kv_model.specs.Batch.{Start}
use Rattle.kv_worker.specs.Answering.{AnswersIn}
use Rattle.kv_worker.specs.Batches.{requests_in}
use Rattle.kv_worker.specs.Worker.{start_of}
use Rattle.kv_worker.proofs.answer.answer.Goals as goal

pub returns-in_ok-delete-in-Delete-clause-reply : goal.returns-in_ok-delete-in-Delete-clause-reply
returns-in_ok-delete-in-Delete-clause-reply g c =
    let now : Start = start_of g.D.Disk g.I.Index c.args.slabs.now in
    let asked : List Request = requests_in c.args.tasks.now in
    subst (λ r. AnswersIn g.D.Disk.tells c.args.pass.now now asked r c.args.task c.args.stamp
    c.in_ok-delete-in-Delete.field-0 c.delete.new.pass) (sym c.in-Delete.is)
    (subst (λ k. AnswersIn g.D.Disk.tells c.args.pass.now now asked (Delete k) c.args.task
    c.args.stamp c.in_ok-delete-in-Delete.field-0 c.delete.new.pass)
    c.as_slice-in-Delete.ensures c.in_ok-delete-in-Delete.ensures.reply)
