-- the pass stands behind the batch, and a batch finds the same at the store that was read
use Rattle.std.proofs.Common.{◌≡◌, ◌*◌, ℕ, List, [], length, ap, sym, ◌∙◌, subst}
use Rattle.kv_base.specs.declared.request.Request.{Request}
use Rattle.kv_model.specs.Batch.{Start, accepted_writes}
use Rattle.kv_worker.specs.Batches.{requests_in}
use Rattle.kv_worker.specs.Course.{Follows, course_of}
use Rattle.kv_worker.specs.Steps.{net_of}
use Rattle.kv_worker.specs.Worker.{start_of}
use Rattle.kv_worker.proofs.PlanLemmas.{net-room}
use Rattle.kv_worker.proofs.ReadLemmas.{start-read}
use Rattle.kv_worker.proofs.prepare.prepare.Goals as goal

pub net_changes-requires-clause-follows : goal.net_changes-requires-clause-follows
net_changes-requires-clause-follows g c =
    let requests : List Request = requests_in c.args.tasks.now in
    subst (λ (s : Start). Follows (course_of s requests c.args.base)
    (accepted_writes s [] c.args.base requests) c.answer_all.new.pass)
    (sym (start-read g.D.Disk g.I.Index (16 * length c.args.tasks.now) c.args.slabs.now
    c.answer_all.new.slabs c.in_ok-replies.ensures.read)) c.in_ok-replies.ensures.replies.follows

pub returns-clause-ok : goal.returns-clause-ok
returns-clause-ok g c =
    let requests : List Request = requests_in c.args.tasks.now in
    let start : Start = start_of g.D.Disk g.I.Index c.args.slabs.now in
    record {
      answers_are = c.in_ok-replies.ensures.replies.answers_are;
      framed = c.in_ok-replies.ensures.framed;
      changes_are = c.in_ok-changes.ensures
          ∙ ap (λ (s : Start). net_of s c.args.base requests)
          (start-read g.D.Disk g.I.Index (16 * length c.args.tasks.now) c.args.slabs.now
          c.answer_all.new.slabs c.in_ok-replies.ensures.read);
      room = net-room start requests c.args.base c.answer_all.new.pass
          c.in_ok-replies.ensures.replies.follows;
    }
