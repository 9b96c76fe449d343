-- the delete is accepted, and its reply is by the value
use Rattle.std.proofs.Common.{◌≡◌, ap, sym, ◌∙◌, true, false, is_some, List, None}
use Rattle.kv_model.specs.Agreement.{told_of}
use Rattle.kv_model.specs.Batch.{Start, value_after, delete_reply}
use Rattle.kv_model.specs.History.{Write}
use Rattle.kv_worker.specs.Answering.{KnowsLast, Stands}
use Rattle.kv_worker.specs.Batches.{requests_in}
use Rattle.kv_worker.specs.Course.{Accepts, Course}
use Rattle.kv_worker.specs.Worker.{start_of}
use Rattle.kv_worker.proofs.AnswerLemmas.{accepts-delete, delete_write, removed, absent, same-last}
use Rattle.kv_worker.proofs.answer.delete.Goals as goal

pub accept-requires : goal.accept-requires
accept-requires g c =
    let a = c.args in
    let s = c.requires in
    let now : Start = start_of g.D.Disk g.I.Index a.slabs.now in (
      s.0,
      (
        s.1.0,
        (
          delete_write a.key.now a.stamp,
          accepts-delete s.0 s.1.0 a.pass.now now a.key.now c.find-before.result a.task a.stamp
              s.1.1.0 c.find-before.ensures,
        ),
      ),
    )

pub returns-then-has-clause-reply : goal.returns-then-has-clause-reply
returns-then-has-clause-reply g c = λ course writes stands asked.
    let a = c.args in
    let now : Start = start_of g.D.Disk g.I.Index a.slabs.now in
    record {
      answer = ap (told_of g.D.Disk.tells) (removed (value_after course.start writes a.key.now)
          a.stamp
          (sym c.if-has.true ∙ c.has_value-has.ensures course writes (record {
            last_is = same-last course writes a.pass.now a.key.now c.find-before.result
                stands.follows c.find-before.ensures;
            found = stands.found;
            requests = asked;
            kept = stands.follows.kept;
          }) ∙ ap (λ (s : Start). is_some (value_after s writes a.key.now)) (sym stands.found)));
      follows = c.in_ok-accept.ensures course writes (delete_write a.key.now a.stamp)
          (accepts-delete course writes a.pass.now now a.key.now c.find-before.result a.task a.stamp
          stands c.find-before.ensures);
    }

pub returns-else-has-clause-reply : goal.returns-else-has-clause-reply
returns-else-has-clause-reply g c = λ course writes stands asked.
    let a = c.args in
    let now : Start = start_of g.D.Disk g.I.Index a.slabs.now in
    record {
      answer = ap (told_of g.D.Disk.tells) (absent (value_after course.start writes a.key.now)
          a.stamp
          (sym c.if-has.false ∙ c.has_value-has.ensures course writes (record {
            last_is = same-last course writes a.pass.now a.key.now c.find-before.result
                stands.follows c.find-before.ensures;
            found = stands.found;
            requests = asked;
            kept = stands.follows.kept;
          }) ∙ ap (λ (s : Start). is_some (value_after s writes a.key.now)) (sym stands.found)));
      follows = c.in_ok-accept.ensures course writes (delete_write a.key.now a.stamp)
          (accepts-delete course writes a.pass.now now a.key.now c.find-before.result a.task a.stamp
          stands c.find-before.ensures);
    }
