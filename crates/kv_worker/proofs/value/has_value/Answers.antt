-- a key that the batch didn't write is kept in a class exactly where it has a value
use Rattle.std.proofs.Common.{◌≡◌, ◌∙◌, ap, is_some, subst, None}
use Rattle.kv_model.specs.Batch.{last_write}
use Rattle.kv_worker.specs.Course.{IsSameLast}
use Rattle.kv_worker.specs.Worker.{start_of}
use Rattle.kv_worker.proofs.AnswerLemmas.{unwritten}
use Rattle.kv_worker.proofs.value.has_value.Goals as goal

pub returns-in-None : goal.returns-in-None
returns-in-None g c = λ course writes knows.
    c.is_some-in-None.ensures ∙ ap is_some c.class_of_key.ensures
    ∙ unwritten course (start_of g.D.Disk g.I.Index c.args.slabs.now) c.args.key.now
    (last_write writes c.args.key.now)
    (subst (λ o. IsSameLast course o (last_write writes c.args.key.now)) c.in-None.is knows.last_is)
    knows.found knows.kept
