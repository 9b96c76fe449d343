-- a put is of good sizes where it has a class
use Rattle.std.proofs.Common.{◌∙◌, ap, sym, is_some, not, length}
use Rattle.kv_base.specs.declared.request.Request.{Request}
use Rattle.kv_model.specs.Agreement.{refusal_of}
use Rattle.kv_model.specs.Layout.{all_classes, class_of}
use Rattle.kv_groups.proofs.TakeLemmas.{put-fits}
use Rattle.kv_groups.proofs.open_task.has_good_sizes.Goals as goal

pub returns-in-Put : goal.returns-in-Put
returns-in-Put c = c.is_some.ensures
    ∙ ap is_some (c.class_of.ensures.value
    ∙ ap (λ n. class_of all_classes n c.len-in-Put.result) c.len.ensures
    ∙ ap (class_of all_classes (length c.in-Put.key)) c.len-in-Put.ensures)
    ∙ put-fits (length c.in-Put.key) (length c.in-Put.value)
    ∙ ap (λ (r : Request). not (is_some (refusal_of all_classes r))) (sym c.in-Put.is)
