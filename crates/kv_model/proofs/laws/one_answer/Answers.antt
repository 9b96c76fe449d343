-- both batches find the same
use Rattle.std.proofs.Common.{◌≡◌, [], ◌++◌, sym, ap, ◌∙◌}
use Rattle.kv_model.specs.Batch.{Start, answers, accepted_writes, net}
use Rattle.kv_model.proofs.ItemLemmas.{one_start}
use Rattle.kv_model.proofs.laws.one_answer.Goals as goal

pub returns : goal.returns
returns c = λ before after also base limit requests replies others first second.
    let same : first.start ≡ second.start = one_start before base first.start second.start
    first.begins second.begins (first.layout ∙ sym second.layout)
    (first.limit_is ∙ sym second.limit_is) in (
      first.replies_are ∙ ap (λ (s : Start). answers s [] base requests) same
          ∙ sym second.replies_are,
      first.taken ∙ ap (λ (s : Start). before ++ net s (accepted_writes s [] base requests)) same
          ∙ sym second.taken,
    )
