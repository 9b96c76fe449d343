use Rattle.std.proofs.Common.{ap, ◌∙◌, length, arith, ◌≡◌}
use Rattle.kv_model.specs.Fold.{items_bytes}
use Rattle.kv_fold.specs.States.{first_state}
use Rattle.kv_fold.specs.Firsts.{FirstItems}
use Rattle.kv_fold.proofs.ResultLemmas.{result_length, results}
use Rattle.kv_fold.proofs.first.FirstFold.result.Goals as goal

pub returns-clause-result : goal.returns-clause-result
returns-clause-result c bag was =
    c.from_vec.ensures ∙ c.in_ok-bytes.ensures ∙ ap items_bytes c.deref.ensures.value
    ∙ ap (λ (l : FirstItems). items_bytes l.first.items) c.self.view_is
    ∙ results (first_state c.args.self.now.most c.args.self.now.first) bag was

pub returns-clause-limit : goal.returns-clause-limit
returns-clause-limit c =
    let written : c.from_vec.result ≡ items_bytes c.self.inside.items.items =
    c.from_vec.ensures ∙ c.in_ok-bytes.ensures ∙ ap items_bytes c.deref.ensures.value in
    let long : length c.from_vec.result
    ≡ length (items_bytes c.self.inside.items.items) = ap length written in
    omega (
      arith,
      long,
      result_length c.self.inside.items.items,
      c.self.invariant.counted,
      c.self.invariant.small,
    )
