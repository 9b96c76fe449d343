-- before the batch, or behind it
use Rattle.std.proofs.Common.{[], ◌+◌, ◌-◌, length, le_refl, arith}
use Rattle.std.proofs.Common.{sym, ◌∙◌, ap}
use Rattle.std.proofs.Common.{subst, ◌++◌, ⊎_elim}
use Rattle.kv_model.specs.History.{value_at}
use Rattle.kv_model.specs.Batch.{accepted_writes, last_write, last_writes, value_or, net}
use Rattle.kv_model.specs.Batch.{changes_something}
use Rattle.kv_model.specs.BatchLaws.{RiseBetween}
use Rattle.kv_model.specs.Items.{SameValue}
use Rattle.kv_model.proofs.ReadingLemmas.{value_at-rises, up_to, RiseBetween-from}
use Rattle.kv_model.proofs.AgreementLemmas.{value-same, SameValue-or, value-append-above}
use Rattle.kv_model.proofs.AgreementLemmas.{AllFrom-weaken}
use Rattle.kv_model.proofs.NetLemmas.{RiseBetween-accepted_writes, RiseBetween-filter}
use Rattle.kv_model.proofs.NetLemmas.{RiseBetween-last_writes}
use Rattle.kv_model.proofs.laws.old_or_new_is_a_prefix.Goals as goal

pub returns : goal.returns
returns c = λ told history base start requests key value begins one below either.
    let all = accepted_writes start [] base requests in
    let changes = net start all in
    let rise : RiseBetween base (base + length requests) changes =
    RiseBetween-filter (last_writes all) (changes_something start) base (base + length requests)
    (RiseBetween-last_writes all base (base + length requests)
    (RiseBetween-accepted_writes requests start [] base base (le_refl base))) in
    ⊎_elim
    (λ old. (
      base - 1,
      (
        up_to base (base - 1) history (omega arith) below,
        subst (λ o. SameValue told o (value_at (history ++ changes) (base - 1) key)) (sym old)
            (subst (SameValue told (start.value key)) (sym (value-append-above history changes
            (base - 1)
            key (AllFrom-weaken (base - 1 + 1) base changes (omega arith) (RiseBetween-from base
            (base
            + length requests) changes rise)))) (begins.value key)),
      ),
    ))
    (λ new. (
      base + length requests,
      (
        up_to base (base + length requests) history (omega arith)
            below,
        subst (λ o. SameValue told o (value_at (history ++ changes) (base + length requests)
            key)) (sym new)
            (subst (SameValue told (value_or (last_write changes key) (start.value key)))
            (sym (value_at-rises changes history base (base + length requests) (base + length
            requests)
            key below rise (omega arith)
            ∙ ap (value_or (last_write changes key)) (value-same history base (base + length
            requests)
            (base - 1) key below (omega arith) (omega arith))))
            (SameValue-or told (last_write changes key) (start.value key) (value_at history (base -
            1)
            key) (begins.value key))),
      ),
    ))
    either
