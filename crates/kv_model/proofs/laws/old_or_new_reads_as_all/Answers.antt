-- before the batch, or behind it
use Rattle.std.proofs.Common.{◌≡◌, ℕ, List, [], ◌+◌, ◌-◌, ◌++◌, length, le_refl, arith}
use Rattle.std.proofs.Common.{sym, ◌∙◌, ap, refl, subst, ⊎_elim, is_some}
use Rattle.kv_model.specs.History.{Write, value_at}
use Rattle.kv_model.specs.Batch.{accepted_writes, last_write, value_or}
use Rattle.kv_model.specs.BatchLaws.{RiseBetween, ReadsAsAll}
use Rattle.kv_model.specs.Items.{SameValue}
use Rattle.kv_model.proofs.ReadingLemmas.{value_at-rises, up_to, RiseBetween-from}
use Rattle.kv_model.proofs.AgreementLemmas.{value-same, SameValue-or, value-append-above}
use Rattle.kv_model.proofs.AgreementLemmas.{AllFrom-weaken, same-some}
use Rattle.kv_model.proofs.NetLemmas.{RiseBetween-accepted_writes, net-reads}
use Rattle.kv_model.proofs.AnswersLemmas.{acknowledged-reads, acknowledged_in}
use Rattle.kv_model.proofs.AnswersLemmas.{RiseBetween-acknowledged_in}
use Rattle.kv_model.proofs.laws.old_or_new_reads_as_all.Goals as goal

pub returns : goal.returns
returns c = λ told history base start requests key value begins one below either.
    let all : List Write = accepted_writes start [] base requests in
    let answered : List Write = acknowledged_in start [] base requests in
    let high : ℕ = base + length requests in
    let rise : RiseBetween base high all =
    RiseBetween-accepted_writes requests start [] base base (le_refl base) in
    let rise_answered : RiseBetween base high answered =
    RiseBetween-acknowledged_in requests start [] base in
    let still : (more : List Write) → RiseBetween base high more
    → value_at (history ++ more) (base - 1) key ≡ value_at history (base - 1) key = λ more rises.
    value-append-above history more (base - 1) key (AllFrom-weaken (base - 1 + 1) base more
    (omega arith) (RiseBetween-from base high more rises)) in
    let late : value_at history (high - 1) key ≡ value_at history (base - 1) key =
    value-same history base (high - 1) (base - 1) key below (omega arith) (omega arith) in
    let has : is_some (value_at history (high - 1) key) ≡ is_some (start.value key) =
    ap is_some late
    ∙ same-some told (start.value key) (value_at history (base - 1) key) (begins.value key) in
    let new_is : value_at (history ++ all) (high - 1) key ≡ value_or (last_write all key)
    (value_at history (base - 1) key) =
    value_at-rises all history base high (high - 1) key below rise (omega arith)
    ∙ ap (value_or (last_write all key)) late in
    let answered_is : value_at (history ++ answered) (high - 1) key ≡ value_or (last_write all key)
    (value_at history (base - 1) key) =
    value_at-rises answered history base high (high - 1) key below rise_answered (omega arith)
    ∙ acknowledged-reads requests start [] base key (value_at history (high - 1) key) has
    ∙ ap (value_or (last_write all key)) late in
    ⊎_elim
    (λ old.
    let same : SameValue told value (value_at history (base - 1) key) =
    subst (λ o. SameValue told o (value_at history (base - 1) key)) (sym old)
    (begins.value key) in
    let reads : ReadsAsAll told history base start requests key value = record {
      stamp = base - 1;
      above = up_to base (base - 1) history (omega arith) below;
      within = omega arith;
      accepted = subst (SameValue told value) (sym (still all rise)) same;
      acknowledged = subst (SameValue told value) (sym (still answered rise_answered)) same;
    } in reads)
    (λ new.
    let same : SameValue told value (value_or (last_write all key)
    (value_at history (base - 1) key)) =
    subst (λ o. SameValue told o (value_or (last_write all key) (value_at history (base - 1)
    key))) (sym (new ∙ net-reads all start key (start.value key) refl))
    (SameValue-or told (last_write all key) (start.value key) (value_at history (base - 1) key)
    (begins.value key)) in
    let reads : ReadsAsAll told history base start requests key value = record {
      stamp = high - 1;
      above = up_to base (high - 1) history (omega arith) below;
      within = omega arith;
      accepted = subst (SameValue told value) (sym new_is) same;
      acknowledged = subst (SameValue told value) (sym answered_is) same;
    } in reads)
    either
