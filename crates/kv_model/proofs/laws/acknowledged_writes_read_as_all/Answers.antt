-- both read as the last write of the key, or as the history
use Rattle.std.proofs.Common.{◌≡◌, [], ◌+◌, ◌-◌, length, le_refl, arith, sym, ◌∙◌, ap, is_some}
use Rattle.kv_model.specs.History.{value_at}
use Rattle.kv_model.specs.Batch.{accepted_writes}
use Rattle.kv_model.proofs.ReadingLemmas.{value_at-rises}
use Rattle.kv_model.proofs.AgreementLemmas.{same-some, value-same}
use Rattle.kv_model.proofs.NetLemmas.{RiseBetween-accepted_writes}
use Rattle.kv_model.proofs.AnswersLemmas.{acknowledged-reads, acknowledged_in}
use Rattle.kv_model.proofs.AnswersLemmas.{RiseBetween-acknowledged_in}
use Rattle.kv_model.proofs.laws.acknowledged_writes_read_as_all.Goals as goal

pub returns : goal.returns
returns c = λ told history base start requests stamp key begins below ends.
    let all = accepted_writes start [] base requests in
    let has : is_some (value_at history stamp key) ≡ is_some (start.value key) =
    ap is_some (value-same history base stamp (base - 1) key below (omega arith) (omega arith))
    ∙ same-some told (start.value key) (value_at history (base - 1) key) (begins.value key) in
    value_at-rises (acknowledged_in start [] base requests) history base (base + length requests)
    stamp key below (RiseBetween-acknowledged_in requests start [] base) ends
    ∙ acknowledged-reads requests start [] base key (value_at history stamp key) has
    ∙ sym (value_at-rises all history base (base + length requests) stamp key below
    (RiseBetween-accepted_writes requests start [] base base (le_refl base)) ends)
