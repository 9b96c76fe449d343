-- One more number may be the greatest.
use Rattle.std.proofs.Common.{◌+◌, arith, subst, sym, take}
use Rattle.std.proofs.lemmas.List.{take_all}
use Rattle.kv_model.specs.Plain.{IsGreatest}
use Rattle.kv_model.proofs.ListedLemmas.{greatest-more}
use Rattle.kv_model.proofs.image.greatest.Goals as goal

pub loop-number-preserved : goal.loop-number-preserved
loop-number-preserved c =
    let i = c.loop-number.number-index in
    subst (IsGreatest (take (i + 1) c.args.numbers.now)) (sym c.greater-most.ensures)
    (greatest-more c.args.numbers.now i c.loop-number.most (omega arith) c.loop-number.invariant)

pub returns : goal.returns
returns c = subst (λ list. IsGreatest list c.loop-number.most)
    (take_all c.loop-number.number-index c.args.numbers.now (omega arith)) c.loop-number.invariant
