use Rattle.kv_model.specs.Fold.{AddingLengths}
use Rattle.kv_fold.proofs.SumLemmas.{empty_state}
use Rattle.kv_fold.proofs.sums.ValueLengths.new.Goals as goal

pub returns : goal.returns
returns c = empty_state AddingLengths
