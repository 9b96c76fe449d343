use Rattle.kv_model.specs.Fold.{AddingBytes}
use Rattle.kv_fold.proofs.SumLemmas.{empty_state}
use Rattle.kv_fold.proofs.sums.ByteSum.new.Goals as goal

pub returns : goal.returns
returns c = empty_state AddingBytes
