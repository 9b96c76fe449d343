use Rattle.kv_model.specs.Fold.{TakingFirst}
use Rattle.kv_fold.proofs.SumLemmas.{empty_state}
use Rattle.kv_fold.proofs.first.First.new.Goals as goal

pub returns-clause-empty : goal.returns-clause-empty
returns-clause-empty c = rw c.new.ensures.items (empty_state (TakingFirst c.args.most))
