use Rattle.kv_fold.proofs.ResultLemmas.{results}
use Rattle.kv_fold.proofs.laws.results_are_folds.Goals as goal

pub returns : goal.returns
returns c = results
