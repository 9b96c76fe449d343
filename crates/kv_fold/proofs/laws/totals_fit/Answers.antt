use Rattle.kv_fold.proofs.ResultLemmas.{totals}
use Rattle.kv_fold.proofs.laws.totals_fit.Goals as goal

pub returns : goal.returns
returns c = totals
