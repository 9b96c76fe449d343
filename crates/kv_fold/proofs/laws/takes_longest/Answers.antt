use Rattle.kv_fold.proofs.ResultLemmas.{longest}
use Rattle.kv_fold.proofs.laws.takes_longest.Goals as goal

pub returns : goal.returns
returns c = longest
