use Rattle.kv_scan.proofs.WalkLemmas.{owes_finished}
use Rattle.kv_scan.proofs.laws.folds_share.Goals as goal

pub returns : goal.returns
returns c = owes_finished
