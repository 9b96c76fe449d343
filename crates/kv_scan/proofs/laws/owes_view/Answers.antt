use Rattle.kv_scan.proofs.LawLemmas.{owes_prepared}
use Rattle.kv_scan.proofs.laws.owes_view.Goals as goal

pub returns : goal.returns
returns c = owes_prepared
