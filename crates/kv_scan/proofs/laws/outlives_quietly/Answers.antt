use Rattle.kv_scan.proofs.ChangeLemmas.{owes_quiet}
use Rattle.kv_scan.proofs.laws.outlives_quietly.Goals as goal

pub returns : goal.returns
returns c = owes_quiet
