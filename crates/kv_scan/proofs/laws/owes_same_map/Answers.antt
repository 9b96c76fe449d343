use Rattle.kv_scan.proofs.LawLemmas.{same_map_owes}
use Rattle.kv_scan.proofs.laws.owes_same_map.Goals as goal

pub returns : goal.returns
returns c = same_map_owes
