use Rattle.kv_scan.proofs.HeldLemmas.{held_none}
use Rattle.kv_scan.proofs.laws.held_is_over.Goals as goal

pub returns : goal.returns
returns c = held_none
