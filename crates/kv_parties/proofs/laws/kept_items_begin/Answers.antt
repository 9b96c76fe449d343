use Rattle.kv_parties.proofs.Beginning.{begins}
use Rattle.kv_parties.proofs.laws.kept_items_begin.Goals as goal

pub returns : goal.returns
returns c = begins
