use Rattle.kv_parties.proofs.Propositions.{stands-prop}
use Rattle.kv_parties.proofs.laws.stands_once.Goals as goal

pub returns : goal.returns
returns g c = λ setting parties pairs. stands-prop _ setting parties pairs
