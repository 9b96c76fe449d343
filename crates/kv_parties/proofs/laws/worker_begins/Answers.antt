use Rattle.kv_parties.proofs.Starting.{worker_begins}
use Rattle.kv_parties.proofs.laws.worker_begins.Goals as goal

pub returns : goal.returns
returns g c = λ setting worker before received sent own none fresh same open_ map leaves.
    worker_begins _ setting worker before received sent own none fresh same open_ map leaves
