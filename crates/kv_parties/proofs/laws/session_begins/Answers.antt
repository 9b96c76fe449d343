use Rattle.kv_parties.proofs.Starting.{session_begins}
use Rattle.kv_parties.proofs.laws.session_begins.Goals as goal

pub returns : goal.returns
returns g c = λ setting sent received view none fresh.
    session_begins setting sent received view none fresh
