use Rattle.kv_parties.proofs.Standing.{stands, sessions_stand}
use Rattle.kv_parties.proofs.laws.promises_join.Goals as goal

pub returns : goal.returns
returns g c = λ setting parties base keep passed.
    (stands _ setting parties base keep passed, sessions_stand _ setting parties base keep passed)
