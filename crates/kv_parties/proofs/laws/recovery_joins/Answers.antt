use Rattle.kv_parties.proofs.Standing.{recovery}
use Rattle.kv_parties.proofs.laws.recovery_joins.Goals as goal

pub returns : goal.returns
returns g c = λ setting earlier parties e base kept none keep passed worker image lt each.
    recovery _ setting earlier parties e base kept none keep passed worker image lt each
