use Rattle.kv_parties.proofs.Spending.{spent_cause}
use Rattle.kv_parties.proofs.laws.spent_has_cause.Goals as goal

pub returns : goal.returns
returns g c = λ setting parties next base keep passed counts worker number lt first.
    spent_cause _ setting parties base keep passed next counts worker number lt first
