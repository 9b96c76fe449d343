use Rattle.kv_parties.proofs.Meeting.{owes}
use Rattle.kv_parties.proofs.laws.owes_none.Goals as goal

pub returns : goal.returns
returns g c = λ setting parties session worker message pushed waiting keep passed.
    owes _ setting parties keep passed session worker message pushed waiting
