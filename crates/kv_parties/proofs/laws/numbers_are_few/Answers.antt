use Rattle.kv_parties.proofs.Spending.{numbers_few}
use Rattle.kv_parties.proofs.laws.numbers_are_few.Goals as goal

pub returns : goal.returns
returns g c = λ setting parties base keep passed. numbers_few _ setting parties base keep passed
