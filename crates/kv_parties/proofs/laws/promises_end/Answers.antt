use Rattle.kv_parties.proofs.Meeting.{none_passed}
use Rattle.kv_parties.proofs.laws.promises_end.Goals as goal

pub returns : goal.returns
returns g c = λ setting parties keep quiet. none_passed _ setting parties keep quiet
