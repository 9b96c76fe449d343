-- from group to group, and within each
use Rattle.kv_model.proofs.OrderLemmas.{rises-through}
use Rattle.kv_model.proofs.laws.stamps_rise.Goals as goal

pub returns : goal.returns
returns c = λ groups ordered. rises-through groups ordered.across ordered.within
