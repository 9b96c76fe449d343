use Rattle.kv_fold.proofs.ListLemmas.{any_order}
use Rattle.kv_fold.proofs.laws.order_is_free.Goals as goal

pub returns : goal.returns
returns c = any_order
