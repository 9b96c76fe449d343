-- lists that rise and have the same elements are one
use Rattle.kv_model.proofs.ItemLemmas.{items_same}
use Rattle.kv_model.proofs.laws.items_are_one.Goals as goal

pub returns : goal.returns
returns c = items_same
