-- above all its stamps a history reads the same at each
use Rattle.kv_model.proofs.PrefixLemmas.{prefix-longer, prefix-fewer}
use Rattle.kv_model.proofs.laws.prefixes_stay.Goals as goal

pub returns : goal.returns
returns c = record { longer = prefix-longer; fewer = prefix-fewer }
