-- the lemma as it stands
use Rattle.kv_model.proofs.KeptLemmas.{kept-given}
use Rattle.kv_model.proofs.laws.kept_items_are_given.Goals as goal

pub returns : goal.returns
returns c = kept-given
