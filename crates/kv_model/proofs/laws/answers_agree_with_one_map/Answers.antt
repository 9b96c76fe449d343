-- the lemma as it stands
use Rattle.kv_model.proofs.WholeLemmas.{agrees-with-more}
use Rattle.kv_model.proofs.laws.answers_agree_with_one_map.Goals as goal

pub returns : goal.returns
returns c = agrees-with-more
