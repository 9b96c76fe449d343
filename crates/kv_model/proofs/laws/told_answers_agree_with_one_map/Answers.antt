-- what is told of the replies is enough
use Rattle.std.proofs.Common.{[]}
use Rattle.kv_model.specs.Batch.{answers}
use Rattle.kv_model.proofs.WholeLemmas.{agrees-with-more}
use Rattle.kv_model.proofs.ToldLemmas.{as-told}
use Rattle.kv_model.proofs.laws.told_answers_agree_with_one_map.Goals as goal

pub returns : goal.returns
returns c = λ told layout before floor pairs base start requests replies agrees same begins above
    below
    earlier ends good equal.
    as-told told layout before floor pairs requests replies (answers start [] base requests) equal
    good (agrees-with-more told layout before floor pairs base start requests agrees same begins
    above
    below earlier ends good)
