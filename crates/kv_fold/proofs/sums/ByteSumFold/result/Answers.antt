use Rattle.std.proofs.Common.{rules}
use Rattle.kv_model.specs.Fold.{AddingBytes}
use Rattle.kv_fold.specs.States.{sum_state}
use Rattle.kv_fold.proofs.ResultLemmas.{is_result}
use Rattle.kv_fold.proofs.sums.ByteSumFold.result.Goals as goal

pub returns-clause-result : goal.returns-clause-result
returns-clause-result c =
    is_result c.copy.result (sum_state AddingBytes c.args.self.now) (search rules)
