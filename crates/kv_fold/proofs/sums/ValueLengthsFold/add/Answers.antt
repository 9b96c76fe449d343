use Rattle.std.proofs.Common.{refl}
use Rattle.kv_model.specs.Fold.{AddingLengths}
use Rattle.kv_fold.proofs.SumLemmas.{sum_adds}
use Rattle.kv_fold.proofs.sums.ValueLengthsFold.add.Goals as goal

pub returns-clause-ok : goal.returns-clause-ok
returns-clause-ok c = rw c.self.view_is (sum_adds AddingLengths _ _ _ (λ es. refl))
