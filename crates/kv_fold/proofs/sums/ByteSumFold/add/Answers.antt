use Rattle.std.proofs.Common.{refl}
use Rattle.kv_model.specs.Fold.{AddingBytes}
use Rattle.kv_fold.proofs.SumLemmas.{sum_adds}
use Rattle.kv_fold.proofs.sums.ByteSumFold.add.Goals as goal

pub returns-clause-ok : goal.returns-clause-ok
returns-clause-ok c = rw (c.self.view_is, c.sum_bytes.ensures)
    (sum_adds AddingBytes _ _ _ (λ es. refl))
