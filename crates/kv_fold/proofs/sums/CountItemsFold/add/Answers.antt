use Rattle.std.proofs.Common.{refl}
use Rattle.kv_model.specs.Fold.{Counting}
use Rattle.kv_fold.proofs.SumLemmas.{sum_adds}
use Rattle.kv_fold.proofs.sums.CountItemsFold.add.Goals as goal

pub returns-clause-ok : goal.returns-clause-ok
returns-clause-ok c = rw c.self.view_is (sum_adds Counting _ _ _ (λ es. refl))
