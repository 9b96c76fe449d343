use Rattle.std.proofs.Common.{refl}
use Rattle.kv_model.specs.Fold.{Counting}
use Rattle.kv_fold.proofs.SumLemmas.{sum_merges}
use Rattle.kv_fold.proofs.sums.CountItemsFold.merge.Goals as goal

pub returns-clause-ok : goal.returns-clause-ok
returns-clause-ok c = rw (c.self.view_is, c.other.view_is) (sum_merges Counting _ _ (λ es. refl))
