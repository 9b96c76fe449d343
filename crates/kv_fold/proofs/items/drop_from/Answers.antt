use Rattle.kv_fold.proofs.FirstLemmas.{shorter_first}
use Rattle.kv_fold.proofs.items.drop_from.Goals as goal

pub returns-clause-first : goal.returns-clause-first
returns-clause-first c most first =
    rw (c.shorten.ensures.counted, c.shorten.ensures.value) (shorter_first most _ _ _ first)
