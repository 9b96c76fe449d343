-- The map leaves out the one entry of the page.
use Rattle.kv_cache.proofs.KeptLemmas.{kept-without}
use Rattle.kv_cache.proofs.CopiesLemmas.{kept_of-removed}
use Rattle.kv_cache.proofs.kept.KeptPages.remove.Goals as goal

pub invariant_of-self : goal.invariant_of-self
invariant_of-self c =
    rw (kept_of-removed _ _ _ c.pop.new.self c.self.invariant c.pop.ensures.entries)
    (kept-without _ _ _ c.self.invariant)

pub returns : goal.returns
returns c = rw (← c.self.view_is) (kept_of-removed _ _ _ _ c.self.invariant c.pop.ensures.entries)
