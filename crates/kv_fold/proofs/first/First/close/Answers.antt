use Rattle.kv_fold.proofs.first.First.close.Goals as goal

pub invariant_of-self : goal.invariant_of-self
invariant_of-self c = c.drop_from-self-inside.ensures.first c.self.inside.most c.self.invariant
