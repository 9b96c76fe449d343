use Rattle.std.proofs.Common.{subst, arith}
use Rattle.kv_tree.specs.Subtree.{AreBlank}
use Rattle.kv_tree.proofs.FillLemmas.{blank_last}
use Rattle.kv_tree.proofs.pool.Pool.take.Goals as goal

pub invariant_of-self : goal.invariant_of-self
invariant_of-self c = record {
  blank = (blank_last _ _ (subst AreBlank c.in-Some.ensures.items c.self.invariant.blank)).0;
  empty = c.self.invariant.empty;
  fits = omega (arith, c.self.invariant.fits);
  fits_inner = c.self.invariant.fits_inner;
}

pub returns-clause-value : goal.returns-clause-value
returns-clause-value c =
    (blank_last c.pop.new.self.items _ (subst AreBlank c.in-Some.ensures.items
    c.self.invariant.blank)).1
