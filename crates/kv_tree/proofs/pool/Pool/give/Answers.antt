use Rattle.std.proofs.Common.{arith}
use Rattle.kv_tree.proofs.FillLemmas.{blank_push}
use Rattle.kv_tree.proofs.pool.Pool.give.Goals as goal

pub invariant_of-self : goal.invariant_of-self
invariant_of-self c = record {
  blank = rw c.push_within.ensures.items (blank_push _ _ c.self.invariant.blank c.requires.blank);
  empty = c.self.invariant.empty;
  fits = omega (arith, c.self.invariant.fits);
  fits_inner = c.self.invariant.fits_inner;
}
