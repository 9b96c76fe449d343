use Rattle.std.proofs.Common.{arith}
use Rattle.kv_tree.proofs.FillLemmas.{rooms_push}
use Rattle.kv_tree.proofs.pool.Pool.give_kids.Goals as goal

pub invariant_of-self : goal.invariant_of-self
invariant_of-self c = record {
  blank = c.self.invariant.blank;
  empty = rw c.push_within.ensures.items
      (rooms_push _ _ c.self.invariant.empty c.requires.empty c.requires.capacity);
  fits = c.self.invariant.fits;
  fits_inner = omega (arith, c.self.invariant.fits_inner);
}
