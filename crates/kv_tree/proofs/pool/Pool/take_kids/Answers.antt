use Rattle.std.proofs.Common.{subst, arith}
use Rattle.kv_tree.specs.Subtree.{AreKidRooms}
use Rattle.kv_tree.proofs.FillLemmas.{rooms_last}
use Rattle.kv_tree.proofs.pool.Pool.take_kids.Goals as goal

pub invariant_of-self : goal.invariant_of-self
invariant_of-self c = record {
  blank = c.self.invariant.blank;
  empty = (rooms_last _ _ (subst AreKidRooms c.in-Some.ensures.items c.self.invariant.empty)).0;
  fits = c.self.invariant.fits;
  fits_inner = omega (arith, c.self.invariant.fits_inner);
}

pub returns-clause-empty : goal.returns-clause-empty
returns-clause-empty c =
    (rooms_last c.pop.new.self.items _ (subst AreKidRooms c.in-Some.ensures.items
    c.self.invariant.empty)).1.0

pub returns-clause-capacity : goal.returns-clause-capacity
returns-clause-capacity c =
    (rooms_last c.pop.new.self.items _ (subst AreKidRooms c.in-Some.ensures.items
    c.self.invariant.empty)).1.1
