use Rattle.std.proofs.Common.{arith}
use Rattle.kv_tree.proofs.SearchLemmas.{past_through}
use Rattle.kv_tree.proofs.search.count_by_halves.Goals as goal

-- the middle item is before the key, and so are those before it
pub loop-low-preserved-then-below-eq1 : goal.loop-low-preserved-then-below-eq1
loop-low-preserved-then-below-eq1 c = record {
  order = omega (arith, c.loop-low-test.true);
  bound = c.loop-low.invariant.bound;
  past = λ key head.
      past_through key c.args.items.now _ c.index-items-middle.result c.requires
      (omega (arith, c.loop-low-test.true, c.loop-low.invariant.bound)) c.index-items-middle.is
      (c.below.ensures.less c.if-below-eq1.true key head);
}
