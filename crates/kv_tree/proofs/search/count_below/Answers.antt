use Rattle.std.proofs.Common.{◌-◌, length, sym, ap, ◌∙◌, arith}
use Rattle.std.specs.Ordering.{nat_cmp}
use Rattle.std.specs.Cmp.Lexicographic.{slice_cmp}
use Rattle.kv_tree.specs.Subtree.{Pair}
use Rattle.kv_tree.proofs.SearchLemmas.{more_past, all_past}
use Rattle.kv_tree.proofs.search.count_below.Goals as goal

-- one item more is looked at
pub loop-item-preserved : goal.loop-item-preserved
loop-item-preserved c = record {
  bound = omega (arith, c.loop-item.invariant.bound, c.below-at.ensures.most);
  past = λ key head.
      more_past key c.args.items.now c.loop-item.item-index c.loop-item.at c.below-at.result
      c.item-item.result c.requires c.loop-item-test.true c.loop-item.invariant.bound
      c.below-at.ensures.most
      (λ one.
      ap (λ (p : Pair). slice_cmp nat_cmp key p.0) (sym c.item-item.is)
      ∙ c.below-at.ensures.less one key head)
      (c.loop-item.invariant.past key head);
}

-- the last item is before the key, and so are all
pub returns-then-below-eq1-clause-past : goal.returns-then-below-eq1-clause-past
returns-then-below-eq1-clause-past c key head =
    all_past key c.args.items.now (length c.args.items.now - 1) c.index-items-len.result c.requires
    (omega arith)
    (ap (λ (p : Pair). slice_cmp nat_cmp key p.0) (sym c.index-items-len.is)
    ∙ c.below-2.ensures.less c.if-below-eq1.true key head)
