use Rattle.std.proofs.Common.{◌≤◌, ◌<◌, subst, arith}
use Rattle.kv_tree.specs.Subtree.{Subtree}
use Rattle.kv_tree.proofs.FillLemmas.{shape_inner}
use Rattle.kv_tree.proofs.RefillLemmas.{thin_at, but_enough}
use Rattle.kv_tree.proofs.even.refill.Goals as goal

pub even_at-requires-clause-thin : goal.even_at-requires-clause-thin
even_at-requires-clause-thin c =
    thin_at c.args.kids.now.items c.args.at c.index-thin.result.now
    (subst (λ (s : Subtree). s.own < 15) c.index-thin.ensures
    (omega (arith, c.own.ensures.value, c.if-own-lt15.true)))

pub returns-else-own-lt15-clause-node : goal.returns-else-own-lt15-clause-node
returns-else-own-lt15-clause-node c =
    record {
      kids = but_enough _ _ c.args.at c.index-thin.result.now c.requires.level
          (subst (λ (s : Subtree). 15 ≤ s.own) c.index-thin.ensures
          (omega (arith, c.own.ensures.value, c.if-own-lt15.false)));
      shape = shape_inner _ _ (omega (
        arith,
        c.requires.lengths,
        c.args.kids.now.ok.0,
        c.args.items.now.ok.0,
      ));
      few = omega (arith, c.requires.few, c.args.items.now.ok.0);
      kid_room = λ _. c.requires.kid_room;
      item_room = c.requires.item_room;
    }
