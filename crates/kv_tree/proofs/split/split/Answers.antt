use Rattle.std.proofs.Common.{◌≡◌, ◌++◌, ◌<◌, length, length-append, sym, ap, ◌∙◌, arith}
use Rattle.kv_tree.specs.Subtree.{Subtree}
use Rattle.kv_tree.proofs.FillLemmas.{IsCutWell, cut, split_counts}
use Rattle.kv_tree.proofs.split.split.Goals as goal

-- the items and the kids are cut at the middle item
facts : (c : goal.After-take_last-middle)
    → IsCutWell c.left.inside.kids.items c.split_kids.new.kids.items c.split_kids.result.items
    c.left.inside.items.items c.take_last-middle.new.items.items c.take_last-middle.result
    c.move_tail.new.to.items
facts c =
    let own : c.args.left.now.own ≡ length c.left.inside.items.items = ap (λ (s : Subtree). s.own)
    (sym c.left.view_is) in
    cut (record {
      kids_are = c.split_kids.ensures.items;
      own_are = c.move_tail.ensures.items ∙ ap (λ xs. xs ++ c.move_tail.new.to.items)
          c.take_last-middle.ensures.items;
      own1_len = omega (
        arith,
        c.requires.own,
        c.take_last-middle.new.items.ok.0,
        c.move_tail.new.from.ok.0,
        c.left.inside.items.ok.0,
      );
      own_len = omega (arith, c.requires.own);
      long = λ h. omega (
        arith,
        c.split_kids.ensures.len (omega (arith, c.left.inside.kids.ok.0)),
        c.split_kids.new.kids.ok.0,
      );
      short = λ h. c.split_kids.ensures.short (omega (arith, c.left.inside.kids.ok.0));
      level = c.left.invariant.kids;
      shape = c.left.invariant.shape;
    })

pub invariant_of-right : goal.invariant_of-right
invariant_of-right c =
    let k = facts c in
    record {
      kids = k.level2;
      shape = k.shape2;
      few = omega (arith, k.own2_len);
      kid_room = λ some. omega (
        arith,
        c.split_kids.ensures.room
            (omega (
              arith,
              ap length c.split_kids.ensures.items,
              length-append c.split_kids.new.kids.items c.split_kids.result.items,
              c.left.inside.kids.ok.0,
            )),
      );
      item_room = omega (arith, c.right.invariant.item_room, c.move_tail.ensures.to_capacity);
    }

pub invariant_of-left : goal.invariant_of-left
invariant_of-left c =
    let k = facts c in
    record {
      kids = k.level1;
      shape = k.shape1;
      few = omega (arith, k.left.high);
      kid_room = λ some. omega (
        arith,
        c.left.invariant.kid_room
            (omega (
              arith,
              ap length c.split_kids.ensures.items,
              length-append c.split_kids.new.kids.items c.split_kids.result.items,
            )),
        c.split_kids.ensures.capacity,
      );
      item_room = omega (arith, c.left.invariant.item_room);
    }

pub returns-clause-pairs : goal.returns-clause-pairs
returns-clause-pairs c = (facts c).pairs ∙ ap (λ (s : Subtree). s.pairs) c.left.view_is

pub returns-clause-nodes : goal.returns-clause-nodes
returns-clause-nodes c = let k = facts c in
    omega (arith, k.nodes, ap (λ (s : Subtree). s.nodes) c.left.view_is)

pub returns-clause-inner : goal.returns-clause-inner
returns-clause-inner c =
    let k = facts c in
    omega (
      arith,
      split_counts (length c.left.inside.kids.items) _ _ _ _ k.inner k.leaf
          (λ some. c.split_kids.ensures.inner (omega (arith, c.left.inside.kids.ok.0)))
          (λ none. c.split_kids.ensures.none (omega (arith, c.left.inside.kids.ok.0))),
      ap (λ (s : Subtree). s.inner) c.left.view_is,
    )

pub returns-clause-left : goal.returns-clause-left
returns-clause-left c = rw (← c.left.view_is) (facts c).left

pub returns-clause-right : goal.returns-clause-right
returns-clause-right c = rw (← c.left.view_is) (facts c).right
