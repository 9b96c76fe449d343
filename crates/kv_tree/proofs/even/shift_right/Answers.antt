use Rattle.std.proofs.Common.{◌≡◌, ◌<◌, List, [], ◌∷◌, ◌++◌, length, sym, ap, ◌∙◌, arith}
use Rattle.std.proofs.lemmas.List.{append_assoc}
use Rattle.kv_tree.specs.Subtree.{Subtree, Pair}
use Rattle.kv_tree.proofs.WeaveLemmas.{shape_length}
use Rattle.kv_tree.proofs.FillLemmas.{IsRecutWell, recut, same_kind}
use Rattle.kv_tree.proofs.even.shift_right.Goals as goal

-- where the left has kids, the right has room for one more
pub move_last-requires : goal.move_last-requires
move_last-requires c = record {
  room = λ some.
      let kids2 = c.right.inside.kids.items in
      let r : 0 < length kids2 =
      same_kind c.left.inside.kids.items kids2 (ap (λ (s : Subtree). s.depth) c.left.view_is
      ∙ c.requires.depth ∙ ap (λ (s : Subtree). s.depth) (sym c.right.view_is))
      (omega (arith, c.left.inside.kids.ok.0)) in
      omega (
        arith,
        c.right.invariant.kid_room r,
        shape_length kids2 c.right.inside.items.items c.right.invariant.shape r,
        c.right.inside.kids.ok.0,
        ap (λ (s : Subtree). s.own) c.right.view_is,
      );
}

-- the same pairs and kids, cut one further to the left
facts : (c : goal.After-move_last)
    → IsRecutWell c.left.inside.kids.items c.left.inside.items.items c.args.middle
    c.right.inside.kids.items c.right.inside.items.items
    c.move_last.new.from.items c.take_last-up.new.items.items c.take_last-up.result
    c.move_last.new.to.items c.insert_within.new.items.items
facts c =
    let own1 : c.args.left.now.own ≡ length c.left.inside.items.items = ap (λ (s : Subtree). s.own)
    (sym c.left.view_is) in
    let own2 : c.args.right.own ≡ length c.right.inside.items.items = ap (λ (s : Subtree). s.own)
    (sym c.right.view_is) in
    let n1 = c.take_last-up.new.items.ok.0 in
    let n2 = c.insert_within.new.items.ok.0 in
    recut (record {
      kids = c.move_last.ensures.items;
      own = ap (λ (ys : List Pair). c.take_last-up.new.items.items ++ c.take_last-up.result ∷ ys)
          c.insert_within.ensures.items
          ∙ sym (append_assoc c.take_last-up.new.items.items (c.take_last-up.result ∷ [])
          (c.args.middle ∷ c.right.inside.items.items))
          ∙ ap (λ (xs : List Pair). xs ++ c.args.middle ∷ c.right.inside.items.items)
          (sym c.take_last-up.ensures.items);
      depth = ap (λ (s : Subtree). s.depth) c.left.view_is ∙ c.requires.depth
          ∙ ap (λ (s : Subtree). s.depth) (sym c.right.view_is);
      level1 = c.left.invariant.kids;
      level2 = c.right.invariant.kids;
      shape1 = c.left.invariant.shape;
      shape2 = c.right.invariant.shape;
      low1 = omega (arith, c.left.inside.items.ok.0);
      high1 = omega (arith, c.left.inside.items.ok.0);
      low2 = omega (arith, c.right.inside.items.ok.0);
      high2 = omega (arith, c.right.inside.items.ok.0);
      inner = λ l1 l2.
          let k1 = shape_length c.left.inside.kids.items c.left.inside.items.items
          c.left.invariant.shape l1 in
          let k2 = shape_length c.right.inside.kids.items c.right.inside.items.items
          c.right.invariant.shape l2 in
          let some : 0 < c.left.inside.kids.len = omega (arith, c.left.inside.kids.ok.0) in
          let moved = c.move_last.ensures.len some in (
            omega (
              arith,
              k1,
              moved.0,
              c.move_last.new.from.ok.0,
              c.left.inside.kids.ok.0,
              c.left.inside.items.ok.0,
              n1,
            ),
            omega (
              arith,
              k2,
              moved.1,
              c.move_last.new.to.ok.0,
              c.right.inside.kids.ok.0,
              c.right.inside.items.ok.0,
              n2,
            ),
          );
    })

pub invariant_of-right : goal.invariant_of-right
invariant_of-right c =
    let k = facts c in
    record {
      kids = k.new_level2;
      shape = k.new_shape2;
      few = omega (arith, k.right.high);
      kid_room = λ some. omega (
        arith,
        c.right.invariant.kid_room
            (same_kind c.move_last.new.to.items c.right.inside.kids.items
            (k.right.depth ∙ sym k.same)
            some),
        c.move_last.ensures.capacity,
      );
      item_room = omega
          (arith, c.right.invariant.item_room);
    }

pub invariant_of-left : goal.invariant_of-left
invariant_of-left c =
    let k = facts c in
    record {
      kids = k.new_level1;
      shape = k.new_shape1;
      few = omega (arith, k.left.high);
      kid_room = λ some. omega (
        arith,
        c.left.invariant.kid_room
            (same_kind c.move_last.new.from.items c.left.inside.kids.items k.left.depth some),
        c.move_last.ensures.from_capacity,
      );
      item_room = omega (arith, c.left.invariant.item_room);
    }

pub returns-clause-pairs : goal.returns-clause-pairs
returns-clause-pairs c = rw (← c.left.view_is, ← c.right.view_is) (facts c).pairs

pub returns-clause-nodes : goal.returns-clause-nodes
returns-clause-nodes c = let k = facts c in
    omega (
      arith,
      k.nodes,
      ap (λ (s : Subtree). s.nodes) c.left.view_is,
      ap (λ (s : Subtree). s.nodes) c.right.view_is,
    )

pub returns-clause-inner : goal.returns-clause-inner
returns-clause-inner c = let k = facts c in
    omega (
      arith,
      k.inner,
      ap (λ (s : Subtree). s.inner) c.left.view_is,
      ap (λ (s : Subtree). s.inner) c.right.view_is,
    )

pub returns-clause-left : goal.returns-clause-left
returns-clause-left c = rw (← c.left.view_is) (facts c).left

pub returns-clause-right : goal.returns-clause-right
returns-clause-right c = rw (← c.left.view_is) (facts c).right
