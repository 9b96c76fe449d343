use Rattle.std.proofs.Common.{◌≡◌, List, [], ◌∷◌, ◌++◌, length, sym, ap, ◌∙◌, arith}
use Rattle.std.proofs.lemmas.List.{append_assoc}
use Rattle.std.specs.Global.{Vec}
use Rattle.kv_tree.specs.Subtree.{Subtree, Pair}
use Rattle.kv_tree.proofs.FillLemmas.{IsMerged, merged, same_kind, merge_counts}
use Rattle.kv_tree.proofs.even.merge.Goals as goal

facts : (c : goal.After-give)
    → IsMerged c.left.inside.kids.items c.left.inside.items.items c.args.middle
    c.right.inside.kids.items c.right.inside.items.items
facts c =
    let own1 : c.args.left.now.own ≡ length c.left.inside.items.items = ap (λ (s : Subtree). s.own)
    (sym c.left.view_is) in
    let own2 : c.args.right.own ≡ length c.right.inside.items.items = ap (λ (s : Subtree). s.own)
    (sym c.right.view_is) in
    merged _ _ c.args.middle _ _ c.left.invariant.kids c.right.invariant.kids c.left.invariant.shape
    c.right.invariant.shape
    (ap (λ (s : Subtree). s.depth) c.left.view_is ∙ c.requires.depth
    ∙ ap (λ (s : Subtree). s.depth) (sym c.right.view_is))
    (omega arith) (omega arith)

own : (c : goal.After-give)
    → c.append_within.new.to.items ≡ c.left.inside.items.items
    ++ c.args.middle ∷ c.right.inside.items.items
own c =
    c.append_within.ensures.items
    ∙ ap (λ (xs : List Pair). xs ++ c.right.inside.items.items) c.push_within.ensures.items
    ∙ append_assoc c.left.inside.items.items (c.args.middle ∷ []) c.right.inside.items.items

kids : (c : goal.After-give)
    → c.join_kids.new.left.items ≡ c.left.inside.kids.items ++ c.right.inside.kids.items
kids c =
    c.join_kids.ensures.items
    ∙ ap (λ (v : Vec Subtree). c.left.inside.kids.items ++ v.items) c.replace-kids.ensures.value

pub invariant_of-left : goal.invariant_of-left
invariant_of-left c =
    let k = facts c in
    rw (own c, kids c)
    (record {
      kids = k.level;
      shape = k.shape;
      few = omega (arith, k.kid.high);
      kid_room = λ some. omega (
        arith,
        c.left.invariant.kid_room
            (same_kind (c.left.inside.kids.items ++ c.right.inside.kids.items)
            c.left.inside.kids.items
            k.kid.depth some),
        c.join_kids.ensures.capacity,
      );
      item_room = omega (arith, c.left.invariant.item_room);
    })

pub returns-clause-pairs : goal.returns-clause-pairs
returns-clause-pairs c = rw (own c, kids c, ← c.left.view_is, ← c.right.view_is) (facts c).pairs

pub returns-clause-nodes : goal.returns-clause-nodes
returns-clause-nodes c = let k = facts c in
    rw (kids c)
    (omega (
      arith,
      k.nodes,
      ap (λ (s : Subtree). s.nodes) c.left.view_is,
      ap (λ (s : Subtree). s.nodes) c.right.view_is,
    ))

pub returns-clause-inner : goal.returns-clause-inner
returns-clause-inner c =
    let k = facts c in
    let moved : length c.right.inside.kids.items ≡ c.replace-kids.result.len =
    ap (λ (v : Vec Subtree). length v.items) (sym c.replace-kids.ensures.value)
    ∙ sym c.replace-kids.result.ok.0 in
    rw (kids c)
    (omega (
      arith,
      merge_counts (length c.right.inside.kids.items) _ _ _ _ k.inner k.leaf
          (λ some. c.join_kids.ensures.inner (omega (arith, moved)))
          (λ none. c.join_kids.ensures.none (omega (arith, moved))),
      ap (λ (s : Subtree). s.inner) c.left.view_is,
      ap (λ (s : Subtree). s.inner) c.right.view_is,
    ))

pub returns-clause-kid : goal.returns-clause-kid
returns-clause-kid c = rw (own c, kids c, ← c.left.view_is) (facts c).kid
