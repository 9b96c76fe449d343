use Rattle.std.proofs.Common.{◌≡◌, ◌+◌, set}
use Rattle.std.proofs.Common.{sym, ap, ◌∙◌, arith}
use Rattle.std.specs.List.{insert, remove}
use Rattle.kv_tree.specs.Subtree.{nodes_in, inner_over}
use Rattle.kv_tree.proofs.RefillLemmas.{IsEvened, Two, two_kids, two_merged, two_evened}
use Rattle.kv_tree.proofs.RefillLemmas.{two_merged_nodes, two_evened_nodes, two_merged_inner}
use Rattle.kv_tree.proofs.RefillLemmas.{two_evened_inner}
use Rattle.kv_tree.proofs.even.even_at.Goals as goal

two : (c : goal.After-even_out-arg-1)
    → Two c.args.kids.now.items c.args.items.now.items c.args.at c.args.first
    c.index_mut-left.result.now c.remove-middle.result c.remove-right.result
two c =
    two_kids c.args.kids.now.items c.remove-right.new.self.items c.args.items.now.items c.args.at
    c.args.first c.index_mut-left.result.now c.remove-middle.result c.remove-right.result
    c.requires.level c.requires.thin
    (omega (arith, c.requires.lengths, c.args.kids.now.ok.0, c.args.items.now.ok.0))
    (omega (arith, c.requires.behind, c.args.items.now.ok.0))
    c.requires.first.0 c.requires.first.1 c.remove-right.ensures.items
    c.index_mut-left.ensures.value c.remove-middle.ensures.value c.remove-right.ensures.value

pub even_out-requires-clause-depth : goal.even_out-requires-clause-depth
even_out-requires-clause-depth c = let u = (two c).uneven in u.left_depth ∙ sym u.right_depth

pub even_out-requires-clause-low_left : goal.even_out-requires-clause-low_left
even_out-requires-clause-low_left c = (two c).uneven.low_left

pub even_out-requires-clause-low_right : goal.even_out-requires-clause-low_right
even_out-requires-clause-low_right c = (two c).uneven.low_right

pub even_out-requires-clause-few : goal.even_out-requires-clause-few
even_out-requires-clause-few c = (two c).uneven.few

-- they were made one
two_in_None : (c : goal.In-None)
    → Two c.args.kids.now.items c.args.items.now.items c.args.at c.args.first
    c.index_mut-left.result.now c.remove-middle.result c.remove-right.result
two_in_None c =
    two_kids c.args.kids.now.items c.remove-right.new.self.items c.args.items.now.items c.args.at
    c.args.first c.index_mut-left.result.now c.remove-middle.result c.remove-right.result
    c.requires.level c.requires.thin
    (omega (arith, c.requires.lengths, c.args.kids.now.ok.0, c.args.items.now.ok.0))
    (omega (arith, c.requires.behind, c.args.items.now.ok.0))
    c.requires.first.0 c.requires.first.1 c.remove-right.ensures.items
    c.index_mut-left.ensures.value c.remove-middle.ensures.value c.remove-right.ensures.value

evened_in_None : (c : goal.In-None)
    → IsEvened c.args.kids.now.items c.args.items.now.items
    (set c.remove-right.new.self.items c.args.first c.even_out.new.left)
    c.remove-middle.new.self.items
evened_in_None c =
    rw (c.remove-right.ensures.items, c.remove-middle.ensures.items)
    (two_merged (two_in_None c) c.even_out.new.left c.in-None.ensures.whole c.in-None.ensures.pairs)

pub returns-in-None-clause-pairs : goal.returns-in-None-clause-pairs
returns-in-None-clause-pairs c = (evened_in_None c).pairs

pub returns-in-None-clause-nodes : goal.returns-in-None-clause-nodes
returns-in-None-clause-nodes c =
    rw c.remove-right.ensures.items
    (omega (arith, two_merged_nodes (two_in_None c) c.even_out.new.left, c.in-None.ensures.nodes))

pub returns-in-None-clause-inner : goal.returns-in-None-clause-inner
returns-in-None-clause-inner c =
    rw c.remove-right.ensures.items
    (omega (arith, two_merged_inner (two_in_None c) c.even_out.new.left, c.in-None.ensures.inner))

pub returns-in-None-clause-node : goal.returns-in-None-clause-node
returns-in-None-clause-node c =
    let e = evened_in_None c in
    record {
      kids = e.level;
      shape = e.shape;
      few = omega (arith, c.remove-middle.new.self.ok.0);
      kid_room = λ _. omega (arith, c.requires.kid_room, c.remove-right.ensures.capacity);
      item_room = omega (arith, c.requires.item_room, c.remove-middle.ensures.capacity);
    }

-- they were made even
two_in_Some : (c : goal.After-insert_within-in-Some)
    → Two c.args.kids.now.items c.args.items.now.items c.args.at c.args.first
    c.index_mut-left.result.now c.remove-middle.result c.remove-right.result
two_in_Some c =
    two_kids c.args.kids.now.items c.remove-right.new.self.items c.args.items.now.items c.args.at
    c.args.first c.index_mut-left.result.now c.remove-middle.result c.remove-right.result
    c.requires.level c.requires.thin
    (omega (arith, c.requires.lengths, c.args.kids.now.ok.0, c.args.items.now.ok.0))
    (omega (arith, c.requires.behind, c.args.items.now.ok.0))
    c.requires.first.0 c.requires.first.1 c.remove-right.ensures.items
    c.index_mut-left.ensures.value c.remove-middle.ensures.value c.remove-right.ensures.value

kids_in_Some : (c : goal.After-insert_within-in-Some)
    → c.insert_within-in-Some.new.items.items ≡ insert (set
    (remove c.args.kids.now.items (c.args.first + 1)) c.args.first c.even_out.new.left)
    (c.args.first + 1) c.in-Some.right
kids_in_Some c = rw c.remove-right.ensures.items at c.insert_within-in-Some.ensures.items

own_in_Some : (c : goal.After-insert_within-in-Some)
    → c.insert_within.new.items.items ≡ insert (remove c.args.items.now.items c.args.first)
    c.args.first c.in-Some.middle
own_in_Some c = rw c.remove-middle.ensures.items at c.insert_within.ensures.items

evened_in_Some : (c : goal.After-insert_within-in-Some)
    → IsEvened c.args.kids.now.items c.args.items.now.items c.insert_within-in-Some.new.items.items
    c.insert_within.new.items.items
evened_in_Some c =
    rw (kids_in_Some c, own_in_Some c)
    (two_evened (two_in_Some c) c.even_out.new.left c.in-Some.middle c.in-Some.right
    c.in-Some.ensures.split.0 c.in-Some.ensures.split.1 c.in-Some.ensures.pairs)

pub returns-in-Some-clause-pairs : goal.returns-in-Some-clause-pairs
returns-in-Some-clause-pairs c = (evened_in_Some c).pairs

pub returns-in-Some-clause-nodes : goal.returns-in-Some-clause-nodes
returns-in-Some-clause-nodes c =
    omega (
      arith,
      ap nodes_in (kids_in_Some c),
      two_evened_nodes (two_in_Some c) c.even_out.new.left
          c.in-Some.right,
      c.in-Some.ensures.nodes,
    )

pub returns-in-Some-clause-inner : goal.returns-in-Some-clause-inner
returns-in-Some-clause-inner c =
    omega (
      arith,
      ap inner_over (kids_in_Some c),
      two_evened_inner (two_in_Some c)
          c.even_out.new.left c.in-Some.right,
      c.in-Some.ensures.inner,
    )

pub returns-in-Some-clause-node : goal.returns-in-Some-clause-node
returns-in-Some-clause-node c =
    let e = evened_in_Some c in
    record {
      kids = e.level;
      shape = e.shape;
      few = omega (arith, c.insert_within.new.items.ok.0);
      kid_room = λ _. omega (arith, c.requires.kid_room);
      item_room = omega (arith, c.requires.item_room);
    }
