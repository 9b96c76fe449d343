use Rattle.std.proofs.Common.{◌≡◌, ◌+◌, ◌<◌, length, set, suc, add-one, ap, arith}
use Rattle.std.specs.List.{insert}
use Rattle.kv_tree.specs.Subtree.{level_of, nodes_in, inner_over}
use Rattle.kv_tree.specs.Uneven.{IsOver}
use Rattle.kv_tree.proofs.SetLemmas.{split_nodes, split_inner}
use Rattle.kv_tree.proofs.RefillLemmas.{IsEvened}
use Rattle.kv_tree.proofs.SplitLemmas.{over_at, parted}
use Rattle.kv_tree.proofs.split.split_kid.Goals as goal

-- the kid has one pair too many
over : (c : goal.After-split-arg-1)
    → IsOver (level_of c.args.kids.now.items) c.index_mut-kid.result.now
over c =
    over_at c.args.kids.now.items c.args.at c.index_mut-kid.result.now c.requires.level
    (omega (arith, c.requires.at, c.args.kids.now.ok.0)) c.index_mut-kid.ensures.value

pub split-middle-requires-clause-own : goal.split-middle-requires-clause-own
split-middle-requires-clause-own c = (over c).own

pub split-middle-requires-clause-spare_inner : goal.split-middle-requires-clause-spare_inner
split-middle-requires-clause-spare_inner c some =
    c.requires.spare_inner (omega (arith, some, (over c).depth))

-- its halves stand in its place
parts : (c : goal.After-insert_within-2)
    → IsEvened c.args.kids.now.items c.args.items.now.items c.insert_within-2.new.items.items
    c.insert_within.new.items.items
parts c =
    rw (c.insert_within.ensures.items, c.insert_within-2.ensures.items, add-one)
    (parted c.args.kids.now.items c.args.items.now.items c.args.at c.index_mut-kid.result.now
    c.split-middle.new.left c.split-middle.result.0 c.split-middle.result.1 c.requires.level
    (omega (arith, c.requires.lengths, c.args.kids.now.ok.0, c.args.items.now.ok.0))
    (omega (arith, c.requires.at, c.args.kids.now.ok.0)) c.index_mut-kid.ensures.value
    c.split-middle.ensures.left c.split-middle.ensures.right c.split-middle.ensures.pairs)

pub returns-clause-pairs : goal.returns-clause-pairs
returns-clause-pairs c = (parts c).pairs

pub returns-clause-nodes : goal.returns-clause-nodes
returns-clause-nodes c =
    let same : c.insert_within-2.new.items.items ≡ insert
    (set c.args.kids.now.items c.args.at c.split-middle.new.left) (suc c.args.at)
    c.split-middle.result.1 = rw add-one at c.insert_within-2.ensures.items in
    omega (
      arith,
      ap nodes_in same,
      split_nodes c.args.kids.now.items c.index_mut-kid.result.now c.split-middle.new.left
          c.split-middle.result.1 c.args.at c.index_mut-kid.ensures.value
          (omega (arith, c.requires.at, c.args.kids.now.ok.0)),
      c.split-middle.ensures.nodes,
    )

pub returns-clause-inner : goal.returns-clause-inner
returns-clause-inner c =
    let same : c.insert_within-2.new.items.items ≡ insert
    (set c.args.kids.now.items c.args.at c.split-middle.new.left) (suc c.args.at)
    c.split-middle.result.1 = rw add-one at c.insert_within-2.ensures.items in
    omega (
      arith,
      ap inner_over same,
      split_inner c.args.kids.now.items c.index_mut-kid.result.now c.split-middle.new.left
          c.split-middle.result.1 c.args.at c.index_mut-kid.ensures.value
          (omega (arith, c.requires.at, c.args.kids.now.ok.0)),
      c.split-middle.ensures.inner,
    )

pub returns-clause-takes_inner : goal.returns-clause-takes_inner
returns-clause-takes_inner c some =
    let kid = over_at c.args.kids.now.items c.args.at c.index_mut-kid.result.now c.requires.level
    (omega (arith, c.requires.at, c.args.kids.now.ok.0)) c.index_mut-kid.ensures.value in
    omega (
      arith,
      c.split-middle.ensures.takes,
      c.split-middle.ensures.takes_inner (omega (arith, some, kid.depth)),
    )

pub returns-clause-node : goal.returns-clause-node
returns-clause-node c =
    let p = parts c in
    record {
      kids = p.level;
      shape = p.shape;
      few = omega (
        arith,
        c.requires.few,
        c.insert_within.ensures.len,
        c.insert_within.new.items.ok.0,
      );
      kid_room = λ _. omega (arith, c.requires.kid_room, c.insert_within-2.ensures.capacity);
      item_room = omega (arith, c.requires.item_room, c.insert_within.ensures.capacity);
    }
