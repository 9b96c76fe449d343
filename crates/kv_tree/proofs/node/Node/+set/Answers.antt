use Rattle.std.proofs.Common.{◌≡◌, ◌<◌, ◌≤◌, length, set, is_some, sym, ap, ◌∙◌, subst, arith}
use Rattle.kv_index.proofs.PlacesLemmas.{at-lt, gap-le}
use Rattle.std.proofs.lemmas.Cmp.{nat_list_cmp_total}
use Rattle.kv_index.specs.declared.entry.Entry.{Entry}
use Rattle.kv_tree.specs.Subtree.{Subtree, IsKid, HasWidth, level_of}
use Rattle.kv_tree.specs.Uneven.{IsOver}
use Rattle.kv_tree.proofs.WeaveLemmas.{own_rising, AtKid, at_kid, at_item, find_item, find_focus}
use Rattle.kv_tree.proofs.WeaveLemmas.{find_leaf}
use Rattle.kv_tree.proofs.SetLemmas.{put_own, put_kid, shape_set, length_set, Grown, grown_kid}
use Rattle.kv_tree.proofs.SetLemmas.{grown_nodes, grown_inner, grown_leaf, grown_fits}
use Rattle.kv_tree.proofs.SetLemmas.{kid_room, kid_width, kid_again, IsOverfull, inner_left}
use Rattle.kv_tree.proofs.SetLemmas.{spare_left, takes_both, one_key_more}
use Rattle.kv_tree.proofs.RemoveLemmas.{level_set, level_but, depth_set, still_kid}
use Rattle.kv_tree.proofs.node.Node.+set.Goals as goal

pub place_of-requires-clause-rising : goal.place_of-requires-clause-rising
place_of-requires-clause-rising t c =
    rw c.deref.ensures.value (own_rising c.self.inside.kids.items _
    (rw (← c.self.view_is) at c.requires.rising))

-- at the key's own place
pub returns-in-Ok-clause-pairs : goal.returns-in-Ok-clause-pairs
returns-in-Ok-clause-pairs t c =
    let at = rw (c.deref.ensures.value, c.key.ensures) at c.in-Ok.ensures.found in
    let i = at_item _ _ _ _ _ _ _ _ c.self.view_is
    c.self.invariant at c.index_mut-own.ensures.value in
    put_own c.args.item.1 c.set_entry.new.self i c.self.invariant.shape
    (at-lt nat_list_cmp_total _ _ _ at) c.requires.rising
    (c.set_entry.ensures ∙ ap (λ (e : Entry). (c.index_mut-own.result.now.0, e)) c.entry.ensures)

pub returns-in-Ok-clause-found : goal.returns-in-Ok-clause-found
returns-in-Ok-clause-found t c =
    let at = rw (c.deref.ensures.value, c.key.ensures) at c.in-Ok.ensures.found in
    let i = at_item _ _ _ _ _ _ _ _ c.self.view_is
    c.self.invariant at c.index_mut-own.ensures.value in
    sym (ap is_some (find_item _ _ _ _ _ i.is c.requires.rising i.ties))

pub returns-in-Ok-clause-kid : goal.returns-in-Ok-clause-kid
returns-in-Ok-clause-kid t c fits few =
    kid_again _ _ c.self.inside.items.items _ c.self.view_is c.self.invariant.kids
    (shape_set _ _ _ _ c.self.invariant.shape) (length_set _ _ _)
    (omega (arith, fits.high, ap (λ (s : Subtree). s.own) c.self.view_is)) fits

-- the kid where the key can stand
pub set-found-requires : goal.set-found-requires
set-found-requires t c =
    let gap = rw (c.deref.ensures.value, c.key.ensures) at c.in-Err.ensures.absent in
    let some : 0 < length c.self.inside.kids.items = omega (arith, c.self.inside.kids.ok.0) in
    let k = at_kid _ _ _ _ _ _ _ _ c.self.view_is c.self.invariant c.requires.rising gap some
    c.index_mut-kid.ensures.value in
    let le : c.in-Err.at ≤ length c.self.inside.items.items = gap-le nat_list_cmp_total _ _ _
    gap in (
      omega (arith, k.falls),
      (
        k.rising,
        (
          c.requires.number,
          (
            k.fits.high,
            (
              kid_room _ _ _ _ _ c.args.pool.now c.self.view_is c.self.invariant.kids
                  c.self.invariant.shape (omega (arith, k.lengths)) c.index_mut-kid.ensures.value
                  k.fits
                  c.requires.room,
              kid_width _ _ _ _ _ c.args.pool.now c.self.view_is c.self.invariant.kids
                  c.self.invariant.shape (omega (arith, k.lengths)) c.index_mut-kid.ensures.value
                  k.fits
                  c.requires.width,
            ),
          ),
        ),
      ),
    )

-- the kid where the key can stand, where it has one pair too many
kid_over : (t : _) (c : goal.After-split_kid-arg-then-own-gt31-2-1 t)
    → AtKid c.args.item.0 c.args.self.now c.index_mut-kid.result.now c.self.inside.kids.items
    c.self.inside.items.items c.in-Err.at
kid_over t c =
    let gap = rw (c.deref.ensures.value, c.key.ensures) at c.in-Err.ensures.absent in
    let some : 0 < length c.self.inside.kids.items = omega (arith, c.self.inside.kids.ok.0) in
    at_kid _ _ _ _ _ _ _ _ c.self.view_is c.self.invariant c.requires.rising gap some
    c.index_mut-kid.ensures.value

at_over : (t : _) (c : goal.After-split_kid-arg-then-own-gt31-2-1 t)
    → c.in-Err.at ≤ length c.self.inside.items.items
at_over t c =
    let gap = rw (c.deref.ensures.value, c.key.ensures) at c.in-Err.ensures.absent in
    gap-le nat_list_cmp_total _ _ _ gap

overfull : (t : _) (c : goal.After-split_kid-arg-then-own-gt31-2-1 t)
    → IsOverfull c.args.item.0 c.args.item.1 c.index_mut-kid.result.now c.set-found.new.self
    c.args.pool.now c.set-found.new.pool
overfull t c = record {
  pairs = c.set-found.ensures.pairs;
  filled = c.own.ensures.filled;
  many = omega (arith, c.own.ensures.value, c.if-own-gt31.true);
  nodes = c.set-found.ensures.nodes;
  inner = c.set-found.ensures.inner;
  takes = omega (arith, c.set-found.ensures.takes, one_key_more c.set-found.result);
  leaf = λ none. c.set-found.ensures.leaf (sym c.set-found.ensures.depth ∙ none);
}

level_over : (t : _) (c : goal.After-split_kid-arg-then-own-gt31-2-1 t)
    → level_of (set c.self.inside.kids.items c.in-Err.at c.set-found.new.self)
    ≡ c.index_mut-kid.result.now.depth
level_over t c =
    let k = kid_over t c in
    level_set (level_of c.self.inside.kids.items) c.self.inside.kids.items c.in-Err.at
    c.set-found.new.self c.self.invariant.kids (c.set-found.ensures.depth ∙ k.fits.depth)
    (omega (arith, k.lengths, at_over t c))
    ∙ sym k.fits.depth

pub split_kid-requires-clause-level : goal.split_kid-requires-clause-level
split_kid-requires-clause-level t c =
    let k = kid_over t c in
    let depth = c.set-found.ensures.depth ∙ k.fits.depth in
    level_but IsOver c.self.inside.kids.items c.in-Err.at c.set-found.new.self
    c.self.invariant.kids
    (record {
      depth = depth;
      own = omega (arith, c.own.ensures.value, c.own.ensures.few, c.if-own-gt31.true);
    }) depth (omega (arith, k.lengths, at_over t c))

width_over : (t : _) (c : goal.After-split_kid-arg-then-own-gt31-2-1 t)
    → HasWidth c.index_mut-kid.result.now c.args.pool.now
width_over t c =
    let k = kid_over t c in
    kid_width _ _ _ _ _ c.args.pool.now c.self.view_is c.self.invariant.kids
    c.self.invariant.shape (omega (arith, k.lengths, at_over t c)) c.index_mut-kid.ensures.value
    k.fits c.requires.width

pub split_kid-requires-clause-spare : goal.split_kid-requires-clause-spare
split_kid-requires-clause-spare t c =
    let k = kid_over t c in
    spare_left (overfull t c) k.fits.low
    (kid_room _ _ _ _ _ c.args.pool.now c.self.view_is c.self.invariant.kids
    c.self.invariant.shape (omega (arith, k.lengths, at_over t c)) c.index_mut-kid.ensures.value
    k.fits c.requires.room)
    (width_over t c)

pub split_kid-requires-clause-spare_inner : goal.split_kid-requires-clause-spare_inner
split_kid-requires-clause-spare_inner t c some =
    inner_left (overfull t c) (kid_over t c).fits.low (width_over t c)
    (omega (arith, some, level_over t c, c.set-found.ensures.depth))

pub returns-then-own-gt31-clause-found : goal.returns-then-own-gt31-clause-found
returns-then-own-gt31-clause-found t c =
    c.set-found.ensures.found ∙ ap is_some (sym (find_focus (kid_over t c.before).focus))

pub returns-then-own-gt31-clause-pairs : goal.returns-then-own-gt31-clause-pairs
returns-then-own-gt31-clause-pairs t c =
    c.split_kid.ensures.pairs
    ∙ put_kid c.args.item.1 c.set-found.new.self (kid_over t c.before) (at_over t c.before)
    c.set-found.ensures.pairs

pub returns-then-own-gt31-clause-nodes : goal.returns-then-own-gt31-clause-nodes
returns-then-own-gt31-clause-nodes t c =
    omega (
      arith,
      c.split_kid.ensures.nodes,
      grown_nodes c.self.inside.kids.items c.index_mut-kid.result.now c.set-found.new.self
          c.in-Err.at c.index_mut-kid.ensures.value
          (omega (arith, (kid_over t c.before).lengths, at_over t c.before)),
      c.set-found.ensures.nodes,
      ap (λ (s : Subtree). s.nodes) c.self.view_is,
    )

pub returns-then-own-gt31-clause-inner : goal.returns-then-own-gt31-clause-inner
returns-then-own-gt31-clause-inner t c =
    omega (
      arith,
      c.split_kid.ensures.inner,
      grown_inner c.self.inside.kids.items c.index_mut-kid.result.now c.set-found.new.self
          c.in-Err.at c.index_mut-kid.ensures.value
          (omega (arith, (kid_over t c.before).lengths, at_over t c.before)),
      c.set-found.ensures.inner,
      ap (λ (s : Subtree). s.inner) c.self.view_is,
    )

pub returns-then-own-gt31-clause-takes : goal.returns-then-own-gt31-clause-takes
returns-then-own-gt31-clause-takes t c =
    takes_both c.set-found.result c.index_mut-kid.result.now.depth c.args.pool.now
    c.set-found.new.pool c.split_kid.new.pool c.set-found.ensures.takes c.set-found.ensures.leaf
    c.split_kid.ensures.takes
    (λ some. c.split_kid.ensures.takes_inner (omega (arith, some, level_over t c.before)))
    (c.set-found.ensures.over (overfull t c.before).many)

pub returns-then-own-gt31-clause-kid : goal.returns-then-own-gt31-clause-kid
returns-then-own-gt31-clause-kid t c fits few =
    let k = kid_over t c.before in
    still_kid _ _ _ _ _ c.split_kid.ensures.node
    (c.split_kid.ensures.depth
    ∙ depth_set c.self.inside.kids.items c.in-Err.at c.set-found.new.self c.self.invariant.kids
    (c.set-found.ensures.depth ∙ k.fits.depth) (omega (arith, k.lengths, at_over t c.before))
    ∙ ap (λ (s : Subtree). s.depth) c.self.view_is)
    (omega (
      arith,
      fits.low,
      ap (λ (s : Subtree). s.own) c.self.view_is,
      c.split_kid.ensures.own,
      c.split_kid.new.items.ok.0,
      c.self.inside.items.ok.0,
    )) few

-- where it has not
kid_else : (t : _) (c : goal.Else-own-gt31 t)
    → AtKid c.args.item.0 c.args.self.now c.index_mut-kid.result.now c.self.inside.kids.items
    c.self.inside.items.items c.in-Err.at
kid_else t c =
    let gap = rw (c.deref.ensures.value, c.key.ensures) at c.in-Err.ensures.absent in
    let some : 0 < length c.self.inside.kids.items = omega (arith, c.self.inside.kids.ok.0) in
    at_kid _ _ _ _ _ _ _ _ c.self.view_is c.self.invariant c.requires.rising gap some
    c.index_mut-kid.ensures.value

grown : (t : _) (c : goal.Else-own-gt31 t)
    → Grown c.args.item.0 c.args.item.1 c.args.self.now
    (set c.self.inside.kids.items c.in-Err.at c.set-found.new.self) c.self.inside.items.items
grown t c =
    let gap = rw (c.deref.ensures.value, c.key.ensures) at c.in-Err.ensures.absent in
    let k = kid_else t c in
    let le : c.in-Err.at ≤ length c.self.inside.items.items = gap-le nat_list_cmp_total _ _ _ gap in
    let fits : IsKid c.index_mut-kid.result.now.depth c.index_mut-kid.result.now =
    subst (λ (d : _). IsKid d c.index_mut-kid.result.now) (sym k.fits.depth) k.fits in
    grown_kid _ _ _ _ _ _ _ _ k c.self.view_is c.self.invariant.kids le
    (c.set-found.ensures.kid fits (omega (arith, c.own.ensures.value, c.if-own-gt31.false)))
    c.set-found.ensures.pairs

pub invariant_of-self-else-own-gt31 : goal.invariant_of-self-else-own-gt31
invariant_of-self-else-own-gt31 t c =
    let g = grown t c in
    record {
      kids = g.level;
      shape = g.shape;
      few = c.self.invariant.few;
      kid_room = λ some. c.self.invariant.kid_room (omega
          (arith, length_set c.self.inside.kids.items c.in-Err.at c.set-found.new.self));
      item_room = c.self.invariant.item_room;
    }

pub returns-else-own-gt31-clause-found : goal.returns-else-own-gt31-clause-found
returns-else-own-gt31-clause-found t c =
    c.set-found.ensures.found ∙ ap is_some (sym (find_focus (kid_else t c).focus))

pub returns-else-own-gt31-clause-pairs : goal.returns-else-own-gt31-clause-pairs
returns-else-own-gt31-clause-pairs t c = (grown t c).pairs

pub returns-else-own-gt31-clause-nodes : goal.returns-else-own-gt31-clause-nodes
returns-else-own-gt31-clause-nodes t c =
    let gap = rw (c.deref.ensures.value, c.key.ensures) at c.in-Err.ensures.absent in
    omega (
      arith,
      grown_nodes c.self.inside.kids.items c.index_mut-kid.result.now c.set-found.new.self
          c.in-Err.at c.index_mut-kid.ensures.value
          (omega (arith, (kid_else t c).lengths, gap-le nat_list_cmp_total _ _ _ gap)),
      c.set-found.ensures.nodes,
      ap (λ (s : Subtree). s.nodes) c.self.view_is,
    )

pub returns-else-own-gt31-clause-inner : goal.returns-else-own-gt31-clause-inner
returns-else-own-gt31-clause-inner t c =
    let gap = rw (c.deref.ensures.value, c.key.ensures) at c.in-Err.ensures.absent in
    omega (
      arith,
      grown_inner c.self.inside.kids.items c.index_mut-kid.result.now c.set-found.new.self
          c.in-Err.at c.index_mut-kid.ensures.value
          (omega (arith, (kid_else t c).lengths, gap-le nat_list_cmp_total _ _ _ gap)),
      c.set-found.ensures.inner,
      ap (λ (s : Subtree). s.inner) c.self.view_is,
    )

pub returns-else-own-gt31-clause-kid : goal.returns-else-own-gt31-clause-kid
returns-else-own-gt31-clause-kid t c fits few =
    grown_fits _ _ _ _ _ (grown t c) (omega (
      arith,
      ap (λ (s : Subtree). s.own) c.self.view_is,
    )) few fits

-- a leaf
pub returns-else-len-gt0-clause-pairs : goal.returns-else-len-gt0-clause-pairs
returns-else-len-gt0-clause-pairs t c =
    let gap = rw (c.deref.ensures.value, c.key.ensures) at c.in-Err.ensures.absent in
    let none : length c.self.inside.kids.items ≤ 0 = omega (arith, c.self.inside.kids.ok.0) in
    rw c.insert_within.ensures.items (grown_leaf _ _ _ _ _ _ c.self.view_is gap none)

pub returns-else-len-gt0-clause-found : goal.returns-else-len-gt0-clause-found
returns-else-len-gt0-clause-found t c =
    let gap = rw (c.deref.ensures.value, c.key.ensures) at c.in-Err.ensures.absent in
    let none : length c.self.inside.kids.items ≤ 0 = omega (arith, c.self.inside.kids.ok.0) in
    sym (ap is_some (find_leaf _ _ _ _ _ c.self.view_is c.requires.rising gap none))
