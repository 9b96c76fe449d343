use Rattle.std.proofs.Common.{◌<◌, ◌≤◌, length, set, Some, sym}
use Rattle.std.proofs.Common.{ap, ◌∙◌, arith}
use Rattle.std.proofs.lemmas.Cmp.{nat_list_cmp_total}
use Rattle.kv_index.proofs.PlacesLemmas.{at-lt, gap-le}
use Rattle.kv_tree.specs.Subtree.{Pair, Subtree, weave}
use Rattle.kv_tree.proofs.WeaveLemmas.{own_rising, at_kid, at_item, find_item, find_focus}
use Rattle.kv_tree.proofs.WeaveLemmas.{find_leaf}
use Rattle.kv_tree.proofs.RemoveLemmas.{ok_kid, err_kid, IsShrunk, shrunk_level}
use Rattle.kv_tree.proofs.RemoveLemmas.{shrunk_nodes, shrunk_inner, shrunk_depth, shrunk_pull}
use Rattle.kv_tree.proofs.RemoveLemmas.{still_kid, leaf_without, leaf_same, without_kid}
use Rattle.kv_tree.proofs.node.Node.+remove.Goals as goal

pub place_of-requires-clause-rising : goal.place_of-requires-clause-rising
place_of-requires-clause-rising t c =
    rw c.deref.ensures.value (own_rising c.self.inside.kids.items _
    (rw (← c.self.view_is) at c.requires.rising))

-- the node's own item goes, and the greatest of the kid before it takes its place
pub take_greatest-greatest-requires-clause-some : goal.take_greatest-greatest-requires-clause-some
take_greatest-greatest-requires-clause-some t c =
    let place = rw c.deref.ensures.value at c.in-Ok.ensures.found in
    let some : 0 < length c.self.inside.kids.items = omega (arith, c.self.inside.kids.ok.0) in
    let k = ok_kid c.args.key.now c.args.self.now c.index_mut-kid.result.now
    c.self.inside.kids.items c.self.inside.items.items c.in-Ok.at _ _ c.self.view_is
    c.self.invariant place some c.index_mut-kid.ensures.value in
    omega (arith, k.fits.low)

pub take_greatest-greatest-requires-clause-few : goal.take_greatest-greatest-requires-clause-few
take_greatest-greatest-requires-clause-few t c =
    let place = rw c.deref.ensures.value at c.in-Ok.ensures.found in
    let some : 0 < length c.self.inside.kids.items = omega (arith, c.self.inside.kids.ok.0) in
    let k = ok_kid c.args.key.now c.args.self.now c.index_mut-kid.result.now
    c.self.inside.kids.items c.self.inside.items.items c.in-Ok.at _ _ c.self.view_is
    c.self.invariant place some c.index_mut-kid.ensures.value in
    k.fits.high

pub take_greatest-greatest-requires-clause-room : goal.take_greatest-greatest-requires-clause-room
take_greatest-greatest-requires-clause-room t c =
    let place = rw c.deref.ensures.value at c.in-Ok.ensures.found in
    let some : 0 < length c.self.inside.kids.items = omega (arith, c.self.inside.kids.ok.0) in
    let k = ok_kid c.args.key.now c.args.self.now c.index_mut-kid.result.now
    c.self.inside.kids.items c.self.inside.items.items c.in-Ok.at _ _ c.self.view_is
    c.self.invariant place some c.index_mut-kid.ensures.value in
    omega (arith, k.nodes)

pub take_greatest-greatest-requires-clause-inner_room :
    goal.take_greatest-greatest-requires-clause-inner_room
take_greatest-greatest-requires-clause-inner_room t c =
    let place = rw c.deref.ensures.value at c.in-Ok.ensures.found in
    let some : 0 < length c.self.inside.kids.items = omega (arith, c.self.inside.kids.ok.0) in
    let k = ok_kid c.args.key.now c.args.self.now c.index_mut-kid.result.now
    c.self.inside.kids.items c.self.inside.items.items c.in-Ok.at _ _ c.self.view_is
    c.self.invariant place some c.index_mut-kid.ensures.value in
    omega (arith, k.inner)

pub refill-requires-clause-level : goal.refill-requires-clause-level
refill-requires-clause-level t c =
    let place = rw c.deref.ensures.value at c.in-Ok.ensures.found in
    let some : 0 < length c.self.inside.kids.items = omega (arith, c.self.inside.kids.ok.0) in
    let k = ok_kid c.args.key.now c.args.self.now c.index_mut-kid.result.now
    c.self.inside.kids.items c.self.inside.items.items c.in-Ok.at _ _ c.self.view_is
    c.self.invariant place some c.index_mut-kid.ensures.value in
    let e = c.take_greatest-greatest.ensures in
    let h : IsShrunk c.index_mut-kid.result.now c.take_greatest-greatest.new.self =
    record { depth = e.depth; fewer = e.fewer; own = e.own; kid = e.kid } in
    shrunk_level k _ h

pub refill-requires-clause-room : goal.refill-requires-clause-room
refill-requires-clause-room t c =
    let place = rw c.deref.ensures.value at c.in-Ok.ensures.found in
    let some : 0 < length c.self.inside.kids.items = omega (arith, c.self.inside.kids.ok.0) in
    let k = ok_kid c.args.key.now c.args.self.now c.index_mut-kid.result.now
    c.self.inside.kids.items c.self.inside.items.items c.in-Ok.at _ _ c.self.view_is
    c.self.invariant place some c.index_mut-kid.ensures.value in
    omega (
      arith,
      shrunk_nodes k c.take_greatest-greatest.new.self,
      c.take_greatest-greatest.ensures.nodes,
      c.take_greatest-greatest.ensures.room,
      c.requires.room,
    )

pub refill-requires-clause-inner_room : goal.refill-requires-clause-inner_room
refill-requires-clause-inner_room t c =
    let place = rw c.deref.ensures.value at c.in-Ok.ensures.found in
    let some : 0 < length c.self.inside.kids.items = omega (arith, c.self.inside.kids.ok.0) in
    let k = ok_kid c.args.key.now c.args.self.now c.index_mut-kid.result.now
    c.self.inside.kids.items c.self.inside.items.items c.in-Ok.at _ _ c.self.view_is
    c.self.invariant place some c.index_mut-kid.ensures.value in
    omega (
      arith,
      shrunk_inner k c.take_greatest-greatest.new.self,
      c.take_greatest-greatest.ensures.inner,
      c.take_greatest-greatest.ensures.room,
      c.requires.inner_room,
    )

pub returns-then-len-gt0-clause-value : goal.returns-then-len-gt0-clause-value
returns-then-len-gt0-clause-value t c =
    let place = rw c.deref.ensures.value at c.in-Ok.ensures.found in
    let i = at_item _ _ _ _ _ _ _ _ c.self.view_is c.self.invariant place
    c.index_mut-own.ensures.value in
    ap Some (c.entry.ensures ∙ ap (λ (p : Pair). p.1) c.replace-old.ensures.value)
    ∙ sym (find_item _ _ _ _ _ i.is c.requires.rising i.ties)

pub returns-then-len-gt0-clause-pairs : goal.returns-then-len-gt0-clause-pairs
returns-then-len-gt0-clause-pairs t c =
    let place = rw c.deref.ensures.value at c.in-Ok.ensures.found in
    let some : 0 < length c.self.inside.kids.items = omega (arith, c.self.inside.kids.ok.0) in
    let k = ok_kid c.args.key.now c.args.self.now c.index_mut-kid.result.now
    c.self.inside.kids.items c.self.inside.items.items c.in-Ok.at _ _ c.self.view_is
    c.self.invariant place some c.index_mut-kid.ensures.value in
    let i = at_item _ _ _ _ _ _ _ _ c.self.view_is c.self.invariant place
    c.index_mut-own.ensures.value in
    c.refill.ensures.pairs
    ∙ ap (λ (p : Pair). weave (set c.self.inside.kids.items c.in-Ok.at
    c.take_greatest-greatest.new.self) (set c.self.inside.items.items c.in-Ok.at p))
    c.replace-old.ensures.after
    ∙ shrunk_pull k i c.take_greatest-greatest.new.self c.take_greatest-greatest.result
    (at-lt nat_list_cmp_total _ _ _ place) c.requires.rising
    c.take_greatest-greatest.ensures.pairs

pub returns-then-len-gt0-clause-nodes : goal.returns-then-len-gt0-clause-nodes
returns-then-len-gt0-clause-nodes t c =
    let place = rw c.deref.ensures.value at c.in-Ok.ensures.found in
    let some : 0 < length c.self.inside.kids.items = omega (arith, c.self.inside.kids.ok.0) in
    let k = ok_kid c.args.key.now c.args.self.now c.index_mut-kid.result.now
    c.self.inside.kids.items c.self.inside.items.items c.in-Ok.at _ _ c.self.view_is
    c.self.invariant place some c.index_mut-kid.ensures.value in
    omega (
      arith,
      shrunk_nodes k c.take_greatest-greatest.new.self,
      c.take_greatest-greatest.ensures.nodes,
      c.refill.ensures.nodes,
    )

pub returns-then-len-gt0-clause-inner : goal.returns-then-len-gt0-clause-inner
returns-then-len-gt0-clause-inner t c =
    let place = rw c.deref.ensures.value at c.in-Ok.ensures.found in
    let some : 0 < length c.self.inside.kids.items = omega (arith, c.self.inside.kids.ok.0) in
    let k = ok_kid c.args.key.now c.args.self.now c.index_mut-kid.result.now
    c.self.inside.kids.items c.self.inside.items.items c.in-Ok.at _ _ c.self.view_is
    c.self.invariant place some c.index_mut-kid.ensures.value in
    omega (
      arith,
      shrunk_inner k c.take_greatest-greatest.new.self,
      c.take_greatest-greatest.ensures.inner,
      c.refill.ensures.inner,
    )

pub returns-then-len-gt0-clause-kid : goal.returns-then-len-gt0-clause-kid
returns-then-len-gt0-clause-kid t c kid enough =
    let place = rw c.deref.ensures.value at c.in-Ok.ensures.found in
    let some : 0 < length c.self.inside.kids.items = omega (arith, c.self.inside.kids.ok.0) in
    let k = ok_kid c.args.key.now c.args.self.now c.index_mut-kid.result.now
    c.self.inside.kids.items c.self.inside.items.items c.in-Ok.at _ _ c.self.view_is
    c.self.invariant place some c.index_mut-kid.ensures.value in
    let e = c.take_greatest-greatest.ensures in
    let h : IsShrunk c.index_mut-kid.result.now c.take_greatest-greatest.new.self =
    record { depth = e.depth; fewer = e.fewer; own = e.own; kid = e.kid } in
    still_kid _ _ _ _ _ c.refill.ensures.node (c.refill.ensures.depth ∙ shrunk_depth k _ h) enough
    (omega (arith, c.requires.few, ap (λ (s : Subtree). s.own) c.self.view_is))

-- a leaf's own item goes
pub returns-else-len-gt0-clause-value : goal.returns-else-len-gt0-clause-value
returns-else-len-gt0-clause-value t c =
    let place = rw c.deref.ensures.value at c.in-Ok.ensures.found in
    let i = at_item _ _ _ _ _ _ _ _ c.self.view_is c.self.invariant place
    c.remove-old.ensures.value in
    ap Some c.entry-else-len-gt0.ensures ∙ sym (find_item _ _ _ _ _ i.is c.requires.rising i.ties)

pub returns-else-len-gt0-clause-pairs : goal.returns-else-len-gt0-clause-pairs
returns-else-len-gt0-clause-pairs t c =
    let place = rw c.deref.ensures.value at c.in-Ok.ensures.found in
    let none : length c.self.inside.kids.items ≤ 0 = omega (arith, c.self.inside.kids.ok.0) in
    rw c.remove-old.ensures.items (leaf_without _ _ _ _ _ c.self.view_is c.requires.rising place
    none)

-- the key can stand in a kid alone
pub remove-found-requires : goal.remove-found-requires
remove-found-requires t c =
    let gap = rw c.deref.ensures.value at c.in-Err.ensures.absent in
    let some : 0 < length c.self.inside.kids.items = omega (arith, c.self.inside.kids.ok.0) in
    let k = err_kid c.args.key.now c.args.self.now c.index_mut-kid-then-len-gt0-2.result.now
    c.self.inside.kids.items c.self.inside.items.items c.in-Err.at _ _ c.self.view_is
    c.self.invariant gap some c.index_mut-kid-then-len-gt0-2.ensures.value in
    let r = at_kid _ _ _ _ _ _ _ _ c.self.view_is c.self.invariant c.requires.rising gap some
    c.index_mut-kid-then-len-gt0-2.ensures.value in (
      omega (arith, k.falls),
      (
        r.rising,
        (
          c.requires.number,
          ((λ h. omega (arith, k.fits.low)), (k.fits.high, omega (arith, k.nodes))),
        ),
      ),
    )

pub refill-requires-then-len-gt0-2-clause-level : goal.refill-requires-then-len-gt0-2-clause-level
refill-requires-then-len-gt0-2-clause-level t c =
    let gap = rw c.deref.ensures.value at c.in-Err.ensures.absent in
    let some : 0 < length c.self.inside.kids.items = omega (arith, c.self.inside.kids.ok.0) in
    let k = err_kid c.args.key.now c.args.self.now c.index_mut-kid-then-len-gt0-2.result.now
    c.self.inside.kids.items c.self.inside.items.items c.in-Err.at _ _ c.self.view_is
    c.self.invariant gap some c.index_mut-kid-then-len-gt0-2.ensures.value in
    let e = c.remove-found.ensures in
    let h : IsShrunk c.index_mut-kid-then-len-gt0-2.result.now c.remove-found.new.self =
    record { depth = e.depth; fewer = e.fewer; own = e.own; kid = e.kid } in
    shrunk_level k _ h

pub refill-requires-then-len-gt0-2-clause-room : goal.refill-requires-then-len-gt0-2-clause-room
refill-requires-then-len-gt0-2-clause-room t c =
    let gap = rw c.deref.ensures.value at c.in-Err.ensures.absent in
    let some : 0 < length c.self.inside.kids.items = omega (arith, c.self.inside.kids.ok.0) in
    let k = err_kid c.args.key.now c.args.self.now c.index_mut-kid-then-len-gt0-2.result.now
    c.self.inside.kids.items c.self.inside.items.items c.in-Err.at _ _ c.self.view_is
    c.self.invariant gap some c.index_mut-kid-then-len-gt0-2.ensures.value in
    omega (
      arith,
      shrunk_nodes k c.remove-found.new.self,
      c.remove-found.ensures.nodes,
      c.remove-found.ensures.room,
      c.requires.room,
    )

pub refill-requires-then-len-gt0-2-clause-inner_room :
    goal.refill-requires-then-len-gt0-2-clause-inner_room
refill-requires-then-len-gt0-2-clause-inner_room t c =
    let gap = rw c.deref.ensures.value at c.in-Err.ensures.absent in
    let some : 0 < length c.self.inside.kids.items = omega (arith, c.self.inside.kids.ok.0) in
    let k = err_kid c.args.key.now c.args.self.now c.index_mut-kid-then-len-gt0-2.result.now
    c.self.inside.kids.items c.self.inside.items.items c.in-Err.at _ _ c.self.view_is
    c.self.invariant gap some c.index_mut-kid-then-len-gt0-2.ensures.value in
    omega (
      arith,
      shrunk_inner k c.remove-found.new.self,
      c.remove-found.ensures.inner,
      c.remove-found.ensures.room,
      c.requires.inner_room,
    )

pub returns-then-len-gt0-2-clause-value : goal.returns-then-len-gt0-2-clause-value
returns-then-len-gt0-2-clause-value t c =
    let gap = rw c.deref.ensures.value at c.in-Err.ensures.absent in
    let some : 0 < length c.self.inside.kids.items = omega (arith, c.self.inside.kids.ok.0) in
    let r = at_kid _ _ _ _ _ _ _ _ c.self.view_is c.self.invariant c.requires.rising gap some
    c.index_mut-kid-then-len-gt0-2.ensures.value in
    c.remove-found.ensures.value ∙ sym (find_focus r.focus)

pub returns-then-len-gt0-2-clause-pairs : goal.returns-then-len-gt0-2-clause-pairs
returns-then-len-gt0-2-clause-pairs t c =
    let gap = rw c.deref.ensures.value at c.in-Err.ensures.absent in
    let some : 0 < length c.self.inside.kids.items = omega (arith, c.self.inside.kids.ok.0) in
    let r = at_kid _ _ _ _ _ _ _ _ c.self.view_is c.self.invariant c.requires.rising gap some
    c.index_mut-kid-then-len-gt0-2.ensures.value in
    c.refill-then-len-gt0-2.ensures.pairs ∙ without_kid c.remove-found.new.self r
    (gap-le nat_list_cmp_total _ _ _ gap) c.remove-found.ensures.pairs

pub returns-then-len-gt0-2-clause-nodes : goal.returns-then-len-gt0-2-clause-nodes
returns-then-len-gt0-2-clause-nodes t c =
    let gap = rw c.deref.ensures.value at c.in-Err.ensures.absent in
    let some : 0 < length c.self.inside.kids.items = omega (arith, c.self.inside.kids.ok.0) in
    let k = err_kid c.args.key.now c.args.self.now c.index_mut-kid-then-len-gt0-2.result.now
    c.self.inside.kids.items c.self.inside.items.items c.in-Err.at _ _ c.self.view_is
    c.self.invariant gap some c.index_mut-kid-then-len-gt0-2.ensures.value in
    omega (
      arith,
      shrunk_nodes k c.remove-found.new.self,
      c.remove-found.ensures.nodes,
      c.refill-then-len-gt0-2.ensures.nodes,
    )

pub returns-then-len-gt0-2-clause-inner : goal.returns-then-len-gt0-2-clause-inner
returns-then-len-gt0-2-clause-inner t c =
    let gap = rw c.deref.ensures.value at c.in-Err.ensures.absent in
    let some : 0 < length c.self.inside.kids.items = omega (arith, c.self.inside.kids.ok.0) in
    let k = err_kid c.args.key.now c.args.self.now c.index_mut-kid-then-len-gt0-2.result.now
    c.self.inside.kids.items c.self.inside.items.items c.in-Err.at _ _ c.self.view_is
    c.self.invariant gap some c.index_mut-kid-then-len-gt0-2.ensures.value in
    omega (
      arith,
      shrunk_inner k c.remove-found.new.self,
      c.remove-found.ensures.inner,
      c.refill-then-len-gt0-2.ensures.inner,
    )

pub returns-then-len-gt0-2-clause-kid : goal.returns-then-len-gt0-2-clause-kid
returns-then-len-gt0-2-clause-kid t c kid enough =
    let gap = rw c.deref.ensures.value at c.in-Err.ensures.absent in
    let some : 0 < length c.self.inside.kids.items = omega (arith, c.self.inside.kids.ok.0) in
    let k = err_kid c.args.key.now c.args.self.now c.index_mut-kid-then-len-gt0-2.result.now
    c.self.inside.kids.items c.self.inside.items.items c.in-Err.at _ _ c.self.view_is
    c.self.invariant gap some c.index_mut-kid-then-len-gt0-2.ensures.value in
    let e = c.remove-found.ensures in
    let h : IsShrunk c.index_mut-kid-then-len-gt0-2.result.now c.remove-found.new.self =
    record { depth = e.depth; fewer = e.fewer; own = e.own; kid = e.kid } in
    still_kid _ _ _ _ _ c.refill-then-len-gt0-2.ensures.node
    (c.refill-then-len-gt0-2.ensures.depth ∙ shrunk_depth k _ h) enough
    (omega (arith, c.requires.few, ap (λ (s : Subtree). s.own) c.self.view_is))

-- no pair of a leaf has the key
pub returns-else-len-gt0-2-clause-value : goal.returns-else-len-gt0-2-clause-value
returns-else-len-gt0-2-clause-value t c =
    let gap = rw c.deref.ensures.value at c.in-Err.ensures.absent in
    let none : length c.self.inside.kids.items ≤ 0 = omega (arith, c.self.inside.kids.ok.0) in
    sym (find_leaf _ _ _ _ _ c.self.view_is c.requires.rising gap none)

pub returns-else-len-gt0-2-clause-pairs : goal.returns-else-len-gt0-2-clause-pairs
returns-else-len-gt0-2-clause-pairs t c =
    let gap = rw c.deref.ensures.value at c.in-Err.ensures.absent in
    let none : length c.self.inside.kids.items ≤ 0 = omega (arith, c.self.inside.kids.ok.0) in
    leaf_same _ _ _ _ _ c.self.view_is c.requires.rising gap none
