use Rattle.std.proofs.Common.{◌-◌, List, [], ◌∷◌, ◌++◌, sym, ap, ◌∙◌}
use Rattle.std.proofs.Common.{arith}
use Rattle.kv_tree.specs.Subtree.{Pair, Subtree}
use Rattle.kv_tree.proofs.RemoveLemmas.{IsKidOf, kid_of, IsShrunk, shrunk_level, shrunk_nodes}
use Rattle.kv_tree.proofs.RemoveLemmas.{shrunk_inner, shrunk_depth, shrunk_last, still_kid}
use Rattle.kv_tree.proofs.node.Node.+take_greatest.Goals as goal

pub take_greatest-greatest-requires : goal.take_greatest-greatest-requires
take_greatest-greatest-requires t c =
    let k = kid_of c.args.self.now c.index_mut-kid.result.now c.self.inside.kids.items
    c.self.inside.items.items (c.len-count.result - 1) _ _ c.self.view_is c.self.invariant
    c.index_mut-kid.ensures.value (omega (arith, c.self.inside.kids.ok.0)) in
    (omega (arith, k.falls), (omega (arith, k.fits.low), (k.fits.high, omega (arith, k.nodes))))

of_kid : (t : _) (c : goal.After-refill-arg-then-count-gt0-2-1 t)
    → IsKidOf c.args.self.now c.index_mut-kid.result.now c.self.inside.kids.items
    c.self.inside.items.items (c.len-count.result - 1)
of_kid t c =
    kid_of c.args.self.now c.index_mut-kid.result.now c.self.inside.kids.items
    c.self.inside.items.items (c.len-count.result - 1) _ _ c.self.view_is c.self.invariant
    c.index_mut-kid.ensures.value (omega (arith, c.self.inside.kids.ok.0))

shrunk : (t : _) (c : goal.After-refill-arg-then-count-gt0-2-1 t)
    → IsShrunk c.index_mut-kid.result.now c.take_greatest-greatest.new.self
shrunk t c =
    let e = c.take_greatest-greatest.ensures in
    record { depth = e.depth; fewer = e.fewer; own = e.own; kid = e.kid }

pub refill-requires-clause-level : goal.refill-requires-clause-level
refill-requires-clause-level t c = shrunk_level (of_kid t c) _ (shrunk t c)

pub refill-requires-clause-room : goal.refill-requires-clause-room
refill-requires-clause-room t c =
    omega (
      arith,
      shrunk_nodes (of_kid t c) c.take_greatest-greatest.new.self,
      c.take_greatest-greatest.ensures.nodes,
      c.take_greatest-greatest.ensures.room,
      c.requires.room,
    )

pub refill-requires-clause-inner_room : goal.refill-requires-clause-inner_room
refill-requires-clause-inner_room t c =
    omega (
      arith,
      shrunk_inner (of_kid t c) c.take_greatest-greatest.new.self,
      c.take_greatest-greatest.ensures.inner,
      c.take_greatest-greatest.ensures.room,
      c.requires.inner_room,
    )

pub returns-then-count-gt0-clause-pairs : goal.returns-then-count-gt0-clause-pairs
returns-then-count-gt0-clause-pairs t c =
    let k = of_kid t c.before in
    shrunk_last k _ c.take_greatest-greatest.result (omega
    (arith, k.lengths, c.self.inside.kids.ok.0)) c.take_greatest-greatest.ensures.pairs
    ∙ ap (λ (l : List Pair). l ++ c.take_greatest-greatest.result ∷ []) (sym c.refill.ensures.pairs)

pub returns-then-count-gt0-clause-nodes : goal.returns-then-count-gt0-clause-nodes
returns-then-count-gt0-clause-nodes t c =
    omega (
      arith,
      shrunk_nodes (of_kid t c.before) c.take_greatest-greatest.new.self,
      c.take_greatest-greatest.ensures.nodes,
      c.refill.ensures.nodes,
    )

pub returns-then-count-gt0-clause-inner : goal.returns-then-count-gt0-clause-inner
returns-then-count-gt0-clause-inner t c =
    omega (
      arith,
      shrunk_inner (of_kid t c.before) c.take_greatest-greatest.new.self,
      c.take_greatest-greatest.ensures.inner,
      c.refill.ensures.inner,
    )

pub returns-then-count-gt0-clause-kid : goal.returns-then-count-gt0-clause-kid
returns-then-count-gt0-clause-kid t c kid enough =
    still_kid _ _ _ _ _ c.refill.ensures.node (c.refill.ensures.depth
    ∙ shrunk_depth (of_kid t c.before) _ (shrunk t c.before)) enough
    (omega (arith, c.requires.few, ap (λ (s : Subtree). s.own) c.self.view_is))
