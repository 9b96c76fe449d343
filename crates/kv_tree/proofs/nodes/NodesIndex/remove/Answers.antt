use Rattle.std.proofs.Common.{◌≡◌, ◌+◌, length, sym}
use Rattle.std.proofs.Common.{◌∙◌, arith}
use Rattle.kv_tree.proofs.MapLemmas.{get_is, without_rising, without_map, without_some}
use Rattle.kv_tree.proofs.MapLemmas.{without_none}
use Rattle.kv_tree.proofs.nodes.NodesIndex.remove.Goals as goal

-- the key is there
pub overflow_sub-self : goal.overflow_sub-self
overflow_sub-self c =
    let less : length c.remove_below.new.root.pairs + 1 ≡ length c.self.inside.root.pairs
    = without_some c.args.key.now _ _ c.in-Some.entry c.self.invariant.rising
    c.in-Some.ensures.pairs (sym c.in-Some.ensures.value) in
    omega (arith, c.self.invariant.keys)

pub invariant_of-self : goal.invariant_of-self
invariant_of-self c =
    let old = c.self.invariant in
    let less : length c.remove_below.new.root.pairs + 1 ≡ length c.self.inside.root.pairs
    = without_some c.args.key.now _ _ c.in-Some.entry old.rising c.in-Some.ensures.pairs
    (sym c.in-Some.ensures.value) in
    record {
      rising = without_rising c.args.key.now c.self.inside.root.pairs _ old.rising
          c.in-Some.ensures.pairs;
      keys = omega (arith, old.keys);
      few = omega (arith, old.few);
      nodes = c.in-Some.ensures.nodes ∙ old.nodes;
      few_nodes = old.few_nodes;
      room = omega (arith, old.room, c.in-Some.ensures.room);
      inner = c.in-Some.ensures.inner ∙ old.inner;
      wide = old.wide;
      fewer = old.fewer;
      enough = λ few. omega (arith, old.enough (omega (arith, c.in-Some.ensures.spares)), old.keys);
      own = c.in-Some.ensures.few;
      has_own = c.in-Some.ensures.has_own;
    }

pub returns-in-Some-clause-value : goal.returns-in-Some-clause-value
returns-in-Some-clause-value c =
    rw (← c.self.view_is) (c.in-Some.ensures.value ∙ sym
    (get_is c.self.inside.root.pairs c.args.key.now c.self.invariant.rising))

pub returns-in-Some-clause-rest : goal.returns-in-Some-clause-rest
returns-in-Some-clause-rest c =
    rw (← c.self.view_is) (without_map c.args.key.now c.self.inside.root.pairs _
    c.self.invariant.rising c.in-Some.ensures.pairs)

-- it is not
pub invariant_of-self-in-None : goal.invariant_of-self-in-None
invariant_of-self-in-None c =
    let old = c.self.invariant in
    let same : length c.remove_below.new.root.pairs ≡ length c.self.inside.root.pairs
    = without_none c.args.key.now _ _ old.rising c.in-None.ensures.pairs
    (sym c.in-None.ensures.value) in
    record {
      rising = without_rising c.args.key.now c.self.inside.root.pairs _ old.rising
          c.in-None.ensures.pairs;
      keys = omega (arith, old.keys);
      few = old.few;
      nodes = c.in-None.ensures.nodes ∙ old.nodes;
      few_nodes = old.few_nodes;
      room = omega (arith, old.room, c.in-None.ensures.room);
      inner = c.in-None.ensures.inner ∙ old.inner;
      wide = old.wide;
      fewer = old.fewer;
      enough = λ few. old.enough (omega (arith, c.in-None.ensures.spares));
      own = c.in-None.ensures.few;
      has_own = c.in-None.ensures.has_own;
    }

pub returns-in-None-clause-value : goal.returns-in-None-clause-value
returns-in-None-clause-value c =
    rw (← c.self.view_is) (c.in-None.ensures.value ∙ sym
    (get_is c.self.inside.root.pairs c.args.key.now c.self.invariant.rising))

pub returns-in-None-clause-rest : goal.returns-in-None-clause-rest
returns-in-None-clause-rest c =
    rw (← c.self.view_is) (without_map c.args.key.now c.self.inside.root.pairs _
    c.self.invariant.rising c.in-None.ensures.pairs)
