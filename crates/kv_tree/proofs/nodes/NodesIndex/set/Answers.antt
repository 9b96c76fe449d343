use Rattle.std.proofs.Common.{◌≡◌, true, false, sym, ap, ◌∙◌}
use Rattle.std.proofs.Common.{arith, rules}
use Rattle.kv_index.proofs.EntriesLemmas.{len_is}
use Rattle.kv_tree.specs.Subtree.{new_keys}
use Rattle.kv_tree.proofs.MapLemmas.{get_is, get_none, put_rising, put_map, put_new, put_old}
use Rattle.kv_tree.proofs.MapLemmas.{put_is, told}
use Rattle.kv_tree.proofs.nodes.NodesIndex.set.Goals as goal

-- a new key
pub overflow_add-self : goal.overflow_add-self
overflow_add-self c =
    let no : c.set_below-found.result ≡ false = search rules in
    let old = c.self.invariant in
    let new = told _ c.new-item.result c.args.key c.args.entry c.self.inside.root.pairs
    c.set_below-found.ensures.found c.new-item.ensures ∙ no in
    let none = get_none c.self.inside.root.pairs c.args.key old.rising new in
    let few = rw (← c.self.view_is, none, len_is _ old.rising) at c.requires.few in
    omega (arith, old.keys)

pub overflow_sub-self : goal.overflow_sub-self
overflow_sub-self c =
    let no : c.set_below-found.result ≡ false = search rules in
    let old = c.self.invariant in
    let new = told _ c.new-item.result c.args.key c.args.entry c.self.inside.root.pairs
    c.set_below-found.ensures.found c.new-item.ensures ∙ no in
    let none = get_none c.self.inside.root.pairs c.args.key old.rising new in
    rw (← c.self.view_is, none) at c.requires.room

pub invariant_of-self : goal.invariant_of-self
invariant_of-self c =
    let no : c.set_below-found.result ≡ false = search rules in
    let old = c.self.invariant in
    let new = told _ c.new-item.result c.args.key c.args.entry c.self.inside.root.pairs
    c.set_below-found.ensures.found c.new-item.ensures ∙ no in
    let none = get_none c.self.inside.root.pairs c.args.key old.rising new in
    let few = rw (← c.self.view_is, none, len_is _ old.rising) at c.requires.few in
    let some = rw (← c.self.view_is, none) at c.requires.room in
    let pairs = put_is _ c.new-item.result c.args.key c.args.entry c.self.inside.root.pairs
    c.set_below-found.ensures.pairs c.new-item.ensures in
    let more = put_new c.args.key c.args.entry _ _ old.rising pairs new in
    let takes = ap new_keys no in
    record {
      rising = put_rising c.args.key c.args.entry c.self.inside.root.pairs _ old.rising pairs;
      keys = omega (arith, old.keys, more);
      few = omega (arith, old.keys);
      nodes = c.set_below-found.ensures.nodes ∙ old.nodes;
      inner = c.set_below-found.ensures.inner ∙ old.inner;
      few_nodes = old.few_nodes;
      room = omega (arith, old.room, c.set_below-found.ensures.room);
      wide = old.wide;
      fewer = old.fewer;
      enough = λ short. omega (
        arith,
        old.enough (omega
            (arith, c.set_below-found.ensures.takes, takes)),
      );
      own = c.set_below-found.ensures.few;
      has_own = c.set_below-found.ensures.has_own old.has_own;
    }

pub returns-then-not-found-clause-value : goal.returns-then-not-found-clause-value
returns-then-not-found-clause-value c =
    let pairs = put_is _ c.new-item.result c.args.key c.args.entry c.self.inside.root.pairs
    c.set_below-found.ensures.pairs c.new-item.ensures in
    rw (← c.self.view_is) (put_map _ _ _ _ c.self.invariant.rising pairs)

pub returns-then-not-found-clause-spare : goal.returns-then-not-found-clause-spare
returns-then-not-found-clause-spare c =
    let no : c.set_below-found.result ≡ false = search rules in
    let new = told _ c.new-item.result c.args.key c.args.entry c.self.inside.root.pairs
    c.set_below-found.ensures.found c.new-item.ensures ∙ no in
    rw (← c.self.view_is, get_none c.self.inside.root.pairs c.args.key c.self.invariant.rising new)

-- an old key
pub invariant_of-self-else-not-found : goal.invariant_of-self-else-not-found
invariant_of-self-else-not-found c =
    let yes : c.set_below-found.result ≡ true = search rules in
    let old = c.self.invariant in
    let there = told _ c.new-item.result c.args.key c.args.entry c.self.inside.root.pairs
    c.set_below-found.ensures.found c.new-item.ensures ∙ yes in
    let pairs = put_is _ c.new-item.result c.args.key c.args.entry c.self.inside.root.pairs
    c.set_below-found.ensures.pairs c.new-item.ensures in
    let same = put_old c.args.key c.args.entry _ _ old.rising pairs there in
    let takes = ap new_keys yes in
    record {
      rising = put_rising c.args.key c.args.entry c.self.inside.root.pairs _ old.rising pairs;
      keys = old.keys ∙ sym same;
      few = old.few;
      nodes = c.set_below-found.ensures.nodes ∙ old.nodes;
      inner = c.set_below-found.ensures.inner ∙ old.inner;
      few_nodes = old.few_nodes;
      room = omega (arith, old.room, c.set_below-found.ensures.room);
      wide = old.wide;
      fewer = old.fewer;
      enough = λ short. old.enough (omega (arith, c.set_below-found.ensures.takes, takes));
      own = c.set_below-found.ensures.few;
      has_own = c.set_below-found.ensures.has_own old.has_own;
    }

pub returns-else-not-found-clause-value : goal.returns-else-not-found-clause-value
returns-else-not-found-clause-value c =
    let pairs = put_is _ c.new-item.result c.args.key c.args.entry c.self.inside.root.pairs
    c.set_below-found.ensures.pairs c.new-item.ensures in
    rw (← c.self.view_is) (put_map _ _ _ _ c.self.invariant.rising pairs)

pub returns-else-not-found-clause-spare : goal.returns-else-not-found-clause-spare
returns-else-not-found-clause-spare c =
    let yes : c.set_below-found.result ≡ true = search rules in
    let there = told _ c.new-item.result c.args.key c.args.entry c.self.inside.root.pairs
    c.set_below-found.ensures.found c.new-item.ensures ∙ yes in
    rw (← c.self.view_is, get_is c.self.inside.root.pairs c.args.key c.self.invariant.rising, there)
