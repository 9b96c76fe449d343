use Rattle.std.proofs.Common.{◌≡◌, sym, ◌∙◌, arith}
use Rattle.kv_tree.proofs.SetLemmas.{IsOverfull, top_nodes, top_inner, one_key_more}
use Rattle.kv_tree.proofs.root.set_below.Goals as goal

-- the root has one pair too many
overfull : (c : goal.After-raise-arg-then-own-gt31-1)
    → IsOverfull c.args.item.0 c.args.item.1 c.args.root.now c.set-found.new.self c.args.pool.now
    c.set-found.new.pool
overfull c = record {
  pairs = c.set-found.ensures.pairs;
  filled = c.own.ensures.filled;
  many = omega (arith, c.own.ensures.value, c.if-own-gt31.true);
  nodes = c.set-found.ensures.nodes;
  inner = c.set-found.ensures.inner;
  takes = omega (arith, c.set-found.ensures.takes, one_key_more c.set-found.result);
  leaf = λ none. c.set-found.ensures.leaf (sym c.set-found.ensures.depth ∙ none);
}

pub raise-requires-clause-spare : goal.raise-requires-clause-spare
raise-requires-clause-spare c = top_nodes (overfull c) c.requires.wide c.requires.enough

pub raise-requires-clause-inner : goal.raise-requires-clause-inner
raise-requires-clause-inner c =
    top_inner (overfull c) c.requires.wide (top_nodes (overfull c) c.requires.wide
    c.requires.enough)
