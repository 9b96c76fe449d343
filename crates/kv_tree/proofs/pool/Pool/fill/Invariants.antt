use Rattle.std.proofs.Common.{◌≡◌, ◌+◌, ◌-◌, ◌*◌, ◌^◌, ◌≤◌}
use Rattle.kv_tree.specs.Subtree.{TakesAtMost}
use Rattle.kv_tree.proofs.pool.Pool.fill.Given as goal

abbrev pub invariant-loop-self : goal.invariant-loop-self
invariant-loop-self l = record {
  nodes : l.self.nodes + l.fn.nodes ≡ l.fn.self.nodes + l.nodes;
  inner : l.self.inner + l.fn.inner ≡ l.fn.self.inner + l.inner;
  few : l.nodes ≤ 2 ^ 30;
  wide : l.nodes ≤ 16 * l.inner + 1;
  room : l.nodes ≤ l.self.room;
  more : l.fn.nodes ≤ l.nodes;
  fewer : l.inner ≤ l.nodes;
  spares : TakesAtMost 0 l.fn.self l.self;
}

abbrev pub decreases-loop-self : goal.decreases-loop-self
decreases-loop-self l = (l.pairs + 2) - 15 * l.nodes
