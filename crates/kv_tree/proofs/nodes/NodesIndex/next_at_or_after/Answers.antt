use Rattle.kv_tree.proofs.MapLemmas.{next_is}
use Rattle.kv_tree.proofs.nodes.NodesIndex.next_at_or_after.Goals as goal

pub returns : goal.returns
returns c =
    rw (← c.self.view_is) (record {
      next = next_is _ _ c.next.result (λ next. (next.0.now, next.1))
          c.self.invariant.rising c.next.ensures;
    })
