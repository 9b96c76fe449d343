use Rattle.std.proofs.Common.{sym, ◌∙◌}
use Rattle.kv_tree.proofs.MapLemmas.{get_is}
use Rattle.kv_tree.proofs.nodes.NodesIndex.find.Goals as goal

pub returns : goal.returns
returns c =
    rw (← c.self.view_is) (record {
      value = c.find.ensures
          ∙ sym (get_is _ _ c.self.invariant.rising);
    })
