use Rattle.std.proofs.Common.{sym, ◌∙◌}
use Rattle.kv_index.proofs.EntriesLemmas.{len_is}
use Rattle.kv_tree.proofs.nodes.NodesIndex.len.Goals as goal

pub returns : goal.returns
returns c =
    rw (← c.self.view_is) (record {
      value = c.self.invariant.keys
          ∙ sym (len_is _ c.self.invariant.rising);
    })
