-- the map has as many keys as there are pairs
use Rattle.std.proofs.Common.{sym, ◌∙◌}
use Rattle.kv_index.proofs.EntriesLemmas.{len_is}
use Rattle.kv_index.proofs.flat.FlatIndexIndex.len.Goals as goal

pub returns : goal.returns
returns c =
    let pairs = c.self.inside.pairs in
    let counted = c.len.ensures ∙ pairs.ok.0 ∙ sym (len_is pairs.items c.self.invariant.rising) in
    rw (← c.self.view_is) (record { value = counted })
