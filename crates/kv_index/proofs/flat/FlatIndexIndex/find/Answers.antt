use Rattle.std.proofs.Common.{Some, sym, ap, ◌∙◌}
use Rattle.kv_index.proofs.EntriesLemmas.{get_at, get_gap}
use Rattle.kv_index.proofs.flat.FlatIndexIndex.find.Goals as goal

-- the pair at the key's place has its entry
pub returns-in-Ok : goal.returns-in-Ok
returns-in-Ok c =
    let at = rw c.deref.ensures.value at c.in-Ok.ensures.found in
    let got = get_at _ _ _ c.self.invariant.rising at c.index.result.now in
    rw (← c.self.view_is) (record { value = ap (λ pair. Some pair.1) c.index.ensures ∙ sym got })

-- no pair has the key
pub returns-in-Err : goal.returns-in-Err
returns-in-Err c =
    rw (← c.self.view_is)
    (record {
      value = sym
          (get_gap _ _ _ c.self.invariant.rising
          (rw c.deref.ensures.value at c.in-Err.ensures.absent));
    })
