use Rattle.std.proofs.Common.{Some, sym, ap, ◌∙◌, arith}
use Rattle.kv_index.proofs.EntriesLemmas.{get_at, get_gap, remove_at, remove_gap}
use Rattle.kv_index.proofs.flat.FlatIndexIndex.remove.Goals as goal

-- the pair at the key's place is taken out
pub invariant_of-self : goal.invariant_of-self
invariant_of-self c =
    let at = rw c.deref.ensures.value at c.in-Ok.ensures.found in
    let left = remove_at _ _ _ c.self.invariant.rising at in
    record { rising = rw c.remove.ensures.items left.0; room = omega arith; few = omega arith }

pub returns-in-Ok-clause-value : goal.returns-in-Ok-clause-value
returns-in-Ok-clause-value c =
    let at = rw c.deref.ensures.value at c.in-Ok.ensures.found in
    let got = get_at _ _ _ c.self.invariant.rising at c.remove.result in
    rw (← c.self.view_is) (ap (λ pair. Some pair.1) c.remove.ensures.value ∙ sym got)

pub returns-in-Ok-clause-rest : goal.returns-in-Ok-clause-rest
returns-in-Ok-clause-rest c =
    let at = rw c.deref.ensures.value at c.in-Ok.ensures.found in
    rw (c.remove.ensures.items, ← c.self.view_is) (remove_at _ _ _ c.self.invariant.rising at).1

-- no pair has the key
pub returns-in-Err-clause-value : goal.returns-in-Err-clause-value
returns-in-Err-clause-value c =
    let gap = rw c.deref.ensures.value at c.in-Err.ensures.absent in
    rw (← c.self.view_is) (sym (get_gap _ _ _ c.self.invariant.rising gap))

pub returns-in-Err-clause-rest : goal.returns-in-Err-clause-rest
returns-in-Err-clause-rest c =
    let gap = rw c.deref.ensures.value at c.in-Err.ensures.absent in
    rw (← c.self.view_is) (remove_gap _ _ _ c.self.invariant.rising gap)
