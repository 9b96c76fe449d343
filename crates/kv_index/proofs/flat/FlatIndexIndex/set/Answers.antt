use Rattle.std.proofs.Common.{arith}
use Rattle.std.proofs.lemmas.Cmp.{nat_list_cmp_total as total}
use Rattle.kv_index.proofs.PlacesLemmas.{gap-le}
use Rattle.kv_index.proofs.EntriesLemmas.{get_at, get_gap, set_at, insert_gap, len_is}
use Rattle.kv_index.proofs.flat.FlatIndexIndex.set.Goals as goal

-- the pair at the key's place gets the entry, and its key stays
pub invariant_of-self : goal.invariant_of-self
invariant_of-self c =
    let at = rw (c.deref.ensures.value, c.as_slice.ensures) at c.in-Ok.ensures.found in
    let set = set_at _ _ _ c.self.invariant.rising at _ _ c.index_mut.ensures.value in
    record { rising = set.0; room = c.self.invariant.room; few = c.self.invariant.few }

pub returns-in-Ok-clause-value : goal.returns-in-Ok-clause-value
returns-in-Ok-clause-value c =
    let at = rw (c.deref.ensures.value, c.as_slice.ensures) at c.in-Ok.ensures.found in
    rw (← c.self.view_is) (set_at _ _ _ c.self.invariant.rising at _ _ c.index_mut.ensures.value).1

pub returns-in-Ok-clause-spare : goal.returns-in-Ok-clause-spare
returns-in-Ok-clause-spare c =
    let at = rw (c.deref.ensures.value, c.as_slice.ensures) at c.in-Ok.ensures.found in
    rw (← c.self.view_is, get_at _ _ _ c.self.invariant.rising at c.index_mut.result.now)

-- a new key stands in its gap, and there was room for it
pub insert_within-requires : goal.insert_within-requires
insert_within-requires c =
    let gap = rw (c.deref.ensures.value, c.as_slice.ensures) at c.in-Err.ensures.absent in
    let room =
    rw (← c.self.view_is, get_gap _ _ _ c.self.invariant.rising gap) at c.requires.room in
    let within = gap-le total _ _ _ gap in
    record {
      bounds = omega (arith, c.self.inside.pairs.ok.0);
      room = omega (arith, c.self.invariant.room);
    }

pub overflow_sub-self : goal.overflow_sub-self
overflow_sub-self c =
    let gap = rw (c.deref.ensures.value, c.as_slice.ensures) at c.in-Err.ensures.absent in
    rw (← c.self.view_is, get_gap _ _ _ c.self.invariant.rising gap) at c.requires.room

pub invariant_of-self-in-Err : goal.invariant_of-self-in-Err
invariant_of-self-in-Err c =
    let gap = rw (c.deref.ensures.value, c.as_slice.ensures) at c.in-Err.ensures.absent in
    let some =
    rw (← c.self.view_is, get_gap _ _ _ c.self.invariant.rising gap) at c.requires.room in
    let few =
    rw (
      ← c.self.view_is,
      get_gap _ _ _ c.self.invariant.rising gap,
      len_is _ c.self.invariant.rising,
    ) at c.requires.few in
    record {
      rising =
          rw c.insert_within.ensures.items
          (insert_gap _ _ _ c.self.invariant.rising gap c.args.entry).0;
      room = omega (arith, c.self.invariant.room);
      few = omega (arith, c.self.inside.pairs.ok.0);
    }

pub returns-in-Err-clause-value : goal.returns-in-Err-clause-value
returns-in-Err-clause-value c =
    let gap = rw (c.deref.ensures.value, c.as_slice.ensures) at c.in-Err.ensures.absent in
    rw (c.insert_within.ensures.items, ← c.self.view_is)
    (insert_gap _ _ _ c.self.invariant.rising gap c.args.entry).1

pub returns-in-Err-clause-spare : goal.returns-in-Err-clause-spare
returns-in-Err-clause-spare c =
    let gap = rw (c.deref.ensures.value, c.as_slice.ensures) at c.in-Err.ensures.absent in
    rw (← c.self.view_is, get_gap _ _ _ c.self.invariant.rising gap)
