use Rattle.std.proofs.Common.{arith}
use Rattle.kv_index.proofs.PlacesLemmas.{at-lt}
use Rattle.std.proofs.lemmas.Cmp.{nat_list_cmp_total as total}
use Rattle.kv_index.proofs.EntriesLemmas.{next_at, next_gap, none_from}
use Rattle.kv_index.proofs.flat.FlatIndexIndex.next_at_or_after.Goals as goal
use Rattle.kv_index.proofs.flat.FlatIndexIndex.next_at_or_after.Goals.{in-Ok, in-Err}

-- what stands at the key's place or gap is the next
pub returns-then-at-len : goal.returns-then-at-len
returns-then-at-len c =
    let rising = c.self.invariant.rising in
    elim c.match-place_of.branch [
      | in-Ok w ↦
          let at = rw (c.deref.ensures.value, ← w.at-is) at w.in-Ok.ensures.found in
          rw (c.as_slice.ensures, ← c.self.view_is)
          (record { next = next_at _ _ _ rising at _ c.index-pair.ensures })
      | in-Err w ↦
          let gap = rw (c.deref.ensures.value, ← w.at-is) at w.in-Err.ensures.absent in
          rw (c.as_slice.ensures, ← c.self.view_is)
          (record {
            next = next_gap _ _ _ rising gap _ c.index-pair.ensures
                (omega (arith, c.self.inside.pairs.ok.0));
          })
    ]

-- the gap is behind the last pair
pub returns-else-at-len : goal.returns-else-at-len
returns-else-at-len c =
    let rising = c.self.invariant.rising in
    let past = c.if-at-len.false in
    elim c.match-place_of.branch [
      | in-Ok w ↦
          let at = rw (c.deref.ensures.value, ← w.at-is) at w.in-Ok.ensures.found in
          let within = at-lt total _ _ _ at in
          absurd (omega (arith, c.self.inside.pairs.ok.0))
      | in-Err w ↦
          let gap = rw (c.deref.ensures.value, ← w.at-is) at w.in-Err.ensures.absent in
          rw (← c.self.view_is)
          (record {
            next = none_from _ _ _ rising gap
                (omega (arith, c.self.inside.pairs.ok.0));
          })
    ]
