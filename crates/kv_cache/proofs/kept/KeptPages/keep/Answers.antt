-- The map puts the page at the front, and a full one loses its last entry.
use Rattle.kv_cache.proofs.KeptLemmas.{kept-with_new}
use Rattle.kv_cache.proofs.CopiesLemmas.{kept_of-put}
use Rattle.kv_cache.proofs.kept.KeptPages.keep.Goals as goal

pub invariant_of-self-in-Ok-Some : goal.invariant_of-self-in-Ok-Some
invariant_of-self-in-Ok-Some c =
    let absent = rw (← c.self.view_is) at c.requires in
    rw (kept_of-put _ _ _ c.push.new.self c.in_ok-copy.copy c.self.invariant absent
    c.in-Ok-Some.ensures.entries) (kept-with_new _ _ _ c.self.invariant _ absent)

pub invariant_of-self-in-Ok-None : goal.invariant_of-self-in-Ok-None
invariant_of-self-in-Ok-None c =
    let absent = rw (← c.self.view_is) at c.requires in
    rw (kept_of-put _ _ _ c.push.new.self c.in_ok-copy.copy c.self.invariant absent
    c.in-Ok-None.ensures.entries) (kept-with_new _ _ _ c.self.invariant _ absent)

pub returns-in-Ok-Some-clause-ok : goal.returns-in-Ok-Some-clause-ok
returns-in-Ok-Some-clause-ok c =
    let absent = rw (← c.self.view_is) at c.requires in
    rw (← c.self.view_is, ← c.in_ok-copy.ensures) (kept_of-put _ _ _ _ c.in_ok-copy.copy
    c.self.invariant absent c.in-Ok-Some.ensures.entries)

pub returns-in-Ok-None-clause-ok : goal.returns-in-Ok-None-clause-ok
returns-in-Ok-None-clause-ok c =
    let absent = rw (← c.self.view_is) at c.requires in
    rw (← c.self.view_is, ← c.in_ok-copy.ensures) (kept_of-put _ _ _ _ c.in_ok-copy.copy
    c.self.invariant absent c.in-Ok-None.ensures.entries)
