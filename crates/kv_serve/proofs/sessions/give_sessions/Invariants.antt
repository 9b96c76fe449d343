-- The ends from some session on are given back.
use Rattle.std.proofs.Common.{◌≡◌, ◌++◌, IsTrue, length}
use Rattle.kv_serve.specs.Taken.{AreLent}
use Rattle.kv_serve.proofs.EndsLemmas.{GivesEndsFrom}
use Rattle.kv_serve.proofs.sessions.give_sessions.Given as goal

abbrev pub invariant-loop-source : goal.invariant-loop-source
invariant-loop-source g l = record {
  rest : (given : _) × (l.initial.ends.items ≡ l.ends.items ++ given);
  gives : IsTrue g.S.Site.tells
      → AreLent (g.S.Site.holds l.initial.site) (length l.initial.ends.items)
      → GivesEndsFrom (g.S.Site.holds l.initial.site) (g.S.Site.holds l.site) l.initial.ends.items
      (length l.ends.items);
  calm : g.S.Site.faults l.site ≡ g.S.Site.faults l.initial.site;
}

abbrev pub decreases-loop-source : goal.decreases-loop-source
decreases-loop-source g l = length l.ends.items
