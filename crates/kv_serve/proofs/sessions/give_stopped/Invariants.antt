-- The ends from some session on are given back, and their endings stand from the last on.
use Rattle.std.proofs.Common.{◌≡◌, ◌≤◌, ◌++◌, IsTrue, length, map, reverse}
use Rattle.std.specs.Prelude.{filter_map}
use Rattle.kv_serve.specs.Taken.{AreLent}
use Rattle.kv_serve.proofs.EndsLemmas.{GivesEndsFrom}
use Rattle.kv_serve.proofs.sessions.give_stopped.Given as goal

abbrev pub invariant-loop-parts : goal.invariant-loop-parts
invariant-loop-parts g l = record {
  rest : (given : _) × (l.initial.sessions.items ≡ l.sessions.items ++ given)
      × (l.endings.items ≡ reverse (filter_map (λ parts. parts.ending) given));
  gives : IsTrue g.S.Site.tells
      → AreLent (g.S.Site.holds l.initial.site) (length l.initial.sessions.items)
      → GivesEndsFrom (g.S.Site.holds l.initial.site) (g.S.Site.holds l.site)
      (map (λ parts. (parts.source, parts.sink)) l.initial.sessions.items)
      (length l.sessions.items);
  room : length l.sessions.items ≤ l.endings.spare;
  calm : g.S.Site.faults l.site ≡ g.S.Site.faults l.initial.site;
}

abbrev pub decreases-loop-parts : goal.decreases-loop-parts
decreases-loop-parts g l = length l.sessions.items
