-- The ends of one session more are given back.
use Rattle.std.proofs.Common.{◌≡◌, ◌∷◌, [], ◌++◌, length, refl, sym, ap, ◌∙◌, subst, append-nil, rules}
use Rattle.kv_site.specs.Held.{GivesSession}
use Rattle.kv_serve.proofs.EndsLemmas.{GivesEndsFrom, gives-no-session, gives-next-session}
use Rattle.kv_serve.proofs.EndsLemmas.{gives-all-sessions}
use Rattle.kv_serve.proofs.PlaceLemmas.{one-more}
use Rattle.kv_serve.proofs.sessions.give_sessions.Goals as goal

pub loop-source-init : goal.loop-source-init
loop-source-init g c = record {
  rest = ([], sym (append-nil c.args.ends.items));
  gives = λ t lent. gives-no-session (g.S.Site.holds c.args.site.now) c.args.ends.items;
  calm = refl;
}

pub loop-source-preserved : goal.loop-source-preserved
loop-source-preserved g c =
    let rest = c.loop-source.invariant.rest in
    let left = c.pop.new.self.items in
    let all : c.args.ends.items ≡ (left ++ (c.in-Some.source, c.in-Some.sink) ∷ []) ++ rest.0 =
    rest.1 ∙ ap (λ l. l ++ rest.0) c.in-Some.ensures.items in
    let number : c.len.result ≡ length left = search rules in
    record {
      rest = (
        (c.in-Some.source, c.in-Some.sink) ∷ rest.0,
        one-more c.args.ends.items left rest.0 (c.in-Some.source, c.in-Some.sink) all,
      );
      gives = λ t lent. gives-next-session (g.S.Site.holds c.args.site.now)
          (g.S.Site.holds c.loop-source.site) (g.S.Site.holds c.give_session.new.self)
          c.args.ends.items left rest.0 (c.in-Some.source, c.in-Some.sink) all lent
          (subst (λ l. GivesEndsFrom (g.S.Site.holds c.args.site.now)
          (g.S.Site.holds c.loop-source.site) c.args.ends.items (length l)) c.in-Some.ensures.items
          (c.loop-source.invariant.gives t lent))
          (subst (λ n. GivesSession (g.S.Site.holds c.loop-source.site)
          (g.S.Site.holds c.give_session.new.self) n (c.in-Some.source, c.in-Some.sink)) number
          (c.give_session.ensures.given t));
      calm = c.give_session.ensures.still ∙ c.loop-source.invariant.calm;
    }

pub returns-clause-given : goal.returns-clause-given
returns-clause-given g c t lent =
    let none : c.loop-source.ends.items ≡ [] = search rules in
    gives-all-sessions (g.S.Site.holds c.args.site.now) (g.S.Site.holds c.loop-source.site)
    c.args.ends.items c.loop-source.ends.items none (c.loop-source.invariant.gives t lent)
