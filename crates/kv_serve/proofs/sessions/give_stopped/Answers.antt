-- The ends of one session more are given back, and its ending stands behind the later ones.
use Rattle.std.proofs.Common.{◌≡◌, ◌∷◌, [], ◌++◌, length, map, refl, sym, ap, ◌∙◌, subst, append-nil}
use Rattle.std.proofs.Common.{arith, length-append, reverse}
use Rattle.std.proofs.lemmas.Bool.{false≢true}
use Rattle.std.proofs.lemmas.List.{length-reverse, reverse-reverse}
use Rattle.kv_site.specs.Held.{GivesSession}
use Rattle.kv_serve.proofs.EndsLemmas.{GivesEndsFrom, gives-none-of, gives-next-of, gives-all-of}
use Rattle.kv_serve.proofs.PlaceLemmas.{none-left, one-more, reversed-more, lent-back}
use Rattle.kv_serve.proofs.ServedLemmas.{ending_of, endings_from, ends_from}
use Rattle.kv_serve.proofs.sessions.give_stopped.Goals as goal

pub loop-parts-init : goal.loop-parts-init
loop-parts-init g c = record {
  rest = ([], sym (append-nil c.args.sessions.items), c.requires.empty);
  gives = λ t lent. gives-none-of ends_from (g.S.Site.holds c.args.site.now) c.args.sessions.items;
  room = c.requires.room;
  calm = refl;
}

pub loop-parts-preserved : goal.loop-parts-preserved
loop-parts-preserved g c =
    let rest = c.loop-parts.invariant.rest in
    let left = c.take_last.new.self.items in
    let parts = c.in-Some.parts in
    let all : c.args.sessions.items ≡ (left ++ parts ∷ []) ++ rest.0 =
    rest.1 ∙ ap (λ l. l ++ rest.0) c.in-Some.ensures.last in
    let more = ap length c.in-Some.ensures.last ∙ length-append left (parts ∷ []) in
    record {
      rest = (
        parts ∷ rest.0,
        one-more c.args.sessions.items left rest.0 parts all,
        c.append_some.ensures.items
            ∙ reversed-more ending_of parts rest.0 c.loop-parts.endings.items rest.2,
      );
      gives = λ t lent. gives-next-of ends_from (g.S.Site.holds c.args.site.now)
          c.args.sessions.items (g.S.Site.holds c.loop-parts.site)
          (g.S.Site.holds c.give_session.new.self) left rest.0 parts all lent
          (subst (λ l. GivesEndsFrom (g.S.Site.holds c.args.site.now)
          (g.S.Site.holds c.loop-parts.site) (map ends_from c.args.sessions.items) (length l))
          c.in-Some.ensures.last (c.loop-parts.invariant.gives t lent))
          (subst (λ n. GivesSession (g.S.Site.holds c.loop-parts.site)
          (g.S.Site.holds c.give_session.new.self) n (ends_from parts))
          (ap length c.as_slice.ensures) (c.give_session.ensures.given t));
      room = omega (arith, more, c.loop-parts.invariant.room, c.append_some.ensures.spare);
      calm = c.give_session.ensures.still ∙ c.loop-parts.invariant.calm;
    }

pub returns-clause-given : goal.returns-clause-given
returns-clause-given g c t lent =
    gives-all-of ends_from (g.S.Site.holds c.args.site.now) c.args.sessions.items
    (g.S.Site.holds c.loop-parts.site) c.loop-parts.sessions.items
    (none-left c.loop-parts.sessions.items (λ some. false≢true (c.in_default.ensures.some.1 some)))
    (c.loop-parts.invariant.gives t lent)

pub returns-clause-endings : goal.returns-clause-endings
returns-clause-endings g c =
    let rest = c.loop-parts.invariant.rest in
    let none = none-left c.loop-parts.sessions.items
    (λ some. false≢true (c.in_default.ensures.some.1 some)) in
    let all : c.args.sessions.items ≡ rest.0 = rest.1 ∙ ap (λ l. l ++ rest.0) none in
    let endings = c.loop-parts.endings.items in
    let turned : c.reverse.new.self ≡ reverse endings =
    c.reverse.ensures.after ∙ ap reverse c.as_mut_slice.ensures.items in
    lent-back endings c.reverse.new.self (ap length turned ∙ length-reverse endings) ∙ turned
    ∙ ap reverse rest.2 ∙ reverse-reverse (endings_from rest.0) ∙ ap endings_from (sym all)
