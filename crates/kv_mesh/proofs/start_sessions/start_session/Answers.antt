-- the last source and sink, ring ends and a seat
use Rattle.std.proofs.Common.{◌∷◌, [], ◌++◌, refl, sym, ap, ap₂, ◌∙◌, subst}
use Rattle.kv_parties.specs.Stamps.{HasDrawnNone}
use Rattle.kv_ring.specs.Ends.{IsFresh}
use Rattle.kv_mesh.proofs.MadeLemmas.{all-last}
use Rattle.kv_mesh.proofs.start_sessions.start_session.Goals as goal

pub new-requires : goal.new-requires
new-requires g c = record {
  ends = all-last IsFresh c.take_last.new.items.items c.args.rings.now.items c.take_last.result
      c.take_last.ensures.items c.requires.fresh;
  seat = subst (λ s. HasDrawnNone s.view) (sym c.take.ensures.seat)
      (record { drawn = refl; gaps = refl; spent = refl });
}

pub returns-in-Ok-clause-ends : goal.returns-in-Ok-clause-ends
returns-in-Ok-clause-ends g c =
    let parts = c.in-Ok.ensures.parts in c.take_last-source.ensures.items
    ∙ ap (λ e. c.take_last-source.new.items.items ++ e ∷ []) (sym (ap₂ (λ a b. (a, b))
    (ap (λ s. s.source) parts.4 ∙ parts.0) (ap (λ s. s.sink) parts.4 ∙ parts.1)))

pub returns-in-Ok-clause-rings : goal.returns-in-Ok-clause-rings
returns-in-Ok-clause-rings g c = c.take_last.ensures.items
    ∙ ap (λ e. c.take_last.new.items.items ++ e ∷ []) (sym c.in-Ok.ensures.parts.2)

pub returns-in-Ok-clause-new : goal.returns-in-Ok-clause-new
returns-in-Ok-clause-new g c = record {
  first = sym c.in-Ok.ensures.parts.4;
  seat_is = c.in-Ok.ensures.parts.3 ∙ c.take.ensures.seat;
  lifted = c.in-Ok.ensures.parts.6;
}
