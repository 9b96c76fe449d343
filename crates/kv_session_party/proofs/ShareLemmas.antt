-- A seat keeps its share of the counter through a turn.
use Rattle.std.proofs.Common.{◌≡◌, inl, inr, ap, ◌∙◌}
use Rattle.kv_session_party.specs.Looking.{MayLook}
use Rattle.kv_stamps.specs.declared.view.View.{View}

-- the view has the same share of a counter that began the same
pub record KeepsShare (old new : View) : Type 0 where
  pub start : new.start ≡ old.start
  pub weight : new.weight ≡ old.weight
  pub seats : new.seats ≡ old.seats

-- the counter was raised or not
pub share-kept : (old new : View) → MayLook old new → KeepsShare old new
share-kept old new (inl same) = record {
  start = ap (λ (v : View). v.start) same;
  weight = ap (λ (v : View). v.weight) same;
  seats = ap (λ (v : View). v.seats) same;
}
share-kept old new (inr looked) =
    let above = looked.2.1 in
    record {
      start = ap (λ (v : View). v.start) above.looks.view
          ∙ ap (λ (v : View). v.start) above.raises.view;
      weight = ap (λ (v : View). v.weight) above.looks.view
          ∙ ap (λ (v : View). v.weight) above.raises.view;
      seats = ap (λ (v : View). v.seats) above.looks.view
          ∙ ap (λ (v : View). v.seats) above.raises.view;
    }
