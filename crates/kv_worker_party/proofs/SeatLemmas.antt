-- Lemmas on what a turn leaves in its seat's view.
use Rattle.std.proofs.Common.{◌≡◌, ℕ, ◌+◌, ◌^◌, ◌<◌, ◌≤◌, ◌⊎◌, inl, inr, max, [], ◌∷◌, ◌++◌, Some}
use Rattle.std.proofs.Common.{refl, sym, ap, subst, ◌∙◌, arith}
use Rattle.kv_stamps.specs.Ranges.{range}
use Rattle.kv_stamps.specs.Seats.{first_spent}
use Rattle.kv_stamps.specs.Steps.{Looks, Raises, Spends}
use Rattle.kv_stamps.specs.declared.view.View.{View}
use Rattle.kv_worker_party.specs.Serving.{HasDrawn, HasMet}

-- so many stamps were drawn from the base on, above what was seen
pub record Grew (seen count base : ℕ) (old new : View) : Type 0 where
  pub start : new.start ≡ old.start
  pub weight : new.weight ≡ old.weight
  pub seats : new.seats ≡ old.seats
  pub from : old.seen ≤ base
  pub above : seen < base
  pub limit : base + count ≤ 2 ^ 62
  pub up : new.seen ≡ base + count
  pub drawn : new.drawn ≡ old.drawn ++ range base count ∷ []

-- nothing was drawn
pub record Stayed (old new : View) : Type 0 where
  pub start : new.start ≡ old.start
  pub weight : new.weight ≡ old.weight
  pub seats : new.seats ≡ old.seats
  pub up : old.seen ≤ new.seen
  pub drawn : new.drawn ≡ old.drawn

pub drawn-grew : (seen count base : ℕ) (old new : View) → HasDrawn seen count base old new
    → Grew seen count base old new
drawn-grew seen count base old new h =
    let seen_is : h.between.seen ≡ max h.found (seen + 1) =
    ap (λ (v : View). v.seen) h.raises.view in
    record {
      start = ap (λ (v : View). v.start) h.draws.view ∙ ap (λ (v : View). v.start) h.raises.view;
      weight = ap (λ (v : View). v.weight) h.draws.view
          ∙ ap (λ (v : View). v.weight) h.raises.view;
      seats = ap (λ (v : View). v.seats) h.draws.view ∙ ap (λ (v : View). v.seats) h.raises.view;
      from = omega (arith, h.raises.later, h.draws.later, seen_is);
      above = omega (arith, h.draws.later, seen_is);
      limit = h.draws.fits;
      up = ap (λ (v : View). v.seen) h.draws.view;
      drawn = ap (λ (v : View). v.drawn) h.draws.view
          ∙ ap (λ (v : View). v.drawn ++ range base count ∷ []) h.raises.view;
    }

pub stayed : (view : View) → Stayed view view
stayed view = record {
  start = refl;
  weight = refl;
  seats = refl;
  up = omega arith;
  drawn = refl;
}

pub raised-stayed : (to next : ℕ) (old new : View) → Raises to old next new → Stayed old new
raised-stayed to next old new h =
    let seen_is : new.seen ≡ max next to = ap (λ (v : View). v.seen) h.view in
    record {
      start = ap (λ (v : View). v.start) h.view;
      weight = ap (λ (v : View). v.weight) h.view;
      seats = ap (λ (v : View). v.seats) h.view;
      up = omega (arith, h.later, seen_is);
      drawn = ap (λ (v : View). v.drawn) h.view;
    }

pub met-stayed : (seen count number : ℕ) (old new : View) → HasMet seen count number old new
    → Stayed old new
met-stayed seen count number old new h = by h.spends
  where
    raised : Stayed old h.between
    raised = raised-stayed (seen + 1) h.found old h.between h.raises

    by : ((first_spent h.between.spent ≡ Some number) × (new ≡ h.between))
        ⊎ ((h.between.spent ≡ []) × Spends count h.between number new) → Stayed old new
    by (inl kept) = subst (Stayed old) (sym kept.1) raised
    by (inr met) =
        let seen_is : new.seen ≡ number + count = ap (λ (v : View). v.seen) met.1.view in
        record {
          start = ap (λ (v : View). v.start) met.1.view ∙ raised.start;
          weight = ap (λ (v : View). v.weight) met.1.view ∙ raised.weight;
          seats = ap (λ (v : View). v.seats) met.1.view ∙ raised.seats;
          up = omega (arith, raised.up, met.1.later, seen_is);
          drawn = ap (λ (v : View). v.drawn) met.1.view ∙ raised.drawn;
        }

pub looked-stayed : (next : ℕ) (old new : View) → Looks old next new → Stayed old new
looked-stayed next old new h = record {
  start = ap (λ (v : View). v.start) h.view;
  weight = ap (λ (v : View). v.weight) h.view;
  seats = ap (λ (v : View). v.seats) h.view;
  up = (let e = ap (λ (v : View). v.seen) h.view in omega (arith, h.later, e));
  drawn = ap (λ (v : View). v.drawn) h.view;
}
