use Rattle.std.proofs.Common.{◌≡◌, List, [], ◌∷◌, None, refl, sym, ◌∙◌, arith}
use Rattle.kv_stamps.specs.declared.view.Range.{Range}
use Rattle.kv_stamps.specs.Seats.{first_spent}
use Rattle.kv_stamps.proofs.StepLemmas.{draws}
use Rattle.kv_stamps.proofs.counter.Stamps.draw.Goals as goal

-- a seat without a number met no StampsSpent
none_met : (spent : List Range) → first_spent spent ≡ None → spent ≡ []
none_met [] none = refl
none_met (r ∷ spent) none = cc

pub fetch_add-found-requires : goal.fetch_add-found-requires
fetch_add-found-requires c =
    let none = none_met _ (sym c.seat.invariant.kept ∙ c.in_default.is) in (
      rw (← c.seat.view_is, ← c.self.view_is) at c.requires.counter,
      omega (arith, c.self.invariant),
      draws _ _ _ _ _ c.seat.invariant.live none
          (omega (arith, c.requires.n, c.from-count.ensures))
          (omega (arith, c.requires.n, c.from-count.ensures)),
    )
