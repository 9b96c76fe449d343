use Rattle.std.proofs.Common.{refl, ◌∙◌}
use Rattle.kv_fold.proofs.FirstLemmas.{adds_by}
use Rattle.kv_fold.proofs.first.FirstFold.add.Goals as goal

pub returns-in_default-clause-ok : goal.returns-in_default-clause-ok
returns-in_default-clause-ok c =
    adds_by _ _ _ _ _ _ c.make_place.ensures.most
    (c.in_ok-place.ensures.none (rw c.in_default.is refl) c.args.value.now refl)

pub returns-clause-ok : goal.returns-clause-ok
returns-clause-ok c =
    let place = rw c.in-Some.is at c.in_ok-place.ensures.place in
    let inserted = rw (
      c.in_ok-key.ensures.ok,
      c.in_ok-value.ensures.ok,
    ) at c.in_ok-insert.ensures.ok in
    adds_by _ _ _ _ _ _ (c.insert.ensures.most ∙ c.make_place.ensures.most)
    (inserted ∙ place.taken c.args.value.now refl)
