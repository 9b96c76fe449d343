-- The greatest of the numbers that were listed.
use Rattle.std.proofs.Common.{List, ℕ, ◌≡◌, ap, ◌∙◌, subst}
use Rattle.kv_model.specs.Plain.{image_of, heads_in, places_of, IsGreatest}
use Rattle.kv_model.proofs.ReaderLemmas.{floor-is}
use Rattle.kv_model.proofs.image.floor_of.Goals as goal

pub returns : goal.returns
returns c =
    let image = image_of c.args.pages.now in
    let listed : c.deref-2.result.now ≡ heads_in image (places_of c.in_ok-ends.ends) =
    c.deref-2.ensures.value ∙ c.in_ok-heads.ensures
    ∙ ap (heads_in image) (c.deref.ensures.value ∙ c.in_ok-places.ensures.places) in
    floor-is image c.in_ok-ends.ends c.in_ok-ends.ensures.ends c.greatest.result
    (subst (λ (list : List ℕ). IsGreatest list c.greatest.result) listed c.greatest.ensures)
