-- One more page.
use Rattle.std.proofs.Common.{ap, sym, ◌∙◌, refl, ◌+◌, [], ◌∷◌, ◌++◌, map}
use Rattle.std.specs.List.{range_with_len}
use Rattle.std.proofs.lemmas.List.FromFn.{map-range_with_len_more}
use Rattle.kv_model.specs.Plain.{image_of}
use Rattle.kv_model.proofs.slot.pages_from.Goals as goal

pub loop-number-preserved : goal.loop-number-preserved
loop-number-preserved c =
    let f = image_of c.args.pages.now c.args.file in
    let n = c.loop-number.number in
    c.in_ok-push.ensures.items
    ∙ ap (λ list. list ++ c.page_at.result.now ∷ []) c.loop-number.invariant
    ∙ ap (λ page. map f (range_with_len c.args.first n) ++ page ∷ []) c.page_at.ensures
    ∙ sym (map-range_with_len_more f c.args.first n (c.args.first + n) refl)
