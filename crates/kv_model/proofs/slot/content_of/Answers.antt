-- One more page.
use Rattle.std.proofs.Common.{List, ℕ, ap, sym, ◌∙◌, arith, append_assoc, ◌++◌, drop, get_or, []}
use Rattle.kv_model.proofs.ListedLemmas.{flat_map-take}
use Rattle.kv_model.proofs.slot.content_of.Goals as goal

pub loop-page-preserved : goal.loop-page-preserved
loop-page-preserved c =
    let page = get_or c.args.later.now c.loop-page.page-index [] in
    c.in_ok-extend_from_slice.ensures.items
    ∙ ap (λ (part : List ℕ). c.loop-page.content.items ++ part) c.rest_of.ensures
    ∙ ap (λ (content : List ℕ). content ++ drop 8 page) c.loop-page.invariant
    ∙ append_assoc c.args.front.now _ (drop 8 page)
    ∙ ap (λ (content : List ℕ). c.args.front.now ++ content) (sym (flat_map-take
    (λ (page : List ℕ). drop 8 page) c.args.later.now c.loop-page.page-index [] (omega arith)))
