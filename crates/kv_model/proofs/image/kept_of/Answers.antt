-- The items that were retained are those of the definition.
use Rattle.std.proofs.Common.{List, ◌≡◌, ap, ◌∙◌, filter}
use Rattle.std.specs.List.{list_all}
use Rattle.kv_model.specs.declared.stored.Stored.{Stored}
use Rattle.kv_model.specs.Plain.{image_of, found_in, is_first, places_of}
use Rattle.kv_model.proofs.ReaderLemmas.{are-kept}
use Rattle.kv_model.proofs.image.kept_of.Goals as goal

pub returns : goal.returns
returns c =
    let image = image_of c.args.pages.now in
    let find = found_in image c.args.share.worker c.args.share.workers in
    let list = find (places_of c.in_ok-ends.ends) in
    let first : c.deref-3.result.now ≡ list =
    c.deref-3.ensures.value ∙ c.in_ok-found.ensures
    ∙ ap find (c.deref.ensures.value ∙ c.in_ok-places.ensures.places) in
    let second : c.in_ok-kept.kept.items ≡ list =
    c.in_ok-kept.ensures ∙ ap find (c.deref-2.ensures.value ∙ c.in_ok-places.ensures.places) in
    are-kept image c.in_ok-ends.ends c.in_ok-ends.ensures.ends
    c.args.share.worker c.args.share.workers c.retain_kept.new.kept.items
    (c.retain_kept.ensures
    ∙ ap (λ (found : List Stored). filter (λ (item : Stored). list_all (is_first item) found)
    c.in_ok-kept.kept.items) first
    ∙ ap (λ (items : List Stored). filter (λ (item : Stored). list_all (is_first item) list)
    items) second)
