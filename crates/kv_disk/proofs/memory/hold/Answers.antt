-- A new page reads as zeros, as it did before it was held.
use Rattle.std.proofs.Common.{◌≡◌, Some, None, length, refl, sym, ◌∙◌, ap}
use Rattle.std.proofs.lemmas.Bool.{cond-true}
use Rattle.kv_base.specs.Image.{zero_page}
use Rattle.kv_disk.specs.Replay.{place_in}
use Rattle.kv_base.proofs.ImageLemmas.{test-at}
use Rattle.kv_disk.proofs.SpotLemmas.{place_in-push, content-new}
use Rattle.kv_disk.proofs.memory.hold.Goals as goal

pub returns-clause-place : goal.returns-clause-place
returns-clause-place c =
    let found = rw c.deref.ensures.value at c.find.ensures in
    let absent : place_in c.args.spots.now.items c.args.file c.args.page ≡ None = sym found
    ∙ c.in_default.is in
    let pushed = rw c.unwrap.ensures at c.push.ensures.items in
    let counted : c.len-place.result ≡ length c.args.spots.now.items = c.len-place.ensures
    ∙ c.args.spots.now.ok.0 in
    ap (λ spots. place_in spots c.args.file c.args.page) pushed
    ∙ place_in-push c.args.spots.now.items c.args.file c.args.page absent c.args.file
    c.args.page
    ∙ cond-true _ _ _ (test-at c.args.file c.args.page c.args.file c.args.page refl refl)
    ∙ ap Some (sym counted)

pub returns-clause-reads : goal.returns-clause-reads
unfolding zero_page
returns-clause-reads c f p =
    let found = rw c.deref.ensures.value at c.find.ensures in
    let absent : place_in c.args.spots.now.items c.args.file c.args.page ≡ None = sym found
    ∙ c.in_default.is in
    let pushed = rw c.unwrap.ensures at c.push.ensures.items in
    let put = rw c.unwrap-2.ensures at c.push-2.ensures.items in
    rw (pushed, put) (content-new c.args.spots.now.items c.args.contents.now.items c.args.file
    c.args.page f p absent c.requires.as_many)
