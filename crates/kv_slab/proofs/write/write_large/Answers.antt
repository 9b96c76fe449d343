-- A large slot is written whole.
use Rattle.std.proofs.Common.{◌≡◌, ◌∙◌, ℕ, List, ap, length, arith}
use Rattle.kv_model.specs.Layout.{pages_in_slot}
use Rattle.kv_model.specs.Reading.{page_of}
use Rattle.kv_model.specs.SlotBytes.{large_page}
use Rattle.kv_slab.specs.Pages.{over, with_pages}
use Rattle.kv_slab.proofs.LeaveSteps.{on_ok_map}
use Rattle.kv_slab.proofs.PageLemmas.{pages_small, pages_few}
use Rattle.kv_slab.proofs.SetLemmas.{large_set, length_run}
use Rattle.kv_slab.proofs.write.write_large.Goals as goal

pub returns-clause-set : goal.returns-clause-set
returns-clause-set c = λ image. on_ok_map c.hold_pages.result (c.hold_pages.ensures.set image)
    (λ set.
    (large_set c.args.place.class c.args.place.slot c.args.stamp c.args.key.now c.args.value.now
    (over image c.args.round.now) (over image c.hold_pages.new.round)
    c.requires.large c.requires.place.high c.ranges.stamp.fits c.requires.item
    (set ∙ ap (λ (n : ℕ). with_pages (over image c.args.round.now) c.args.place.class n
    c.as_slice.result.now) c.place_spot-first.ensures.page
    ∙ ap (λ (ps : List (List ℕ)). with_pages (over image c.args.round.now) c.args.place.class
    (page_of c.args.place.class c.args.place.slot) ps) (c.as_slice.ensures
    ∙ c.in_ok-contents.ensures.ok))).0)

pub returns-clause-whole : goal.returns-clause-whole
returns-clause-whole c = λ image. on_ok_map c.hold_pages.result (c.hold_pages.ensures.set image)
    (λ set.
    (large_set c.args.place.class c.args.place.slot c.args.stamp c.args.key.now c.args.value.now
    (over image c.args.round.now) (over image c.hold_pages.new.round)
    c.requires.large c.requires.place.high c.ranges.stamp.fits c.requires.item
    (set ∙ ap (λ (n : ℕ). with_pages (over image c.args.round.now) c.args.place.class n
    c.as_slice.result.now) c.place_spot-first.ensures.page
    ∙ ap (λ (ps : List (List ℕ)). with_pages (over image c.args.round.now) c.args.place.class
    (page_of c.args.place.class c.args.place.slot) ps) (c.as_slice.ensures
    ∙ c.in_ok-contents.ensures.ok))).1)

pub hold_pages-requires-clause-most : goal.hold_pages-requires-clause-most
hold_pages-requires-clause-most c =
    let size : length c.as_slice.result.now ≡ pages_in_slot c.args.place.class =
    ap length (c.as_slice.ensures ∙ c.in_ok-contents.ensures.ok)
    ∙ length_run (large_page c.args.stamp c.args.key.now c.args.value.now) 0
    (pages_in_slot c.args.place.class) in
    omega (
      arith,
      size,
      c.place_spot-first.ensures.page,
      pages_small c.args.place.class
          c.args.place.slot c.requires.large c.requires.place.high c.requires.place.slot,
    )

pub hold_pages-requires-clause-range : goal.hold_pages-requires-clause-range
hold_pages-requires-clause-range c =
    let size : length c.as_slice.result.now ≡ pages_in_slot c.args.place.class =
    ap length (c.as_slice.ensures ∙ c.in_ok-contents.ensures.ok)
    ∙ length_run (large_page c.args.stamp c.args.key.now c.args.value.now) 0
    (pages_in_slot c.args.place.class) in
    let few = pages_few c.args.place.class c.requires.large c.requires.place.high in
    omega (arith, size, c.place_spot-first.ensures.range, few.1)

pub returns-clause-count : goal.returns-clause-count
returns-clause-count c =
    let size : length c.as_slice.result.now ≡ pages_in_slot c.args.place.class =
    ap length (c.as_slice.ensures ∙ c.in_ok-contents.ensures.ok)
    ∙ length_run (large_page c.args.stamp c.args.key.now c.args.value.now) 0
    (pages_in_slot c.args.place.class) in
    let few = pages_few c.args.place.class c.requires.large c.requires.place.high in
    omega (arith, size, c.hold_pages.ensures.count, few.1)
