-- The pages of the slot are those that were read.
use Rattle.std.proofs.Common.{◌≡◌, ◌∙◌, ℕ, sym, ap, map}
use Rattle.std.specs.List.{range_with_len}
use Rattle.kv_model.specs.Layout.{all_classes}
use Rattle.kv_model.specs.Slots.{read_large}
use Rattle.kv_model.specs.Reading.{page_of, large_slot}
use Rattle.kv_slab.proofs.LargeTearing.{slot_at-large}
use Rattle.kv_slab.proofs.LeaveSteps.{if_ok_one}
use Rattle.kv_slab.proofs.find.read_large_value.Goals as goal

pub returns-clause-value : goal.returns-clause-value
returns-clause-value g c = λ told. if_ok_one c.large_value.result c.large_value.ensures.value
    (λ v is stamp key value stands.
    let seen = g.D.Disk.seen c.args.disk.now.disk in
    let class = c.args.place.class in
    let slot = c.args.place.slot in
    let pages : c.as_slice.result.now ≡ large_slot seen class slot =
    c.as_slice.ensures ∙ c.in_ok-pages.ensures.pages told
    ∙ ap (λ (n : ℕ). map (λ p. seen class p) (range_with_len n c.slot_pages.result))
    c.place_spot-first.ensures.page
    ∙ ap (λ (n : ℕ). map (λ p. seen class p) (range_with_len (page_of class slot) n))
    c.slot_pages.ensures.value in
    is stamp key value
    (ap (read_large all_classes class) pages ∙ sym (slot_at-large seen class slot c.requires.large
    c.requires.place.high) ∙ stands))
