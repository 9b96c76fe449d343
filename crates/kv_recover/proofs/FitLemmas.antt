-- In pages of their size an item of the classes 1 to 7 has the least class that holds it.
use Rattle.std.proofs.Common.{◌≡◌, ℕ, ◌≤◌, length}
use Rattle.std.proofs.Common.{drop, sym, ◌∙◌, arith, length-drop}
use Rattle.std.proofs.lemmas.List.{length-take-le, length-replicate}
use Rattle.kv_base.specs.Image.{Image, zero_page}
use Rattle.kv_model.specs.Layout.{all_classes, slot_size}
use Rattle.kv_model.specs.Reading.{small_slot, page_of, offset_of}
use Rattle.kv_slab.proofs.FitLemmas.{small-fits}
use Rattle.kv_recover.specs.Pass.{ItemsFit}
use Rattle.kv_recover.proofs.PageLemmas.{slot_fits}
use Rattle.kv_recover.proofs.PassLemmas.{slot_at-small}

-- a page of zeros has its size
pub length-zero_page : length zero_page ≡ 4096
unfolding zero_page
length-zero_page = length-replicate {A = ℕ} 4096 0

-- the items of a class of 1 to 7 whose pages have their size
pub small-items : (image : Image) (class : ℕ) → 1 ≤ class → class ≤ 7
    → ((page : ℕ) → length (image class page) ≡ 4096) → ItemsFit image class
small-items image class low high whole slot stamp key value stands =
    let page = image class (page_of class slot) in
    let size = whole (page_of class slot) in
    let within = slot_fits class high slot in
    small-fits all_classes class stamp (small_slot image class slot) key value high
    (length-take-le (slot_size class) (drop (offset_of class slot) page)
    (omega (arith, length-drop (offset_of class slot) page, size, within)))
    (sym (slot_at-small image class slot low high) ∙ stands)
