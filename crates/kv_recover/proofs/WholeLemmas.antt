-- In pages of their size an item of the classes 8 to 11 has the least class that holds it.
use Rattle.std.proofs.Common.{◌≡◌, ℕ, zero, suc, ◌+◌, ◌-◌, ◌<◌, ◌≤◌, List, [], length, map, get_or}
use Rattle.std.proofs.Common.{Some, refl, sym, ap, ◌∙◌, arith}
use Rattle.std.specs.List.{range_with_len}
use Rattle.kv_base.specs.Image.{Image}
use Rattle.kv_model.specs.Layout.{all_classes, pages_in_slot, class_of}
use Rattle.kv_model.specs.Reading.{large_slot, page_of, slot_at}
use Rattle.kv_model.specs.Slots.{Item}
use Rattle.kv_slab.proofs.FitLemmas.{large-fits}
use Rattle.kv_recover.specs.Large.{IsWholeSlot}
use Rattle.kv_recover.proofs.LargeLemmas.{slot_at-large}

-- the first page and the later ones are all of the slot
pub whole-slot : (image : Image) (class slot first count : ℕ) → first ≡ page_of class slot
    → count ≡ pages_in_slot class → length (image class first) ≡ 4096
    → ((k : ℕ) → k < count - 1 → length (image class (first + 1 + k)) ≡ 4096)
    → IsWholeSlot image class slot
whole-slot image class slot first count first_is count_is front later zero below =
    let at : page_of class slot + 0 ≡ first = omega (arith, first_is) in
    ap (λ page. length (image class page)) at ∙ front
whole-slot image class slot first count first_is count_is front later (suc k) below =
    let at : page_of class slot + suc k ≡ first + 1 + k = omega (arith, first_is) in
    ap (λ page. length (image class page)) at ∙ later k (omega (arith, count_is))

-- the pages of a slot, one by one
page-at : (f : ℕ → List ℕ) (from n i : ℕ) → i < n
    → get_or (map f (range_with_len from n)) i [] ≡ f (from + i)
page-at f from zero i below = absurd (omega arith)
page-at f from (suc n) zero below = ap f (let at : from ≡ from + 0 = omega arith in at)
page-at f from (suc n) (suc i) below = page-at f (from + 1) n i (omega arith)
    ∙ ap f (let at : from + 1 + i ≡ from + suc i = omega arith in at)

page-count : (f : ℕ → List ℕ) (from n : ℕ) → length (map f (range_with_len from n)) ≡ n
page-count f from zero = refl
page-count f from (suc n) = ap suc (page-count f (from + 1) n)

-- an item of a slot of the classes 8 to 11 whose pages have their size
pub large-item : (image : Image) (class slot : ℕ) → 8 ≤ class → class ≤ 11
    → IsWholeSlot image class slot → (stamp : ℕ) (key value : List ℕ)
    → slot_at all_classes image class slot ≡ Item stamp key value
    → class_of all_classes (length key) (length value) ≡ Some class
large-item image class slot low high whole stamp key value stands =
    let count = page-count (image class) (page_of class slot) (pages_in_slot class) in
    large-fits all_classes class stamp (large_slot image class slot) key value low count
    (λ i below. ap length (page-at (image class) (page_of class slot) (pages_in_slot class) i
    (omega (arith, count))) ∙ whole i (omega (arith, count)))
    (sym (slot_at-large image class slot low high) ∙ stands)
