-- Pages that are written whole.
use Rattle.std.proofs.Common.{◌≡◌, inl, inr, ◌∙◌, ℕ, ◌<◌, ◌≤◌, ◌^◌, List, length, replicate, Option}
use Rattle.std.proofs.Common.{Some, IfSome}
use Rattle.std.proofs.Common.{sym, ap, subst, arith}
use Rattle.std.proofs.lemmas.Bool.{cases_lt, cond-true, cond-false, le-leb, lt-leb}
use Rattle.std.proofs.lemmas.List.{length-replicate}
use Rattle.kv_base.specs.Image.{Image, with_page}
use Rattle.kv_model.specs.Layout.{all_classes, class_of, is_small, slot_size}
use Rattle.kv_model.specs.Reading.{page_of}
use Rattle.kv_model.specs.SlotBytes.{item_bytes, tombstone_bytes, tombstone_size}
use Rattle.kv_model.specs.Slots.{Item, Tombstone}
use Rattle.kv_slot.specs.Overwrite.{overwritten}
use Rattle.kv_slot.proofs.AgainLemmas.{items_again, tombstones_again}
use Rattle.kv_slot.proofs.PlaceLemmas.{have_their_size, begin_with_stamp}
use Rattle.kv_slab.specs.Images.{Sets, IsSlotSet, StillLater}
use Rattle.kv_slab.proofs.SetLemmas.{set_of_sets, sets_page, whole_over, large_vacated}
use Rattle.kv_slab.proofs.SetLemmas.{vacated_later}

-- the image with a page of zeros over which these bytes were put
put_is : (file page number : ℕ) (zeros bytes content : List ℕ) (old new : Image) → number ≡ page
    → zeros ≡ replicate 4096 0 → length bytes ≡ 4096 → content ≡ overwritten zeros 0 bytes
    → new ≡ with_page old file number content → new ≡ with_page old file page bytes
put_is file page number zeros bytes content old new number_is zeros_are size content_is set =
    let few : length zeros ≤ length bytes = omega (
      arith,
      ap length zeros_are,
      size,
      length-replicate {A = ℕ} 4096 0,
    ) in
    set ∙ ap (λ n. with_page old file n content) number_is
    ∙ ap (λ x. with_page old file page x) (content_is ∙ whole_over zeros bytes few)

-- an item of class 7 fills its page
pub item_page : (class slot stamp : ℕ) (key value : List ℕ) (old new : Image) (number : ℕ)
    (zeros content : List ℕ) → class ≡ 7 → stamp < 2 ^ 64
    → class_of all_classes (length key) (length value) ≡ Some class → number ≡ page_of class slot
    → zeros ≡ replicate 4096 0 → content ≡ overwritten zeros 0 (item_bytes class stamp key value)
    → new ≡ with_page old class number content
    → IsSlotSet class slot (Item stamp key value) stamp old new
item_page class slot stamp key value old new number zeros content seven fits of number_is zeros_are
    content_is set =
    let high : class ≤ 7 = omega arith in
    let low : 1 ≤ class = omega arith in
    let bytes = item_bytes class stamp key value in
    let size : length bytes ≡ 4096 = have_their_size.item all_classes class stamp key value high of
    ∙ ap slot_size seven in
    let is = put_is class (page_of class slot) number zeros bytes content old new number_is
    zeros_are
    size content_is set in
    set_of_sets class slot bytes (Item stamp key value) stamp old new low high
    (items_again all_classes class stamp key value high fits of)
    (begin_with_stamp.item class stamp key value fits)
    (subst (λ im. Sets class slot bytes old im) (sym is) (page_sets class slot bytes old seven
    size))
  where
    page_sets : (class slot : ℕ) (bytes : List ℕ) (old : Image) → class ≡ 7 → length bytes ≡ 4096
        → Sets class slot bytes old (with_page old class (page_of class slot) bytes)
    page_sets class slot bytes old seven size =
        subst (λ c. Sets c slot bytes old (with_page old c (page_of c slot) bytes)) (sym seven)
        (sets_page old slot bytes size)

-- a tombstone of the classes 7 to 11 fills its slot's first page
tombstone_whole : (class stamp : ℕ) (link : Option ℕ) → 7 ≤ class → class ≤ 11
    → length (tombstone_bytes class stamp link) ≡ 4096
tombstone_whole class stamp link low high = have_their_size.tombstone class stamp link
    ∙ whole_size class low
  where
    whole_size : (class : ℕ) → 7 ≤ class → tombstone_size class ≡ 4096
    whole_size class low = elim (cases_lt class 8) [
      | inl seven ↦
          let is : class ≡ 7 = omega arith in
          cond-true (is_small class) (slot_size class) 4096 (le-leb class 7 (omega arith))
          ∙ ap slot_size is
      | inr large ↦ cond-false (is_small class) (slot_size class) 4096
          (lt-leb class 7 (omega arith))
    ]

pub tombstone_page : (class slot stamp : ℕ) (link : Option ℕ) (old new : Image) (number : ℕ)
    (zeros content : List ℕ) → 7 ≤ class → class ≤ 11 → stamp < 2 ^ 64
    → IfSome link (λ other. other < 2 ^ 24) → number ≡ page_of class slot
    → zeros ≡ replicate 4096 0 → content ≡ overwritten zeros 0 (tombstone_bytes class stamp link)
    → new ≡ with_page old class number content
    → IsSlotSet class slot (Tombstone stamp link) stamp old new
tombstone_page class slot stamp link old new number zeros content low high fits small number_is
    zeros_are content_is set =
    let bytes = tombstone_bytes class stamp link in
    let size = tombstone_whole class stamp link low high in
    let is = put_is class (page_of class slot) number zeros bytes content old new number_is
    zeros_are
    size content_is set in
    subst (λ im. IsSlotSet class slot (Tombstone stamp link) stamp old im) (sym is)
    (elim (cases_lt class 8) [
      | inl less ↦
          let seven : class ≡ 7 = omega arith in
          set_of_sets class slot bytes (Tombstone stamp link) stamp old
          (with_page old class (page_of class slot) bytes) (omega arith) (omega arith)
          (tombstones_again all_classes class stamp link fits small)
          (begin_with_stamp.tombstone class stamp link fits)
          (subst (λ c. Sets c slot bytes old (with_page old c (page_of c slot) bytes)) (sym seven)
          (sets_page old slot bytes size))
      | inr large ↦ large_vacated class slot stamp link old (omega arith) high fits small
    ])

pub tombstone_later : (class slot : ℕ) (old new : Image) (number : ℕ) (content : List ℕ)
    → 7 ≤ class → number ≡ page_of class slot → new ≡ with_page old class number content
    → StillLater old new
tombstone_later class slot old new number content low number_is set =
    subst (λ im. StillLater old im)
    (sym (set ∙ ap (λ n. with_page old class n content) number_is))
    (vacated_later class slot content old low)
