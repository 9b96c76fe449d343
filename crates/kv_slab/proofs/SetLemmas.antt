-- What one write sets: its slot, and nothing else.
use Rattle.std.proofs.Common.{◌≡◌, inl, inr, ℕ, zero, suc, ◌+◌, ◌-◌, ◌*◌, ◌/◌, ◌%◌, ◌^◌, ◌<◌, ◌≤◌}
use Rattle.std.proofs.Common.{true, false, cond, List, [], ◌∷◌, ◌++◌, length, take, drop, map}
use Rattle.std.proofs.Common.{Option, Some, IfSome, refl, sym, ap, ◌∙◌, subst, arith}
use Rattle.std.proofs.lemmas.Bool.{cases_lt, cases_eq, cond-true, cond-false, le-leb, lt-leb}
use Rattle.std.proofs.lemmas.Nat.{pow_pos, mod-mul-add}
use Rattle.std.proofs.Math.Nat.{mul-le-mul_right}
use Rattle.std.specs.List.{AllByRecursion, range_with_len}
use Rattle.kv_base.specs.Image.{Image, with_page}
use Rattle.kv_base.proofs.ImageLemmas.{one_place, with_page-here, with_page-other}
use Rattle.kv_model.specs.Layout.{all_classes, class_of, is_small, slot_size, pages_in_slot}
use Rattle.kv_model.specs.Reading.{page_of, offset_of, small_slot, large_slot, slot_at, heads_at}
use Rattle.kv_model.specs.Reading.{has_class}
use Rattle.kv_model.specs.SlotBytes.{tombstone_bytes, large_page, large_pages}
use Rattle.kv_model.specs.Slots.{Slot, Never, Item, Tombstone, read_small, read_large, stamp_field}
use Rattle.kv_slot.specs.Overwrite.{overwritten}
use Rattle.kv_slot.proofs.AgainLemmas.{large_tombstones_again}
use Rattle.kv_slot.proofs.LargeAgainLemmas.{large_items_again}
use Rattle.kv_slot.proofs.PlaceLemmas.{begin_with_stamp}
use Rattle.kv_slab.specs.Rounds.{IsPlace}
use Rattle.kv_slab.specs.Images.{Sets, SameSlot, IsSlotSet, StillLater}
use Rattle.kv_slab.specs.Floor.{HasFloorUpTo}
use Rattle.kv_slab.specs.Large.{HaveStamp}
use Rattle.kv_slab.specs.Pages.{with_pages}
use Rattle.kv_slab.proofs.SlotLemmas.{has_class-some, reads_set}
use Rattle.kv_slab.proofs.LargeTearing.{slot_at-large}

-- two functions that agree on a run of numbers
pub map_same : {X : Type 0} (f g : ℕ → X) (a n : ℕ) → ((j : ℕ) → j < n → f (a + j) ≡ g (a + j))
    → map f (range_with_len a n) ≡ map g (range_with_len a n)
map_same f g a zero same = refl
map_same f g a (suc n) same =
    let first : a ≡ a + 0 = omega arith in
    let here : f a ≡ g a = ap f first ∙ same 0 (omega arith) ∙ ap g (sym first) in
    let rest = map_same f g (a + 1) n (λ j below.
    let e : a + 1 + j ≡ a + suc j = omega arith in
    ap f e ∙ same (suc j) (omega arith) ∙ ap g (sym e)) in
    ap (λ x. x ∷ map f (range_with_len (a + 1) n)) here ∙ ap (λ xs. g a ∷ xs) rest

-- a run of numbers has its length
pub length_run : {X : Type 0} (f : ℕ → X) (a n : ℕ) → length (map f (range_with_len a n)) ≡ n
length_run f a zero = refl
length_run f a (suc n) = ap suc (length_run f (a + 1) n)

-- a large slot by its pages
pub large_same : (old new : Image) (c s : ℕ) → ((page : ℕ) → page < pages_in_slot c
    → new c (page_of c s + page) ≡ old c (page_of c s + page))
    → large_slot new c s ≡ large_slot old c s
large_same old new c s same =
    map_same (λ p. new c p) (λ p. old c p) (page_of c s) (pages_in_slot c) same

-- a slot with the same bytes reads the same
pub slot_same : (old new : Image) (c s : ℕ) → SameSlot old new c s
    → slot_at all_classes new c s ≡ slot_at all_classes old c s
unfolding slot_at
slot_same old new c s same = elim (cases_lt c 8) [
  | inl low ↦
      let small : is_small c ≡ true = le-leb c 7 (omega arith) in
      ap (λ b. cond (has_class all_classes c)
      (cond b (read_small all_classes c (small_slot new c s))
      (read_large all_classes c (large_slot new c s))) (Never 0)) small
      ∙ ap (λ x. cond (has_class all_classes c) (read_small all_classes c x) (Never 0))
      (same.small (omega arith))
      ∙ ap (λ b. cond (has_class all_classes c)
      (cond b (read_small all_classes c (small_slot old c s))
      (read_large all_classes c (large_slot old c s))) (Never 0)) (sym small)
  | inr above ↦
      let large : is_small c ≡ false = lt-leb c 7 (omega arith) in
      ap (λ b. cond (has_class all_classes c)
      (cond b (read_small all_classes c (small_slot new c s))
      (read_large all_classes c (large_slot new c s))) (Never 0)) large
      ∙ ap (λ x. cond (has_class all_classes c) (read_large all_classes c x) (Never 0))
      (large_same old new c s (same.large (omega arith)))
      ∙ ap (λ b. cond (has_class all_classes c)
      (cond b (read_small all_classes c (small_slot old c s))
      (read_large all_classes c (large_slot old c s))) (Never 0)) (sym large)
]

-- and has the same numbers at the heads of its pages
pub heads_same : (old new : Image) (c s : ℕ) → SameSlot old new c s
    → heads_at all_classes new c s ≡ heads_at all_classes old c s
unfolding heads_at
heads_same old new c s same = elim (cases_lt c 8) [
  | inl low ↦
      let small : is_small c ≡ true = le-leb c 7 (omega arith) in
      ap (λ b. cond (has_class all_classes c)
      (cond b (stamp_field (small_slot new c s) ∷ []) (map stamp_field (large_slot new c s)))
      []) small
      ∙ ap (λ x. cond (has_class all_classes c) (stamp_field x ∷ []) [])
      (same.small (omega arith))
      ∙ ap (λ b. cond (has_class all_classes c)
      (cond b (stamp_field (small_slot old c s) ∷ []) (map stamp_field (large_slot old c s)))
      []) (sym small)
  | inr above ↦
      let large : is_small c ≡ false = lt-leb c 7 (omega arith) in
      ap (λ b. cond (has_class all_classes c)
      (cond b (stamp_field (small_slot new c s) ∷ []) (map stamp_field (large_slot new c s)))
      []) large
      ∙ ap (λ x. cond (has_class all_classes c) (map stamp_field x) [])
      (large_same old new c s (same.large (omega arith)))
      ∙ ap (λ b. cond (has_class all_classes c)
      (cond b (stamp_field (small_slot old c s) ∷ []) (map stamp_field (large_slot old c s)))
      []) (sym large)
]

-- the number at the head of a small slot
pub heads_at-small : (image : Image) (class slot : ℕ) → 1 ≤ class → class ≤ 7
    → heads_at all_classes image class slot ≡ stamp_field (small_slot image class slot) ∷ []
unfolding heads_at
heads_at-small image class slot low high =
    cond-true (has_class all_classes class) _ [] (has_class-some class low (omega arith))
    ∙ cond-true (is_small class) _ _ (le-leb class 7 high)

-- the numbers at the heads of a large slot's pages
pub heads_at-large : (image : Image) (class slot : ℕ) → 8 ≤ class → class ≤ 11
    → heads_at all_classes image class slot ≡ map stamp_field (large_slot image class slot)
unfolding heads_at
heads_at-large image class slot low high =
    cond-true (has_class all_classes class) _ [] (has_class-some class (omega arith) high)
    ∙ cond-false (is_small class) _ _ (lt-leb class 7 (omega arith))

-- where one slot alone is written, and its heads are bounded, the bound stays
pub floor_set : (class slot bound : ℕ) (old new : Image)
    → ((c s : ℕ) → (IsPlace c s class slot → ⊥) → SameSlot old new c s)
    → AllByRecursion (λ head. head ≤ bound) (heads_at all_classes new class slot)
    → HasFloorUpTo bound old → HasFloorUpTo bound new
floor_set class slot bound old new still here bounded c s = elim (one_place c s class slot) [
  | inl same ↦
      subst (λ x. AllByRecursion (λ head. head ≤ bound) (heads_at all_classes new x s))
      (sym same.0)
      (subst (λ y. AllByRecursion (λ head. head ≤ bound) (heads_at all_classes new class y))
      (sym same.1) here)
  | inr other ↦
      subst (λ heads. AllByRecursion (λ head. head ≤ bound) heads)
      (sym (heads_same old new c s (still c s (λ p. other p.0 p.1)))) (bounded c s)
]

sets_still : (class slot : ℕ) (bytes : List ℕ) (old new : Image) → class ≤ 7
    → Sets class slot bytes old new → (c s : ℕ) → (IsPlace c s class slot → ⊥)
    → SameSlot old new c s
sets_still class slot bytes old new high sets c s other = record {
  small = λ low. sets.others c s low other;
  large = λ above page below. sets.files c (page_of c s + page) (λ same. omega arith);
}

-- a small slot is written
pub set_of_sets : (class slot : ℕ) (bytes : List ℕ) (now : Slot) (stamp : ℕ) (old new : Image)
    → 1 ≤ class → class ≤ 7 → read_small all_classes class bytes ≡ now
    → stamp_field bytes ≡ stamp → Sets class slot bytes old new
    → IsSlotSet class slot now stamp old new
set_of_sets class slot bytes now stamp old new low high reads stamp_is sets = record {
  reads = reads_set class slot bytes now old new low high reads sets;
  still = sets_still class slot bytes old new high sets;
  floor = λ bound le. floor_set class slot bound old new
      (sets_still class slot bytes old new high sets)
      (subst (λ heads. AllByRecursion (λ head. head ≤ bound) heads)
      (sym (heads_at-small new class slot low high
      ∙ ap (λ b. stamp_field b ∷ []) sets.here ∙ ap (λ n. n ∷ []) stamp_is)) (le, tt));
}

-- a small slot leaves the large ones alone
pub sets_later : (class slot : ℕ) (bytes : List ℕ) (old new : Image) → class ≤ 7
    → Sets class slot bytes old new → StillLater old new
sets_later class slot bytes old new high sets c p low limit out = sets.files c p
    (λ same. omega arith)

drop_all : {X : Type 0} (n : ℕ) (xs : List X) → length xs ≤ n → drop n xs ≡ []
drop_all zero [] few = refl
drop_all zero (x ∷ xs) few = absurd (omega arith)
drop_all (suc n) [] few = refl
drop_all (suc n) (x ∷ xs) few = drop_all n xs (omega arith)

append_none : {X : Type 0} (xs : List X) → xs ++ [] ≡ xs
append_none [] = refl
append_none (x ∷ xs) = ap (λ l. x ∷ l) (append_none xs)

-- bytes that fill a page are all that is left of it
pub whole_over : (page bytes : List ℕ) → length page ≤ length bytes
    → overwritten page 0 bytes ≡ bytes
whole_over page bytes few =
    ap (λ l. bytes ++ l) (drop_all (0 + length bytes) page (omega arith)) ∙ append_none bytes

take_whole : {X : Type 0} (n : ℕ) (xs : List X) → length xs ≤ n → take n xs ≡ xs
take_whole zero [] few = refl
take_whole zero (x ∷ xs) few = absurd (omega arith)
take_whole (suc n) [] few = refl
take_whole (suc n) (x ∷ xs) few = ap (λ l. x ∷ l) (take_whole n xs (omega arith))

-- a slot of class 7 is its page
pub sets_page : (image : Image) (slot : ℕ) (bytes : List ℕ) → length bytes ≡ 4096
    → Sets 7 slot bytes image (with_page image 7 (page_of 7 slot) bytes)
sets_page image slot bytes size =
    let new = with_page image 7 (page_of 7 slot) bytes in
    let start : offset_of 7 slot ≡ 0 = (let e : slot % 1 ≡ 0 = omega arith in ap (λ n. n * 4096) e)
    in
    record {
      here = ap (λ p. take (slot_size 7) (drop (offset_of 7 slot) p))
          (with_page-here image 7 (page_of 7 slot) bytes)
          ∙ ap (λ n. take (slot_size 7) (drop n bytes)) start
          ∙ take_whole 4096 bytes (omega arith);
      others = λ c s low other. ap (λ p. take (slot_size c) (drop (offset_of c s) p))
          (with_page-other image 7 (page_of 7 slot) bytes c (page_of c s) (λ file page.
          other (
            file,
            (
                let e : page_of 7 s ≡ page_of 7 slot = ap (λ d. page_of d s) (sym file) ∙ page in
                let f : s / 1 ≡ slot / 1 = e in
                omega arith),
          )));
      files = λ f p other. with_page-other image 7 (page_of 7 slot) bytes f p
          (λ same _. other same);
    }

-- pages of a file that are put one behind the other
pub with_pages-other : (image : Image) (file first : ℕ) (contents : List (List ℕ)) (f p : ℕ)
    → (f ≡ file → first ≤ p → p < first + length contents → ⊥)
    → with_pages image file first contents f p ≡ image f p
with_pages-other image file first [] f p far = refl
with_pages-other image file first (c ∷ cs) f p far =
    with_pages-other (with_page image file first c) file (first + 1) cs f p
    (λ same low high. far same (omega arith) (omega arith))
    ∙ with_page-other image file first c f p (λ same page. far same (omega arith) (omega arith))

pub with_pages-all : (image : Image) (file first : ℕ) (contents : List (List ℕ))
    → map (λ p. with_pages image file first contents file p)
    (range_with_len first (length contents)) ≡ contents
with_pages-all image file first [] = refl
with_pages-all image file first (c ∷ cs) =
    let here : with_pages (with_page image file first c) file (first + 1) cs file first ≡ c =
    with_pages-other (with_page image file first c) file (first + 1) cs file first
    (λ _ low _. omega arith) ∙ with_page-here image file first c in
    ap (λ x. x ∷ map (λ p. with_pages (with_page image file first c) file (first + 1) cs file p)
    (range_with_len (first + 1) (length cs))) here
    ∙ ap (λ xs. c ∷ xs) (with_pages-all (with_page image file first c) file (first + 1) cs)

pub with_pages-more : (image : Image) (file first : ℕ) (contents : List (List ℕ))
    (content : List ℕ) → with_pages image file first (contents ++ content ∷ [])
    ≡ with_page (with_pages image file first contents) file (first + length contents) content
with_pages-more image file first [] content =
    let e : first ≡ first + 0 = omega arith in ap (λ n. with_page image file n content) e
with_pages-more image file first (c ∷ cs) content =
    let e : first + 1 + length cs ≡ first + suc (length cs) = omega arith in
    with_pages-more (with_page image file first c) file (first + 1) cs content
    ∙ ap (λ n. with_page (with_pages (with_page image file first c) file (first + 1) cs) file n
    content) e

-- each page of a large item begins with its stamp
stamps_of : (stamp : ℕ) (key value : List ℕ) → stamp < 2 ^ 64 → (a n : ℕ)
    → HaveStamp stamp (map (large_page stamp key value) (range_with_len a n))
stamps_of stamp key value fits a zero = tt
stamps_of stamp key value fits a (suc n) =
    (begin_with_stamp.page stamp key value a fits, stamps_of stamp key value fits (a + 1) n)

have-bounded : (stamp bound : ℕ) → stamp ≤ bound → (pages : List (List ℕ)) → HaveStamp stamp pages
    → AllByRecursion (λ head. head ≤ bound) (map stamp_field pages)
have-bounded stamp bound le [] have = tt
have-bounded stamp bound le (page ∷ pages) have =
    ((let e = have.0 in omega arith), have-bounded stamp bound le pages have.1)

pub large_place : (class slot : ℕ) → 8 ≤ class → page_of class slot ≡ slot * pages_in_slot class
large_place class slot low = cond-false (is_small class) _ _ (lt-leb class 7 (omega arith))

-- the pages of two large slots are apart
pub large_apart : (class s t i j : ℕ) → 8 ≤ class → (s ≡ t → ⊥) → i < pages_in_slot class
    → j < pages_in_slot class → page_of class s + i ≡ page_of class t + j → ⊥
large_apart class s t i j low other below_i below_j same =
    let q = pages_in_slot class in
    let first = large_place class s low in
    let second = large_place class t low in
    elim (cases_lt s t) [
      | inl less ↦
          let up : s + 1 ≤ t = omega arith in
          let all = mul-le-mul_right q up in
          omega (arith, first, second, all)
      | inr more ↦
          let up : t + 1 ≤ s = elim (cases_eq s t) [
            | inl equal ↦ absurd (other equal)
            | inr apart ↦ omega arith
          ] in
          let all = mul-le-mul_right q up in
          omega (arith, first, second, all)
    ]

-- a large slot is written whole
pub large_set : (class slot stamp : ℕ) (key value : List ℕ) (old new : Image) → 8 ≤ class
    → class ≤ 11 → stamp < 2 ^ 64 → class_of all_classes (length key) (length value) ≡ Some class
    → new ≡ with_pages old class (page_of class slot) (large_pages class stamp key value)
    → IsSlotSet class slot (Item stamp key value) stamp old new
    × HaveStamp stamp (large_slot new class slot)
large_set class slot stamp key value old new low high fits of is =
    let pages = large_pages class stamp key value in
    let first = page_of class slot in
    let put = with_pages old class first pages in
    let size : length pages ≡ pages_in_slot class =
    length_run (large_page stamp key value) 0 (pages_in_slot class) in
    let there : large_slot put class slot ≡ pages =
    ap (λ n. map (λ p. put class p) (range_with_len first n)) (sym size)
    ∙ with_pages-all old class first pages in
    let have : HaveStamp stamp (large_slot put class slot) =
    subst (λ ps. HaveStamp stamp ps) (sym there)
    (stamps_of stamp key value fits 0 (pages_in_slot class)) in
    let still : (c s : ℕ) → (IsPlace c s class slot → ⊥) → SameSlot old put c s = λ c s other.
    record {
      small = λ small. ap (λ p. take (slot_size c) (drop (offset_of c s) p))
          (with_pages-other old class first pages c (page_of c s) (λ same _ _. omega arith));
      large = λ above page below. with_pages-other old class first pages c (page_of c s + page)
          (λ same from to.
          let here : page_of c s ≡ page_of class s = ap (λ d. page_of d s) same in
          let few : page < pages_in_slot class = subst (λ d. page < pages_in_slot d) same below in
          let gap : first ≤ page_of class s + page = omega arith in
          large_apart class s slot page (page_of class s + page - first) low
          (λ e. other (same, e)) few (omega (arith, size)) (omega arith));
    } in (
      subst (λ im. IsSlotSet class slot (Item stamp key value) stamp old im) (sym is) (record {
        reads = record {
          here = slot_at-large put class slot low high ∙ ap (read_large all_classes class) there
              ∙ large_items_again all_classes class stamp key value low high fits of;
          others = λ c s other. slot_same old put c s (still c s other);
        };
        still = still;
        floor = λ bound le. floor_set class slot bound old put still
            (subst (λ heads. AllByRecursion (λ head. head ≤ bound) heads)
            (sym (heads_at-large put class slot low high))
            (have-bounded stamp bound le (large_slot put class slot) have));
      }),
      subst (λ im. HaveStamp stamp (large_slot im class slot)) (sym is) have,
    )

-- a large slot by its first page and the others
pub large_first : (image : Image) (class slot : ℕ) → large_slot image class slot
    ≡ image class (page_of class slot)
    ∷ map (λ p. image class p) (range_with_len (page_of class slot + 1) (pages_in_slot class - 1))
large_first image class slot =
    let some : 0 < pages_in_slot class = pow_pos (class - 7) in
    let n : pages_in_slot class ≡ suc (pages_in_slot class - 1) = omega arith in
    ap (λ k. map (λ p. image class p) (range_with_len (page_of class slot) k)) n

-- the tombstone of a large slot is its first page
pub large_vacated : (class slot stamp : ℕ) (link : Option ℕ) (old : Image) → 8 ≤ class
    → class ≤ 11 → stamp < 2 ^ 64 → IfSome link (λ other. other < 2 ^ 24)
    → IsSlotSet class slot (Tombstone stamp link) stamp old
    (with_page old class (page_of class slot) (tombstone_bytes class stamp link))
large_vacated class slot stamp link old low high fits small =
    let bytes = tombstone_bytes class stamp link in
    let first = page_of class slot in
    let put = with_page old class first bytes in
    let later = map (λ p. old class p) (range_with_len (first + 1) (pages_in_slot class - 1)) in
    let rest : map (λ p. put class p) (range_with_len (first + 1) (pages_in_slot class - 1))
    ≡ later =
    map_same (λ p. put class p) (λ p. old class p) (first + 1) (pages_in_slot class - 1)
    (λ j below. with_page-other old class first bytes class (first + 1 + j) (λ _ same. omega arith))
    in
    let there : large_slot put class slot ≡ bytes ∷ later =
    large_first put class slot
    ∙ ap (λ x. x ∷ map (λ p. put class p) (range_with_len (first + 1) (pages_in_slot class - 1)))
    (with_page-here old class first bytes)
    ∙ ap (λ xs. bytes ∷ xs) rest in
    let still : (c s : ℕ) → (IsPlace c s class slot → ⊥) → SameSlot old put c s = λ c s other.
    record {
      small = λ few. ap (λ p. take (slot_size c) (drop (offset_of c s) p))
          (with_page-other old class first bytes c (page_of c s) (λ same _. omega arith));
      large = λ above page below. with_page-other old class first bytes c (page_of c s + page)
          (λ same at.
          let here : page_of c s ≡ page_of class s = ap (λ d. page_of d s) same in
          let few : page < pages_in_slot class = subst (λ d. page < pages_in_slot d) same below in
          let some : 0 < pages_in_slot class = pow_pos (class - 7) in
          large_apart class s slot page 0 low (λ e. other (same, e)) few some (omega arith));
    } in
    record {
      reads = record {
        here = slot_at-large put class slot low high ∙ ap (read_large all_classes class) there
            ∙ large_tombstones_again all_classes class stamp link later fits small;
        others = λ c s other. slot_same old put c s (still c s other);
      };
      still = still;
      floor = λ bound le bounded. floor_set class slot bound old put still
          (subst (λ heads. AllByRecursion (λ head. head ≤ bound) heads)
          (sym (heads_at-large put class slot low high ∙ ap (map stamp_field) there)) (
            (let e = begin_with_stamp.tombstone class stamp link fits in omega arith),
            (subst (λ heads. AllByRecursion (λ head. head ≤ bound) heads)
                (heads_at-large old class slot low high ∙ ap (map stamp_field)
                (large_first old class slot))
                (bounded class slot)).1,
          )) bounded;
    }

-- it is no page that a slot begins behind
pub vacated_later : (class slot : ℕ) (content : List ℕ) (old : Image) → 7 ≤ class
    → StillLater old (with_page old class (page_of class slot) content)
vacated_later class slot content old low c p above limit out =
    with_page-other old class (page_of class slot) content c p (λ same page.
    out (
    let here : page_of class slot ≡ slot * pages_in_slot class = large_place class slot
    (omega arith) in
    let at : p ≡ slot * pages_in_slot c =
    page ∙ here ∙ ap (λ d. slot * pages_in_slot d) (sym same) in
    ap (λ n. n % pages_in_slot c) at ∙ multiple slot (pages_in_slot c) (pow_pos (c - 7))))
  where
    multiple : (a q : ℕ) → 0 < q → a * q % q ≡ 0
    multiple a q some =
        let e : a * q ≡ a * q + 0 = omega arith in
        ap (λ n. n % q) e ∙ mod-mul-add a q 0 some
