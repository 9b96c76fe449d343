-- Lemmas on the slots of an image: what zeros read as, and which slots may have a byte.
use Rattle.std.proofs.Common.{◌≡◌, ℕ, zero, suc, ◌+◌, ◌-◌, ◌*◌, ◌/◌, ◌<◌, ◌≤◌, inl, inr, Bool}
use Rattle.std.proofs.Common.{true, false, cond, eqb, List, [], ◌∷◌, ◌++◌, map, take, drop, get_or}
use Rattle.std.proofs.Common.{replicate, refl, sym, ap, ◌∙◌, subst, arith, ◌&&◌, ◌||◌}
use Rattle.std.proofs.lemmas.Bool.{false≢true}
use Rattle.std.specs.Int.{w16, w32, w64, from_le_bytes}
use Rattle.std.specs.List.{AllByRecursion, flat_map, list_all, list_any, range_with_len}
use Rattle.std.proofs.lemmas.Bool.{cond-true, cond-false, eq-eqb, ne_eqb, cases_lt, eqb-true}
use Rattle.std.proofs.lemmas.List.{append-nil, take-take, drop-take}
use Rattle.std.proofs.lemmas.Nat.{pow_pos}
use Rattle.std.proofs.Math.Nat.{le-div_iff_mul-le, mul-le-mul_left}
use Rattle.kv_base.specs.Image.{Image, zero_page, with_page}
use Rattle.kv_model.specs.Layout.{Layout, all_classes, is_small, slot_size, slots_in_page}
use Rattle.kv_model.specs.Layout.{pages_in_slot, class_of}
use Rattle.kv_model.specs.declared.page.Page.{Page}
use Rattle.kv_model.specs.Plain.{parts_of, is_zeros, image_of, zero_image, item_in}
use Rattle.std.proofs.lemmas.List.Sums.{fold_more}
use Rattle.std.proofs.Common.{length, Option}
use Rattle.kv_model.specs.Reading.{small_slot, large_slot, page_of, offset_of, slot_at, heads_at}
use Rattle.kv_model.specs.Reading.{has_class}
use Rattle.kv_model.specs.Slots.{Slot, Never, Item, Tombstone, Bad, Torn, read_small, read_large}
use Rattle.kv_model.specs.Slots.{read_parts, read_item, stamp_field, kind_field, last_field}
use Rattle.kv_model.specs.Slots.{key_length_field, is_class}
use Rattle.kv_base.specs.declared.place.Place.{Place}
use Rattle.kv_model.proofs.ListedLemmas.{and-both, and-join}

-- the classes 1 to 11 are those of the layout
pub has_class-some : (class : ℕ) → 1 ≤ class → class ≤ 11 → has_class all_classes class ≡ true
has_class-some zero low high = absurd (omega arith)
has_class-some (suc zero) low high = refl
has_class-some (suc (suc zero)) low high = refl
has_class-some (suc (suc (suc zero))) low high = refl
has_class-some (suc (suc (suc (suc zero)))) low high = refl
has_class-some (suc (suc (suc (suc (suc zero))))) low high = refl
has_class-some (suc (suc (suc (suc (suc (suc zero)))))) low high = refl
has_class-some (suc (suc (suc (suc (suc (suc (suc zero))))))) low high = refl
has_class-some (suc (suc (suc (suc (suc (suc (suc (suc zero)))))))) low high = refl
has_class-some (suc (suc (suc (suc (suc (suc (suc (suc (suc zero))))))))) low high = refl
has_class-some (suc (suc (suc (suc (suc (suc (suc (suc (suc (suc zero)))))))))) low high = refl
has_class-some (suc (suc (suc (suc (suc (suc (suc (suc (suc (suc (suc zero))))))))))) low high =
    refl
has_class-some (suc (suc (suc (suc (suc (suc (suc (suc (suc (suc (suc (suc n)))))))))))) low high =
    absurd (omega arith)

or-none : (a b : Bool) → a ≡ false → b ≡ false → (a || b) ≡ false
or-none true b first second = first
or-none false b first second = second

not-among : (classes : List ℕ) (class : ℕ) → AllByRecursion (λ other. other < class) classes
    → list_any (λ other. eqb other class) classes ≡ false
not-among [] class all = refl
not-among (first ∷ classes) class all = or-none (eqb first class) _
    (ne_eqb first class (λ is. let below : first < class = all.0 in omega arith))
    (not-among classes class all.1)

below-all : (classes : List ℕ) (class : ℕ) → AllByRecursion (λ other. other ≤ 11) classes
    → 12 ≤ class → AllByRecursion (λ other. other < class) classes
below-all [] class all past = tt
below-all (first ∷ classes) class all past =
    (let at_most : first ≤ 11 = all.0 in omega arith, below-all classes class all.1 past)

-- a class of the layout is one of 1 to 11
pub has_class-within : (class : ℕ) → has_class all_classes class ≡ true
    → (1 ≤ class) × (class ≤ 11)
has_class-within zero has = absurd (false≢true has)
has_class-within (suc n) has = elim (cases_lt (suc n) 12) [
  | inl within ↦ (omega arith, omega arith)
  | inr past ↦ absurd (false≢true (sym (not-among all_classes.classes (suc n)
      (below-all all_classes.classes (suc n) at_most past)) ∙ has))
]
  where
    at_most : AllByRecursion (λ other. other ≤ 11) all_classes.classes
    at_most = (
      omega arith,
      (
        omega arith,
        (
          omega arith,
          (
            omega arith,
            (
              omega arith,
              (
                omega arith,
                (omega arith, (omega arith, (omega arith, (omega arith, (omega arith, tt))))),
              ),
            ),
          ),
        ),
      ),
    )

-- a slot in one page reads as one without later pages
small-large : (layout : Layout) (class : ℕ) (bytes : List ℕ)
    → read_small layout class bytes ≡ read_large layout class (bytes ∷ [])
unfolding read_small read_large
small-large layout class bytes = ap (λ content. read_parts layout class (take 16 bytes) content
    true) (sym (append-nil (drop 16 bytes)))

-- what stands in a slot, by its bytes
pub slot_at-parts : (image : Image) (class slot : ℕ) → has_class all_classes class ≡ true
    → slot_at all_classes image class slot
    ≡ read_large all_classes class (parts_of image class slot)
unfolding slot_at
slot_at-parts image class slot has =
    cond-true (has_class all_classes class) _ (Never 0) has ∙ by (is_small class)
  where
    by : (small : Bool) → cond small (read_small all_classes class (small_slot image class slot))
        (read_large all_classes class (large_slot image class slot))
        ≡ read_large all_classes class (cond small (small_slot image class slot ∷ [])
        (large_slot image class slot))
    by true = small-large all_classes class (small_slot image class slot)
    by false = refl

-- the numbers at the heads of its pages
pub heads_at-parts : (image : Image) (class slot : ℕ) → has_class all_classes class ≡ true
    → heads_at all_classes image class slot ≡ map stamp_field (parts_of image class slot)
unfolding heads_at
heads_at-parts image class slot has =
    cond-true (has_class all_classes class) _ [] has ∙ by (is_small class)
  where
    by : (small : Bool) → cond small (stamp_field (small_slot image class slot) ∷ [])
        (map stamp_field (large_slot image class slot))
        ≡ map stamp_field (cond small (small_slot image class slot ∷ [])
        (large_slot image class slot))
    by true = refl
    by false = refl

-- a class that the layout lacks has no slot in use
pub slot_at-lacks : (image : Image) (class slot : ℕ) → has_class all_classes class ≡ false
    → slot_at all_classes image class slot ≡ Never 0
unfolding slot_at
slot_at-lacks image class slot lacks = cond-false (has_class all_classes class) _ (Never 0) lacks

pub heads_at-lacks : (image : Image) (class slot : ℕ) → has_class all_classes class ≡ false
    → heads_at all_classes image class slot ≡ []
unfolding heads_at
heads_at-lacks image class slot lacks = cond-false (has_class all_classes class) _ [] lacks

-- a part of zeros is zeros
take-zeros : (n : ℕ) (bytes : List ℕ) → is_zeros bytes ≡ true → is_zeros (take n bytes) ≡ true
take-zeros zero bytes all = refl
take-zeros (suc n) [] all = refl
take-zeros (suc n) (byte ∷ bytes) all =
    let both = and-both (eqb byte 0) (is_zeros bytes) all in
    and-join (eqb byte 0) (is_zeros (take n bytes)) both.0 (take-zeros n bytes both.1)

drop-zeros : (n : ℕ) (bytes : List ℕ) → is_zeros bytes ≡ true → is_zeros (drop n bytes) ≡ true
drop-zeros zero bytes all = all
drop-zeros (suc n) [] all = refl
drop-zeros (suc n) (byte ∷ bytes) all =
    drop-zeros n bytes (and-both (eqb byte 0) (is_zeros bytes) all).1

replicate-zeros : (n : ℕ) → is_zeros (replicate n 0) ≡ true
replicate-zeros zero = refl
replicate-zeros (suc n) = replicate-zeros n

zero_page-zeros : is_zeros zero_page ≡ true
unfolding zero_page
zero_page-zeros = replicate-zeros 4096

zero-at : (bytes : List ℕ) → is_zeros bytes ≡ true → (i : ℕ) → get_or bytes i 0 ≡ 0
zero-at [] all i = refl
zero-at (byte ∷ bytes) all zero =
    eqb-true byte 0 (and-both (eqb byte 0) (is_zeros bytes) all).0
zero-at (byte ∷ bytes) all (suc i) =
    zero-at bytes (and-both (eqb byte 0) (is_zeros bytes) all).1 i

number-zero : (bytes : List ℕ) → ((i : ℕ) → get_or bytes i 0 ≡ 0) → from_le_bytes w16 bytes ≡ 0
number-zero bytes zeros = simp zeros

stamp-zero : (bytes : List ℕ) → ((i : ℕ) → get_or bytes i 0 ≡ 0) → from_le_bytes w64 bytes ≡ 0
stamp-zero bytes zeros = simp zeros

stamp-zeros : (bytes : List ℕ) → is_zeros bytes ≡ true → stamp_field bytes ≡ 0
stamp-zeros bytes all = stamp-zero (take 8 bytes) (zero-at (take 8 bytes) (take-zeros 8 bytes all))

-- a slot of zeros has no item
pub zeros-never : (class : ℕ) (parts : List (List ℕ)) → list_all is_zeros parts ≡ true
    → (stamp : ℕ) × (read_large all_classes class parts ≡ Never stamp)
unfolding read_large
zeros-never class [] all = (0, refl)
zeros-never class (first ∷ later) all =
    let header : is_zeros (take 16 first) ≡ true =
    take-zeros 16 first (and-both (is_zeros first) (list_all is_zeros later) all).0 in
    let kind = take 2 (drop 8 (take 16 first)) in
    let kind_zeros : is_zeros kind ≡ true =
    take-zeros 2 (drop 8 (take 16 first)) (drop-zeros 8 (take 16 first) header) in
    let kind_is : kind_field (take 16 first) ≡ 0 = number-zero kind (zero-at kind kind_zeros) in (
      stamp_field (take 16 first),
      cond-true (eqb (kind_field (take 16 first)) 0) (Never (stamp_field (take 16 first))) _
          (eq-eqb (kind_field (take 16 first)) 0 kind_is),
    )

-- and no number at a head
pub zeros-heads : (most : ℕ) (parts : List (List ℕ)) → list_all is_zeros parts ≡ true
    → AllByRecursion (λ stamp. stamp ≤ most) (map stamp_field parts)
zeros-heads most [] all = tt
zeros-heads most (part ∷ parts) all =
    let both = and-both (is_zeros part) (list_all is_zeros parts) all in
    let none : stamp_field part ≡ 0 = stamp-zeros part both.0 in
    (omega arith, zeros-heads most parts both.1)

pages-zeros : (f : ℕ → List ℕ) (pages a n : ℕ) → ((k : ℕ) → pages ≤ k → f k ≡ zero_page)
    → pages ≤ a → list_all is_zeros (map f (range_with_len a n)) ≡ true
pages-zeros f pages a zero rest from = refl
pages-zeros f pages a (suc n) rest from = and-join (is_zeros (f a)) _
    (ap is_zeros (rest a from) ∙ zero_page-zeros)
    (pages-zeros f pages (a + 1) n rest (omega arith))

-- a slot behind so many pages begins there
page_of-past : (class pages slot : ℕ) → pages * slots_in_page class ≤ slot
    → pages ≤ page_of class slot
page_of-past class pages slot past = by (is_small class)
  where
    by : (small : Bool) → pages ≤ cond small (slot / slots_in_page class)
        (slot * pages_in_slot class)
    by true = (le-div_iff_mul-le {k = slots_in_page class} {x = pages} {y = slot}
        (pow_pos (7 - class))).1 past
    by false =
        let some : 1 ≤ slots_in_page class = pow_pos (7 - class) in
        let also : 1 ≤ pages_in_slot class = pow_pos (class - 7) in
        let low : pages * 1 ≤ pages * slots_in_page class = mul-le-mul_left pages some in
        let high : slot * 1 ≤ slot * pages_in_slot class = mul-le-mul_left slot also in
        omega arith

-- a slot behind all pages that have a byte is zeros
pub past-zeros : (image : Image) (class pages slot : ℕ)
    → ((number : ℕ) → pages ≤ number → image class number ≡ zero_page)
    → pages * slots_in_page class ≤ slot → list_all is_zeros (parts_of image class slot) ≡ true
past-zeros image class pages slot rest past =
    let from : pages ≤ page_of class slot = page_of-past class pages slot past in
    by (is_small class) from
  where
    by : (small : Bool) → pages ≤ page_of class slot → list_all is_zeros (cond small
        (small_slot image class slot ∷ []) (large_slot image class slot)) ≡ true
    by true from = and-join (is_zeros (small_slot image class slot)) true
        (ap (λ page. is_zeros (take (slot_size class) (drop (offset_of class slot) page)))
        (rest (page_of class slot) from)
        ∙ take-zeros (slot_size class) _ (drop-zeros (offset_of class slot) _ zero_page-zeros)) refl
    by false from = pages-zeros (λ page. image class page) pages (page_of class slot)
        (pages_in_slot class) rest from

-- one page more
pub image_of-more : (pages : List Page) (i : ℕ) (d : Page) (file number : ℕ) → i < length pages
    → image_of (take (i + 1) pages) file number
    ≡ cond (eqb file (get_or pages i d).file && eqb number (get_or pages i d).number)
    (get_or pages i d).content (image_of (take i pages) file number)
unfolding with_page
image_of-more pages i d file number within =
    ap (λ (image : Image). image file number) (fold_more (λ (image : Image) (page : Page).
    with_page image page.file page.number page.content) zero_image pages i d within)

pub page-more : (pages : List Page) (i : ℕ) (d : Page) (file number : ℕ) (under now : List ℕ)
    → i < length pages
    → now ≡ cond (eqb file (get_or pages i d).file && eqb number (get_or pages i d).number)
    (get_or pages i d).content under
    → under ≡ image_of (take i pages) file number
    → now ≡ image_of (take (i + 1) pages) file number
page-more pages i d file number under now within now_is under_is =
    now_is ∙ ap (λ (bytes : List ℕ). cond (eqb file (get_or pages i d).file
    && eqb number (get_or pages i d).number) (get_or pages i d).content bytes) under_is
    ∙ sym (image_of-more pages i d file number within)

-- and where it isn't behind the count, what is behind is as before
pub count-more : (pages : List Page) (i : ℕ) (d : Page) (file count : ℕ) → i < length pages
    → (end : ℕ) → end ≡ cond (eqb file (get_or pages i d).file) ((get_or pages i d).number + 1) 0
    → ((number : ℕ) → count ≤ number → image_of (take i pages) file number ≡ zero_page)
    → (number : ℕ) → count ≤ number → end ≤ number
    → image_of (take (i + 1) pages) file number ≡ zero_page
count-more pages i d file count within end end_is before number from also =
    image_of-more pages i d file number within
    ∙ by (eqb file (get_or pages i d).file) (eqb number (get_or pages i d).number) refl
    (subst (λ (n : ℕ). n ≤ number) end_is also)
  where
    by : (a b : Bool) → eqb number (get_or pages i d).number ≡ b
        → cond a ((get_or pages i d).number + 1) 0 ≤ number
        → cond (a && b) (get_or pages i d).content (image_of (take i pages) file number)
        ≡ zero_page
    by true true is behind =
        let same = eqb-true number (get_or pages i d).number is in absurd (omega arith)
    by true false is behind = before number (omega arith)
    by false b is behind = before number (omega arith)

-- a field lies within the header
field : (count n m : ℕ) (first : List ℕ) → count ≤ m
    → take count (drop n (take (n + m) first)) ≡ take count (drop n first)
field count n m first within = ap (take count) (drop-take n m first)
    ∙ take-take count m (drop n first) within

kind-first : (first : List ℕ)
    → kind_field (take 16 first) ≡ from_le_bytes w16 (take 2 (drop 8 first))
kind-first first = ap (from_le_bytes w16) (field 2 8 8 first (omega arith))

-- a slot of another kind has no item
pub kind-none : (worker workers : ℕ) (place : Place) (first : List ℕ) (later : List (List ℕ))
    → (from_le_bytes w16 (take 2 (drop 8 first)) ≡ 1 → ⊥)
    → item_in worker workers place (read_large all_classes place.class (first ∷ later)) ≡ []
unfolding read_large
kind-none worker workers place first later other =
    by (eqb (kind_field (take 16 first)) 0) (eqb (kind_field (take 16 first)) 1)
    (eqb (kind_field (take 16 first)) 2) _ _ _
    (ne_eqb (kind_field (take 16 first)) 1 (λ is. other (sym (kind-first first) ∙ is)))
  where
    by : (a b c : Bool) (what : Slot) (stamp : ℕ) (link : Option ℕ) → b ≡ false
        → item_in worker workers place (cond a (Never stamp) (cond b what
        (cond c (Tombstone stamp link) (Bad stamp)))) ≡ []
    by true b c what stamp link is = refl
    by false true c what stamp link is = absurd (false≢true (sym is))
    by false false true what stamp link is = refl
    by false false false what stamp link is = refl

-- nor has one whose pages differ in their stamps
pub torn-none : (worker workers : ℕ) (place : Place) (first : List ℕ) (later : List (List ℕ))
    → list_all (λ page. eqb (stamp_field page) (stamp_field first)) later ≡ false
    → item_in worker workers place (read_large all_classes place.class (first ∷ later)) ≡ []
unfolding read_large
torn-none worker workers place first later differ =
    by (eqb (kind_field (take 16 first)) 0) (eqb (kind_field (take 16 first)) 1)
    (eqb (kind_field (take 16 first)) 2) (is_class (class_of all_classes
    (key_length_field (take 16 first)) (last_field (take 16 first))) place.class) _ _ _ _ _
    differ
  where
    by : (a b c d whole : Bool) (stamp : ℕ) (key value : List ℕ) (link : Option ℕ)
        → whole ≡ false
        → item_in worker workers place (cond a (Never stamp) (cond b (cond d (cond whole
        (Item stamp key value) (Torn stamp)) (Bad stamp))
        (cond c (Tombstone stamp link) (Bad stamp)))) ≡ []
    by true b c d whole stamp key value link is = refl
    by false true c true true stamp key value link is = absurd (false≢true (sym is))
    by false true c true false stamp key value link is = refl
    by false true c false whole stamp key value link is = refl
    by false false true d whole stamp key value link is = refl
    by false false false d whole stamp key value link is = refl

parts-item : (class : ℕ) (header content : List ℕ) (whole : Bool) → kind_field header ≡ 1
    → read_parts all_classes class header content whole
    ≡ read_item all_classes class (stamp_field header) (key_length_field header)
    (last_field header) content whole
parts-item class header content whole item =
    cond-false (eqb (kind_field header) 0) _ _ (ne_eqb (kind_field header) 0
    (λ is. omega (arith, is, item)))
    ∙ cond-true (eqb (kind_field header) 1) _ _ (eq-eqb (kind_field header) 1 item)

-- any other is read by the fields of its header
pub read-fields : (class : ℕ) (first : List ℕ) (later : List (List ℕ))
    → from_le_bytes w16 (take 2 (drop 8 first)) ≡ 1
    → list_all (λ page. eqb (stamp_field page) (stamp_field first)) later ≡ true
    → read_large all_classes class (first ∷ later)
    ≡ read_item all_classes class (stamp_field first)
    (from_le_bytes w16 (take 2 (drop 10 first))) (from_le_bytes w32 (take 4 (drop 12 first)))
    (drop 16 first ++ flat_map (λ page. drop 8 page) later) true
unfolding read_large
read-fields class first later kind whole =
    let header = take 16 first in
    let content = drop 16 first ++ flat_map (λ (page : List ℕ). drop 8 page) later in
    let all = list_all (λ (page : List ℕ). eqb (stamp_field page) (stamp_field first)) later in
    let key = from_le_bytes w16 (take 2 (drop 10 first)) in
    let last = from_le_bytes w32 (take 4 (drop 12 first)) in
    let stamp_is : stamp_field header ≡ stamp_field first =
    ap (from_le_bytes w64) (take-take 8 16 first (omega arith)) in
    let key_is : key_length_field header ≡ key =
    ap (from_le_bytes w16) (field 2 10 6 first (omega arith)) in
    let last_is : last_field header ≡ last =
    ap (from_le_bytes w32) (field 4 12 4 first (omega arith)) in
    parts-item class header content all (kind-first first ∙ kind)
    ∙ ap (λ (n : ℕ). read_item all_classes class n (key_length_field header) (last_field header)
    content all) stamp_is
    ∙ ap (λ (n : ℕ). read_item all_classes class (stamp_field first) n (last_field header)
    content all) key_is
    ∙ ap (λ (n : ℕ). read_item all_classes class (stamp_field first) key n content all) last_is
    ∙ ap (λ (b : Bool). read_item all_classes class (stamp_field first) key last content b) whole
