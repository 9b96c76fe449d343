-- Lemmas on the pages of a large slot.
use Rattle.std.proofs.Common.{◌≡◌, ℕ, ◌+◌, ◌-◌, ◌<◌, ◌≤◌, Bool, eqb, List, [], ◌∷◌, ◌++◌, length}
use Rattle.std.proofs.Common.{take, drop, get_or, refl, sym, ap, ◌∙◌, inl, inr, arith, append_assoc}
use Rattle.std.specs.Int.{w64, from_le_bytes}
use Rattle.std.specs.List.{flat_map, list_all}
use Rattle.std.proofs.lemmas.Bool.{cases_lt, cond-true, cond-false, eq-eqb, ne_eqb}
use Rattle.std.proofs.lemmas.List.{take-take, take_more, take_all, take-append-le, append-nil}
use Rattle.std.proofs.lemmas.List.{flat_map_more, length-take-le}
use Rattle.std.proofs.Math.Seq.{take-append-add, drop-append-add}
use Rattle.kv_model.specs.Layout.{Layout}
use Rattle.kv_model.specs.Padding.{padded}
use Rattle.kv_model.specs.Slots.{stamp_field, kind_field, key_length_field, last_field, read_item}
use Rattle.kv_model.specs.Slots.{read_parts, read_large}

-- a header of kind item is read as one
pub read_parts_item : (layout : Layout) (class : ℕ) (header content : List ℕ) (whole : Bool)
    → kind_field header ≡ 1 → read_parts layout class header content whole
    ≡ read_item layout class (stamp_field header) (key_length_field header) (last_field header)
    content whole
read_parts_item layout class header content whole item =
    cond-false (eqb (kind_field header) 0) _ _ (ne_eqb (kind_field header) 0
    (λ is. omega (arith, is, item)))
    ∙ cond-true (eqb (kind_field header) 1) _ _ (eq-eqb (kind_field header) 1 item)

-- a page begins with the stamp of its header
stamp_head : (first : List ℕ) → stamp_field (take 16 first) ≡ stamp_field first
stamp_head first = ap (from_le_bytes w64) (take-take 8 16 first (omega arith))

-- a slot of kind item is read as one
pub large_item : (layout : Layout) (class stamp kind key_length value_length : ℕ)
    (first header front : List ℕ) (later : List (List ℕ)) → header ≡ take 16 first
    → front ≡ drop 16 first → stamp ≡ stamp_field header → kind ≡ kind_field header → kind ≡ 1
    → key_length ≡ key_length_field header → value_length ≡ last_field header
    → read_large layout class (first ∷ later) ≡ read_item layout class stamp key_length value_length
    (front ++ flat_map (λ page. drop 8 page) later) (list_all (λ page. eqb (stamp_field page) stamp)
    later)
unfolding read_large
large_item layout class stamp kind key_length value_length first header front later header_is
    front_is stamp_is kind_is item key_is value_is =
    let content = drop 16 first ++ flat_map (λ page. drop 8 page) later in
    let one : kind_field (take 16 first) ≡ 1 = ap kind_field (sym header_is) ∙ sym kind_is ∙ item in
    read_parts_item layout class (take 16 first) content _ one
    ∙ ap (λ number. read_item layout class (stamp_field (take 16 first))
    (key_length_field (take 16 first)) (last_field (take 16 first)) content
    (list_all (λ page. eqb (stamp_field page) number) later)) (sym (stamp_head first))
    ∙ rw (stamp_is, key_is, value_is, header_is, front_is) refl

-- the front of bytes and more is their front and what still fits of the more
pub take-append : (count : ℕ) (xs ys : List ℕ) → take count (xs ++ ys) ≡ take count xs
    ++ take (count - length (take count xs)) ys
take-append count xs ys =
    elim (cases_lt count (length xs)) [
      | inl less ↦
          let all : length (take count xs) ≡ count = length-take-le count xs (omega arith) in
          let none : count - length (take count xs) ≡ 0 = omega arith in
          take-append-le count xs ys (omega arith) ∙ sym (append-nil (take count xs))
          ∙ ap (λ n. take count xs ++ take n ys) (sym none)
      | inr more ↦
          let all : take count xs ≡ xs = take_all count xs more in
          let left : length xs + (count - length xs) ≡ count = omega arith in
          ap (λ n. take n (xs ++ ys)) (sym left) ∙ take-append-add xs ys (count - length xs)
          ∙ ap (λ front. front ++ take (count - length front) ys) (sym all)
    ]

-- the rest of key and value, behind the key
pub drop-append-past : (count : ℕ) (xs ys : List ℕ) → length xs ≤ count
    → drop count (xs ++ ys) ≡ drop (count - length xs) ys
drop-append-past count xs ys past =
    let left : length xs + (count - length xs) ≡ count = omega arith in
    ap (λ n. drop n (xs ++ ys)) (sym left) ∙ drop-append-add xs ys (count - length xs)

-- the pages up to the next, without their heads
pub flat_map-take_more : (pages : List (List ℕ)) (n : ℕ) → n < length pages
    → flat_map (λ page. drop 8 page) (take (n + 1) pages) ≡ flat_map (λ page. drop 8 page)
    (take n pages) ++ drop 8 (get_or pages n [])
flat_map-take_more pages n within =
    ap (flat_map (λ page. drop 8 page)) (take_more pages n [] within)
    ∙ sym (flat_map_more (λ (page : List ℕ). drop 8 page) [] (take n pages) (get_or pages n []))

-- the first page's content
pub first_content : (size count : ℕ) (header key value : List ℕ) → length key ≤ count
    → padded size (header ++ key ++ take (count - length key) value)
    ≡ padded size (header ++ take count (key ++ value))
first_content size count header key value fits =
    let front : take count (key ++ value) ≡ key ++ take (count - length key) value =
    take-append count key value ∙ ap (λ bytes. bytes ++ take (count - length bytes) value)
    (take_all count key fits) in
    ap (padded size) (append_assoc header key (take (count - length key) value)
    ∙ ap (λ bytes. header ++ bytes) (sym front))

-- one more page is copied, as far as the count goes
pub copy_more : (count n : ℕ) (front copied now part : List ℕ) (later : List (List ℕ))
    → n < length later → part ≡ drop 8 (get_or later n [])
    → copied ≡ take count (front ++ flat_map (λ page. drop 8 page) (take n later))
    → now ≡ copied ++ take (count - length copied) part
    → now ≡ take count (front ++ flat_map (λ page. drop 8 page) (take (n + 1) later))
copy_more count n front copied now part later within part_is copied_is now_is =
    let before = front ++ flat_map (λ page. drop 8 page) (take n later) in
    now_is ∙ ap (λ bytes. bytes ++ take (count - length bytes) part) copied_is
    ∙ sym (take-append count before part)
    ∙ ap (take count) (ap (λ bytes. before ++ bytes) part_is
    ∙ append_assoc front _ (drop 8 (get_or later n []))
    ∙ ap (λ bytes. front ++ bytes) (sym (flat_map-take_more later n within)))
