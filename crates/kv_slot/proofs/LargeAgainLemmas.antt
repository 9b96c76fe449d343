-- Lemmas that what is put in a large slot is read again.
use Rattle.std.proofs.Common.{◌≡◌, ◌≢◌, ℕ, zero, suc, ◌+◌, ◌-◌, ◌*◌, ◌^◌, ◌<◌, ◌≤◌, true, false}
use Rattle.std.proofs.Common.{cond, eqb, leb, List, [], ◌∷◌, ◌++◌, length, map, set, take, drop}
use Rattle.std.proofs.Common.{replicate, Some, refl, sym, ap, ◌∙◌, inl, inr, arith, append_assoc}
use Rattle.std.proofs.Common.{length-append, add-one}
use Rattle.std.specs.Int.{w16, w32, from_le_bytes, to_le_bytes}
use Rattle.std.specs.List.{flat_map, list_all, range_with_len}
use Rattle.std.proofs.lemmas.Bool.{cases_lt, cond-true, cond-false, eq-eqb, ne_eqb, lt-leb}
use Rattle.std.proofs.lemmas.Bool.{and_from, and_left, and_right}
use Rattle.std.proofs.lemmas.List.{take_all, drop_all, drop-drop, append-nil, length-take-le}
use Rattle.std.proofs.lemmas.List.{replicate-append-replicate}
use Rattle.std.proofs.lemmas.Nat.{from_le_bytes-to_le_bytes_2, from_le_bytes-to_le_bytes_4}
use Rattle.std.proofs.lemmas.Nat.{from_le_bytes-to_le_bytes_8, pow_pos}
use Rattle.std.proofs.lemmas.List.FromFn.{length-map-range_with_len}
use Rattle.kv_model.specs.Layout.{Layout, class_of, room_of, pages_in_slot}
use Rattle.kv_model.specs.Padding.{padded}
use Rattle.kv_model.specs.SlotBytes.{large_page, large_pages}
use Rattle.kv_model.specs.Slots.{Item, Bad, Torn, is_class, stamp_field, read_item, read_large}
use Rattle.kv_base.proofs.StreamLemmas.{take-add}
use Rattle.kv_slot.specs.Laws.{LargeItemsReadAgain, OtherStampsTear}
use Rattle.kv_slot.proofs.AgainLemmas.{item_is, room_limit}
use Rattle.kv_slot.proofs.SlotLemmas.{class_holds}

-- a later page begins with the stamp
later_stamp : (stamp : ℕ) (key value : List ℕ) (page : ℕ) → stamp < 2 ^ 64 → 1 ≤ page
    → stamp_field (large_page stamp key value page) ≡ stamp
unfolding large_page
later_stamp stamp key value page fits later =
    ap stamp_field (cond-false (eqb page 0) _ _ (ne_eqb page 0 (λ is. omega (arith, is))))
    ∙ from_le_bytes-to_le_bytes_8 stamp fits

-- behind its head a later page has its part of key and value, filled up
later_content : (stamp : ℕ) (key value : List ℕ) (page : ℕ) → 1 ≤ page
    → drop 8 (large_page stamp key value page)
    ≡ padded 4088 (take 4088 (drop (4080 + 4088 * (page - 1)) (key ++ value)))
unfolding large_page
later_content stamp key value page later =
    ap (drop 8) (cond-false (eqb page 0) _ _ (ne_eqb page 0 (λ is. omega (arith, is))))
    ∙ ap (λ count. take 4088 (drop (4080 + 4088 * (page - 1)) (key ++ value)) ++ replicate count 0)
    (omega arith)

-- two fronts of bytes that follow one another, each filled up, are one
padded-append : (a b : ℕ) (bytes : List ℕ)
    → padded a (take a bytes) ++ padded b (take b (drop a bytes))
    ≡ padded (a + b) (take (a + b) bytes)
padded-append a b bytes =
    elim (cases_lt a (length bytes)) [
      | inl more ↦
          let full : length (take a bytes) ≡ a = length-take-le a bytes (omega arith) in
          let none : a - length (take a bytes) ≡ 0 = omega arith in
          let front : padded a (take a bytes) ≡ take a bytes =
          ap (λ count. take a bytes ++ replicate count 0) none
          ∙ append-nil (take a bytes) in
          let both : take (a + b) bytes ≡ take a bytes ++ take b (drop a bytes) =
          take-add a b bytes in
          let count : b - length (take b (drop a bytes)) ≡ a + b - length (take (a + b) bytes) =
          omega (
            arith,
            ap length both,
            length-append (take a bytes)
                (take b (drop a bytes)),
          ) in
          ap (λ start. start ++ padded b (take b (drop a bytes))) front
          ∙ sym (append_assoc (take a bytes) (take b (drop a bytes))
          (replicate (b - length (take b (drop a bytes))) 0))
          ∙ ap (λ start. start ++ replicate (b - length (take b (drop a bytes))) 0) (sym both)
          ∙ ap (λ n. take (a + b) bytes ++ replicate n 0) count
      | inr less ↦
          let all : take a bytes ≡ bytes = take_all a bytes less in
          let rest : take b (drop a bytes) ≡ [] = ap (take b) (drop_all a bytes less)
          ∙ take_all b [] (omega arith) in
          let whole : take (a + b) bytes ≡ bytes = take_all (a + b) bytes (omega arith) in
          let count : a - length bytes + b ≡ a + b - length bytes = omega arith in
          ap (λ start. padded a start ++ padded b (take b (drop a bytes))) all
          ∙ ap (λ end. padded a bytes ++ end) (ap (padded b) rest
          ∙ ap (λ n. replicate n 0) (omega arith))
          ∙ append_assoc bytes (replicate (a - length bytes) 0) (replicate b 0)
          ∙ ap (λ zeros. bytes ++ zeros) (replicate-append-replicate (a - length bytes) b 0
          ∙ ap (λ n. replicate n 0) count)
          ∙ ap (padded (a + b)) (sym whole)
    ]

-- the later pages from this one on, without their heads, have what follows of key and value, filled
-- up
later_contents : (stamp : ℕ) (key value : List ℕ) (page count : ℕ) → 1 ≤ page
    → flat_map (λ bytes. drop 8 bytes) (map (large_page stamp key value)
    (range_with_len page count))
    ≡ padded (4088 * count) (take (4088 * count) (drop (4080 + 4088 * (page - 1)) (key ++ value)))
later_contents stamp key value page zero later = refl
later_contents stamp key value page (suc count) later =
    let left = drop (4080 + 4088 * (page - 1)) (key ++ value) in
    let on : drop (4080 + 4088 * (page + 1 - 1)) (key ++ value) ≡ drop 4088 left =
    ap (λ n. drop n (key ++ value)) (omega arith)
    ∙ sym (drop-drop 4088 (4080 + 4088 * (page - 1)) (key ++ value)) in
    let more : 4088 + 4088 * count ≡ 4088 * suc count = omega arith in
    ap (λ bytes. bytes ++ flat_map (λ bytes. drop 8 bytes) (map (large_page stamp key value)
    (range_with_len (page + 1) count))) (later_content stamp key value page later)
    ∙ ap (λ bytes. padded 4088 (take 4088 left) ++ bytes) (later_contents stamp key value (page + 1)
    count (omega arith) ∙ ap (λ bytes. padded (4088 * count) (take (4088 * count) bytes)) on)
    ∙ padded-append 4088 (4088 * count) left ∙ ap (λ n. padded n (take n left)) more

-- all later pages begin with the stamp
later_stamps : (stamp : ℕ) (key value : List ℕ) (page count : ℕ) → stamp < 2 ^ 64 → 1 ≤ page
    → list_all (λ bytes. eqb (stamp_field bytes) stamp) (map (large_page stamp key value)
    (range_with_len page count)) ≡ true
later_stamps stamp key value page zero fits later = refl
later_stamps stamp key value page (suc count) fits later =
    and_from _ _ (eq-eqb _ stamp (later_stamp stamp key value page fits later))
    (later_stamps stamp key value (page + 1) count fits (omega arith))

-- but not where one of them has another
other_stamp : (stamp : ℕ) (pages : List (List ℕ)) (number : ℕ) (page : List ℕ)
    → number < length pages → stamp_field page ≢ stamp
    → list_all (λ bytes. eqb (stamp_field bytes) stamp) (set pages number page) ≡ false
other_stamp stamp [] number page within other = absurd (omega (arith, within))
other_stamp stamp (first ∷ pages) zero page within other =
    and_left _ _ (ne_eqb (stamp_field page) stamp other)
other_stamp stamp (first ∷ pages) (suc number) page within other =
    and_right _ _ (other_stamp stamp pages number page (omega (arith, within)) other)

-- behind its header the first page has the front of key and value, filled up
first_rest : (stamp : ℕ) (key value : List ℕ) → drop 16 (large_page stamp key value 0)
    ≡ padded 4080 (take 4080 (key ++ value))
unfolding large_page
first_rest stamp key value =
    ap (λ count. take 4080 (key ++ value) ++ replicate count 0) (omega arith)

-- what a slot reads as that begins with the first page of an item
first_read : (layout : Layout) (class stamp : ℕ) (key value : List ℕ) (later : List (List ℕ))
    → class_of layout (length key) (length value) ≡ Some class → stamp < 2 ^ 64
    → length key + length value ≤ 65400
    → read_large layout class (large_page stamp key value 0 ∷ later)
    ≡ cond (list_all (λ page. eqb (stamp_field page) stamp) later)
    (Item stamp (take (length key) (drop 16 (large_page stamp key value 0)
    ++ flat_map (λ page. drop 8 page) later))
    (take (length value) (drop (length key) (drop 16 (large_page stamp key value 0)
    ++ flat_map (λ page. drop 8 page) later)))) (Torn stamp)
unfolding read_large large_page
first_read layout class stamp key value later of fits room =
    let content = drop 16 (large_page stamp key value 0) ++ flat_map (λ page. drop 8 page) later in
    let right : is_class (class_of layout (length key) (length value)) class ≡ true =
    ap (λ found. is_class found class) of ∙ eq-eqb class class refl in
    let key_field = from_le_bytes w16 (to_le_bytes w16 (length key)) in
    let value_field = from_le_bytes w32 (to_le_bytes w32 (length value)) in
    ap (λ number. read_item layout class number key_field value_field content
    (list_all (λ page. eqb (stamp_field page) number) later)) (from_le_bytes-to_le_bytes_8 stamp
    fits)
    ∙ ap (λ number. read_item layout class stamp number value_field content
    (list_all (λ page. eqb (stamp_field page) stamp) later)) (from_le_bytes-to_le_bytes_2
    (length key) (omega arith))
    ∙ ap (λ number. read_item layout class stamp (length key) number content
    (list_all (λ page. eqb (stamp_field page) stamp) later)) (from_le_bytes-to_le_bytes_4
    (length value) (omega arith))
    ∙ cond-true (is_class (class_of layout (length key) (length value)) class) _ _ right

-- the pages are the first and the later ones
pages_split : (class stamp count : ℕ) (key value : List ℕ) → count + 1 ≡ pages_in_slot class
    → large_pages class stamp key value ≡ large_page stamp key value 0
    ∷ map (large_page stamp key value) (range_with_len 1 count)
pages_split class stamp count key value split =
    ap (λ n. map (large_page stamp key value) (range_with_len 0 n)) (sym split ∙ add-one count)

-- the content of an item's pages
pages_content : ℕ → List ℕ → List ℕ → ℕ → List ℕ
pages_content stamp key value count =
    drop 16 (large_page stamp key value 0) ++ flat_map (λ page. drop 8 page)
    (map (large_page stamp key value) (range_with_len 1 count))

-- an item's key and value, from the content of its pages
parts_of : (layout : Layout) (class stamp count : ℕ) (key value : List ℕ)
    → class_of layout (length key) (length value) ≡ Some class
    → length key + length value ≤ 4080 + 4088 * count
    → Item stamp (take (length key) (pages_content stamp key value count))
    (take (length value) (drop (length key) (pages_content stamp key value count)))
    ≡ Item stamp key value
unfolding pages_content
parts_of layout class stamp count key value of room =
    let all : take (4080 + 4088 * count) (key ++ value) ≡ key ++ value =
    take_all (4080 + 4088 * count) (key ++ value)
    (omega (arith, length-append key value)) in
    let right : is_class (class_of layout (length key) (length value)) class ≡ true =
    ap (λ found. is_class found class) of ∙ eq-eqb class class refl in
    sym (cond-true (is_class (class_of layout (length key) (length value)) class) _ (Bad stamp)
    right)
    ∙ item_is layout class stamp key value _ stamp (length key) (length value)
    (pages_content stamp key value count) of refl refl refl
    (ap (λ start. start ++ flat_map (λ page. drop 8 page) (map (large_page stamp key value)
    (range_with_len 1 count))) (first_rest stamp key value)
    ∙ ap (λ end. padded 4080 (take 4080 (key ++ value)) ++ end) (later_contents stamp key value 1
    count (omega arith))
    ∙ padded-append 4080 (4088 * count) (key ++ value) ∙ ap (padded (4080 + 4088 * count)) all)

-- the room of a large slot, by its later pages
room_of_large : (class : ℕ) → 8 ≤ class → (count : ℕ) × (count + 1 ≡ pages_in_slot class)
    × (room_of class ≡ 4080 + 4088 * count)
room_of_large class large =
    let room : room_of class ≡ 4080 + 4088 * (pages_in_slot class - 1) =
    cond-false (leb class 7) _ _ (lt-leb class 7 (omega arith)) in
    (pages_in_slot class - 1, omega (arith, pow_pos (class - 7)), room)

-- an item that is put is read again
pub large_items_again : LargeItemsReadAgain
unfolding pages_content
large_items_again layout class stamp key value large limit fits of =
    let holds = class_holds layout (length key) (length value) class of in
    let split = room_of_large class large in
    let later = map (large_page stamp key value) (range_with_len 1 split.0) in
    let room : length key + length value ≤ 65400 =
    omega (arith, holds.room, room_limit class limit) in
    let whole : list_all (λ page. eqb (stamp_field page) stamp) later ≡ true =
    later_stamps stamp key value 1 split.0 fits (omega arith) in
    ap (read_large layout class) (pages_split class stamp split.0 key value split.1)
    ∙ first_read layout class stamp key value later of fits room
    ∙ cond-true (list_all (λ page. eqb (stamp_field page) stamp) later) _ (Torn stamp) whole
    ∙ parts_of layout class stamp split.0 key value of (omega (arith, holds.room, split.2))

-- an item whose later pages have another stamp is torn
other_tears : (layout : Layout) (class stamp : ℕ) (key value : List ℕ) (number : ℕ) (page : List ℕ)
    → 8 ≤ class → stamp < 2 ^ 64 → length key + length value ≤ 65400
    → class_of layout (length key) (length value) ≡ Some class → 1 ≤ number
    → number < pages_in_slot class → stamp_field page ≢ stamp
    → read_large layout class (set (large_pages class stamp key value) number page) ≡ Torn stamp
other_tears layout class stamp key value zero page large fits room of later within other =
    absurd (omega (arith, later))
other_tears layout class stamp key value (suc number) page large fits room of later within other =
    let split = room_of_large class large in
    let pages = map (large_page stamp key value) (range_with_len 1 split.0) in
    let inside : number < length pages =
    omega (
      arith,
      length-map-range_with_len (large_page stamp key value) 1 split.0,
      split.1,
      within,
    ) in
    ap (λ all. read_large layout class (set all (suc number) page)) (pages_split class stamp split.0
    key value split.1)
    ∙ first_read layout class stamp key value (set pages number page) of fits room
    ∙ cond-false (list_all (λ bytes. eqb (stamp_field bytes) stamp) (set pages number page)) _
    (Torn stamp) (other_stamp stamp pages number page inside other)

pub other_stamps_tear : OtherStampsTear
other_stamps_tear layout class stamp key value number page large limit fits of =
    let holds = class_holds layout (length key) (length value) class of in
    other_tears layout class stamp key value number page large fits (omega (
      arith,
      holds.room,
      room_limit class limit,
    )) of
