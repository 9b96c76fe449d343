-- Lemmas that what is written stays in its place.
use Rattle.std.proofs.Common.{◌≡◌, ℕ, ◌+◌, ◌-◌, ◌*◌, ◌≤◌, eqb, leb, List, ◌++◌, length, take, drop}
use Rattle.std.proofs.Common.{replicate, refl, sym, ap, ◌∙◌, arith, append_assoc, length-append}
use Rattle.std.proofs.Common.{length-drop, length-take}
use Rattle.std.specs.Int.{w64, to_le_bytes}
use Rattle.std.proofs.lemmas.Bool.{cond_both}
use Rattle.std.proofs.lemmas.List.{take_at, drop_at, take-append-le, length-take-le, drop-drop}
use Rattle.std.proofs.lemmas.List.{drop-take, take-take, length-replicate}
use Rattle.std.proofs.lemmas.Nat.{from_le_bytes-to_le_bytes_8, pow-add, pow_pos}
use Rattle.kv_model.specs.Layout.{slot_size, page_size}
use Rattle.kv_model.specs.Padding.{padded}
use Rattle.kv_model.specs.SlotBytes.{header_bytes, item_header, item_bytes, tombstone_bytes}
use Rattle.kv_model.specs.SlotBytes.{tombstone_size, link_field, large_page}
use Rattle.kv_model.specs.Slots.{stamp_field}
use Rattle.kv_slot.specs.Laws.{OverwritesStayInPlace, HaveTheirSize, BeginWithStamp}
use Rattle.kv_slot.specs.Overwrite.{overwritten}
use Rattle.kv_slot.proofs.SlotLemmas.{class_holds, room_of_small}

-- bytes that are put over others inside a page change nothing else of it
pub stay_in_place : OverwritesStayInPlace
stay_in_place page bytes offset fits =
    let front : length (take offset page) ≡ offset = length-take-le offset page (omega arith) in
    let rest = drop (offset + length bytes) page in
    let both : length (take offset page ++ bytes) ≡ offset + length bytes =
    omega (arith, length-append (take offset page) bytes) in
    let at : drop offset (overwritten page offset bytes) ≡ bytes ++ rest =
    ap (drop offset) (append_assoc (take offset page) bytes rest)
    ∙ drop_at (take offset page) (bytes ++ rest) offset front in
    record {
      size = omega (
        arith,
        length-append (take offset page ++ bytes) rest,
        both,
        length-drop (offset + length bytes) page,
      );
      put = ap (take (length bytes)) at ∙ take_at bytes rest (length bytes) refl;
      before = λ other count below.
          let start = take offset page ++ bytes in
          sym (drop-take other count (start ++ rest))
          ∙ ap (drop other) (take-append-le (other + count) start rest (omega arith)
          ∙ take-append-le (other + count) (take offset page) bytes (omega arith)
          ∙ take-take (other + count) offset page below)
          ∙ drop-take other count page;
      behind = λ other count above.
          let end = offset + length bytes in
          let split : end + (other - end) ≡ other = omega arith in
          ap (take count) (ap (λ n. drop n (overwritten page offset bytes)) (sym split)
          ∙ sym (drop-drop (other - end) end (overwritten page offset bytes))
          ∙ ap (drop (other - end)) (drop_at (take offset page ++ bytes) rest end both)
          ∙ drop-drop (other - end) end page ∙ ap (λ n. drop n page) split);
    }

-- filled up to a size that holds them, bytes have that size
length-padded : (size : ℕ) (bytes : List ℕ) → length bytes ≤ size
    → length (padded size bytes) ≡ size
length-padded size bytes fits =
    omega (
      arith,
      length-append bytes (replicate (size - length bytes) 0),
      length-replicate {A = ℕ} (size - length bytes) 0,
    )

-- the two kinds of pages of a large slot
abbrev first_page : ℕ → List ℕ → List ℕ → List ℕ
first_page stamp key value =
    padded page_size (item_header stamp key value ++ take 4080 (key ++ value))

abbrev later_page : ℕ → List ℕ → List ℕ → ℕ → List ℕ
later_page stamp key value number =
    padded page_size (to_le_bytes w64 stamp ++ take 4088 (drop (4080 + 4088 * (number - 1))
    (key ++ value)))

-- each slot and page that is written has its size
pub have_their_size : HaveTheirSize
unfolding item_bytes tombstone_bytes large_page
have_their_size = record {
  item = λ layout class stamp key value small of.
      let holds = class_holds layout (length key) (length value) class of in
      length-padded (slot_size class) (item_header stamp key value ++ key ++ value)
      (omega (arith, holds.room, room_of_small class small, length-append key value));
  tombstone = λ class stamp link.
      length-padded (tombstone_size class) (header_bytes stamp 2 0 (link_field link))
      (cond_both (leb class 7) (slot_size class) page_size (λ n. 16 ≤ n)
      (λ _. omega (arith, pow-add 2 class 5, pow_pos class)) (λ _. omega arith));
  page = λ stamp key value number.
      cond_both (eqb number 0) (first_page stamp key value) (later_page stamp key value number)
      (λ bytes. length bytes ≡ 4096)
      (λ _. length-padded 4096 (item_header stamp key value ++ take 4080 (key ++ value))
      (omega (arith, length-take 4080 (key ++ value))))
      (λ _. length-padded 4096 (to_le_bytes w64 stamp
      ++ take 4088 (drop (4080 + 4088 * (number - 1)) (key ++ value)))
      (omega (arith, length-take 4088 (drop (4080 + 4088 * (number - 1)) (key ++ value)))));
}

-- each slot and page that is written begins with its stamp
pub begin_with_stamp : BeginWithStamp
unfolding item_bytes tombstone_bytes large_page
begin_with_stamp = record {
  item = λ class stamp key value fits. from_le_bytes-to_le_bytes_8 stamp fits;
  tombstone = λ class stamp link fits. from_le_bytes-to_le_bytes_8 stamp fits;
  page = λ stamp key value number fits.
      cond_both (eqb number 0) (first_page stamp key value) (later_page stamp key value number)
      (λ bytes. stamp_field bytes ≡ stamp) (λ _. from_le_bytes-to_le_bytes_8 stamp fits)
      (λ _. from_le_bytes-to_le_bytes_8 stamp fits);
}
