-- Lemmas that what is put is read again.
use Rattle.std.proofs.Common.{◌≡◌, ℕ, ◌+◌, ◌-◌, ◌*◌, ◌^◌, ◌<◌, ◌≤◌, true, eqb, leb, List, ◌++◌}
use Rattle.std.proofs.Common.{length, take, drop, Option, None, Some, IfSome, refl, ap, ◌∙◌, inl}
use Rattle.std.proofs.Common.{inr, arith, append_assoc}
use Rattle.std.specs.Int.{w32, from_le_bytes, to_le_bytes}
use Rattle.std.proofs.lemmas.Bool.{cases_lt, cond-true, cond-false, eq-eqb, lt-leb, ne_eqb}
use Rattle.std.proofs.lemmas.List.{take_at, drop_at}
use Rattle.std.proofs.lemmas.Nat.{from_le_bytes-to_le_bytes_2, from_le_bytes-to_le_bytes_4}
use Rattle.std.proofs.lemmas.Nat.{from_le_bytes-to_le_bytes_8}
use Rattle.std.proofs.Math.Pow.{pow_mono}
use Rattle.kv_model.specs.Layout.{Layout, class_of, room_of}
use Rattle.kv_model.specs.SlotBytes.{item_bytes, link_field, tombstone_bytes}
use Rattle.kv_model.specs.Slots.{Item, Tombstone, is_class, link_named, read_item, read_small}
use Rattle.kv_model.specs.Slots.{read_large}
use Rattle.kv_slot.specs.Laws.{ItemsReadAgain, TombstonesReadAgain, LargeTombstonesReadAgain}
use Rattle.kv_slot.proofs.SlotLemmas.{class_holds, room_of_small}

-- no slot has more room
pub room_limit : (class : ℕ) → class ≤ 11 → room_of class ≤ 65400
room_limit class limit =
    elim (cases_lt class 8) [
      | inl small ↦
          let size : 2 ^ (class + 5) ≤ 2 ^ 12 = pow_mono {i = class + 5} {j = 12} (omega arith) in
          omega (arith, room_of_small class (omega arith), size)
      | inr large ↦
          let room : room_of class ≡ 4080 + 4088 * (2 ^ (class - 7) - 1) =
          cond-false (leb class 7) _ _ (lt-leb class 7 (omega arith)) in
          let pages : 2 ^ (class - 7) ≤ 2 ^ 4 = pow_mono {i = class - 7} {j = 4} (omega arith) in
          omega (arith, room, pages)
    ]

-- an item of its class, from its fields and its content
pub item_is : (layout : Layout) (class stamp : ℕ) (key value rest : List ℕ)
    (number key_length value_length : ℕ) (content : List ℕ)
    → class_of layout (length key) (length value) ≡ Some class → number ≡ stamp
    → key_length ≡ length key → value_length ≡ length value → content ≡ key ++ value ++ rest
    → read_item layout class number key_length value_length content true ≡ Item stamp key value
item_is layout class stamp key value rest number key_length value_length content of number_is key_is
    value_is content_is =
    let right : is_class (class_of layout (length key) (length value)) class ≡ true =
    ap (λ found. is_class found class) of ∙ eq-eqb class class refl in
    let regrouped : content ≡ key ++ (value ++ rest) = content_is ∙ append_assoc key value rest in
    let front : take (length key) content ≡ key = ap (take (length key)) regrouped
    ∙ take_at key (value ++ rest) _ refl in
    let back : take (length value) (drop (length key) content) ≡ value =
    ap (λ bytes. take (length value) (drop (length key) bytes)) regrouped
    ∙ ap (take (length value)) (drop_at key (value ++ rest) _ refl)
    ∙ take_at value rest _ refl in
    rw (number_is, key_is, value_is)
    (cond-true (is_class (class_of layout (length key) (length value)) class) _ _ right
    ∙ ap (λ bytes. Item stamp bytes (take (length value) (drop (length key) content))) front
    ∙ ap (Item stamp key) back)

-- an item that is put is read again
pub items_again : ItemsReadAgain
unfolding read_small item_bytes
items_again layout class stamp key value small fits of =
    let holds = class_holds layout (length key) (length value) class of in
    let room : length key + length value ≤ 65400 =
    omega (arith, holds.room, room_limit class (omega arith)) in
    item_is layout class stamp key value _ _ _ _ _ of (from_le_bytes-to_le_bytes_8 stamp fits)
    (from_le_bytes-to_le_bytes_2 (length key) (omega arith)) (from_le_bytes-to_le_bytes_4
    (length value) (omega arith)) refl

-- a link that is put is read again
link_again : (link : Option ℕ) → IfSome link (λ slot. slot < 2 ^ 24)
    → link_named (from_le_bytes w32 (to_le_bytes w32 (link_field link))) ≡ link
link_again None fits = refl
link_again (Some slot) fits =
    ap link_named (from_le_bytes-to_le_bytes_4 (slot + 1) (omega (arith, fits)))
    ∙ cond-false (eqb (slot + 1) 0) None (Some (slot + 1 - 1))
    (ne_eqb (slot + 1) 0 (λ is. omega (arith, is))) ∙ ap Some (omega arith)

-- a tombstone that is put is read again
pub tombstones_again : TombstonesReadAgain
unfolding read_small tombstone_bytes
tombstones_again layout class stamp link fits below =
    ap (λ number. Tombstone number
    (link_named (from_le_bytes w32 (to_le_bytes w32 (link_field link)))))
    (from_le_bytes-to_le_bytes_8 stamp fits) ∙ ap (Tombstone stamp) (link_again link below)

-- the same for a large one
pub large_tombstones_again : LargeTombstonesReadAgain
unfolding read_large tombstone_bytes
large_tombstones_again layout class stamp link later fits below =
    ap (λ number. Tombstone number
    (link_named (from_le_bytes w32 (to_le_bytes w32 (link_field link)))))
    (from_le_bytes-to_le_bytes_8 stamp fits) ∙ ap (Tombstone stamp) (link_again link below)
