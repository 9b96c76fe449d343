-- Lemmas on what the bytes of a slot read as.
use Rattle.std.proofs.Common.{◌≡◌, ℕ, ◌+◌, ◌-◌, ◌≤◌, Bool, true, false, cond, eqb, leb, List, []}
use Rattle.std.proofs.Common.{◌∷◌, ◌++◌, length, take, drop, Option, None, Some, refl, sym, ap, ◌∙◌}
use Rattle.std.proofs.Common.{inl, inr, arith, length-drop}
use Rattle.std.specs.List.{find, flat_map, list_all}
use Rattle.std.proofs.lemmas.Bool.{cases_Bool, cond-true, cond-false, eqb-true, eq-eqb, leb-true}
use Rattle.std.proofs.lemmas.Bool.{le-leb, false_from_ne_true}
use Rattle.std.proofs.lemmas.List.{length-take-le}
use Rattle.std.proofs.lemmas.Nat.{pow-add, pow_pos}
use Rattle.std.proofs.lemmas.Option.{none-some}
use Rattle.kv_model.specs.Layout.{Layout, all_classes, only_class, class_of, room_of, slot_size}
use Rattle.kv_model.specs.Layout.{is_key_length}
use Rattle.kv_model.specs.Slots.{Slot, Never, Item, Tombstone, Bad, Torn, is_class, read_item}
use Rattle.kv_model.specs.Slots.{read_parts, read_small, read_large, stamp_field, kind_field}
use Rattle.kv_model.specs.Slots.{key_length_field, last_field, link_named}
use Rattle.kv_slot.specs.Views.{of_least_class}

-- a small slot has room for all but its header
pub room_of_small : (class : ℕ) → class ≤ 7 → room_of class + 16 ≡ slot_size class
room_of_small class small =
    let room : room_of class ≡ slot_size class - 16 =
    cond-true (leb class 7) _ _ (le-leb class 7 small) in
    omega (arith, room, pow-add 2 class 5, pow_pos class)

-- what is found passes the test
find_passes : (test : ℕ → Bool) (xs : List ℕ) (x : ℕ) → find test xs ≡ Some x → test x ≡ true
find_passes test [] x found = absurd (none-some x found)
find_passes test (y ∷ ys) x found =
    elim (cases_Bool (test y)) [
      | inl pass ↦ let same : y ≡ x = cc (cond-true (test y) (Some y) (find test ys) pass) in
          ap test (sym same) ∙ pass
      | inr fail ↦ find_passes test ys x (sym (cond-false (test y) (Some y) (find test ys) fail)
          ∙ found)
    ]

-- a class that an item has may have its key and has room for it
pub record Holds (layout : Layout) (key_length value_length class : ℕ) : Type 0 where
  pub key : is_key_length layout key_length ≡ true
  pub room : key_length + value_length ≤ room_of class

pub class_holds : (layout : Layout) (key_length value_length class : ℕ)
    → class_of layout key_length value_length ≡ Some class
    → Holds layout key_length value_length class
class_holds layout key_length value_length class of =
    elim (cases_Bool (is_key_length layout key_length)) [
      | inl pass ↦ record {
        key = pass;
        room = leb-true (key_length + value_length) (room_of class)
            (find_passes (λ other. leb (key_length + value_length) (room_of other)) layout.classes
            class (sym (cond-true (is_key_length layout key_length) _ None pass) ∙ of));
      }
      | inr fail ↦
          absurd (none-some class (sym (cond-false (is_key_length layout key_length) _ None fail)
          ∙ of))
    ]

-- the class that is there
is_class_some : (found : Option ℕ) (class : ℕ) → is_class found class ≡ true → found ≡ Some class
is_class_some None class is = cc
is_class_some (Some found) class is = ap Some (eqb-true found class is)

-- the layout of one class gives that class to each item that it holds
only_class_of : (key_length value_length class : ℕ) → is_key_length all_classes key_length ≡ true
    → key_length + value_length ≤ room_of class
    → is_class (class_of (only_class class) key_length value_length) class ≡ true
only_class_of key_length value_length class key room =
    rw (
      cond-true (is_key_length all_classes key_length)
          (cond (leb (key_length + value_length) (room_of class)) (Some class) None) None key,
      le-leb (key_length + value_length) (room_of class) room,
    ) (eq-eqb class class refl)

-- with all classes, an item of kind and lengths reads as with this class alone, where this is its
-- least class
item_of_least : (class stamp key_length value_length : ℕ) (content : List ℕ)
    → length content ≡ room_of class → read_item all_classes class stamp key_length value_length
    content true ≡ of_least_class class (read_item (only_class class) class stamp key_length
    value_length content true)
item_of_least class stamp key_length value_length content room =
    elim (cases_Bool (is_class (class_of (only_class class) key_length value_length) class)) [
      | inl pass ↦
          let holds = class_holds (only_class class) key_length value_length class
          (is_class_some _ class pass) in
          let key_is : length (take key_length content) ≡ key_length =
          length-take-le key_length content (omega (arith, holds.room)) in
          let value_is : length (take value_length (drop key_length content)) ≡ value_length =
          length-take-le value_length (drop key_length content) (omega (
            arith,
            holds.room,
            length-drop key_length content,
          )) in
          sym (ap (of_least_class class)
          (cond-true (is_class (class_of (only_class class) key_length value_length) class) _
          (Bad stamp) pass)
          ∙ ap (λ n. cond
          (is_class (class_of all_classes n
          (length (take value_length (drop key_length content)))) class)
          (Item stamp (take key_length content) (take value_length (drop key_length content)))
          (Bad stamp)) key_is
          ∙ ap (λ n. cond (is_class (class_of all_classes key_length n) class)
          (Item stamp (take key_length content) (take value_length (drop key_length content)))
          (Bad stamp)) value_is)
      | inr fail ↦
          let none : is_class (class_of all_classes key_length value_length) class ≡ false =
          false_from_ne_true _ (λ is.
          let holds = class_holds all_classes key_length value_length class
          (is_class_some _ class is) in
          cc (only_class_of key_length value_length class holds.key holds.room)) in
          cond-false (is_class (class_of all_classes key_length value_length) class) _ (Bad stamp)
          none
          ∙ sym (ap (of_least_class class)
          (cond-false (is_class (class_of (only_class class) key_length value_length) class) _
          (Bad stamp) fail))
    ]

-- a choice between two readings
choice : (class : ℕ) (test : Bool) (x y x' y' : Slot) → x' ≡ of_least_class class x
    → y' ≡ of_least_class class y → cond test x' y' ≡ of_least_class class (cond test x y)
choice class true x y x' y' x_is y_is = x_is
choice class false x y x' y' x_is y_is = y_is

-- with all classes, a slot reads as with its class alone, but that an item of a lesser class is bad
pub read_of_least : (class : ℕ) (bytes : List ℕ) → length bytes ≡ room_of class + 16
    → read_small all_classes class bytes ≡ of_least_class class (read_small (only_class class) class
    bytes)
unfolding read_small
read_of_least class bytes room =
    choice class (eqb (kind_field (take 16 bytes)) 0) _ _ _ _ refl
    (choice class (eqb (kind_field (take 16 bytes)) 1) _ _ _ _
    (item_of_least class (stamp_field (take 16 bytes)) (key_length_field (take 16 bytes))
    (last_field (take 16 bytes)) (drop 16 bytes) (length-drop 16 bytes ∙ omega (arith, room)))
    (choice class (eqb (kind_field (take 16 bytes)) 2) _ _ _ _ refl refl))

-- of the choices by kind, one is a tombstone
one_tombstone : (never item of_class whole tombstone : Bool) (number stamp : ℕ)
    (field link : Option ℕ) (key value : List ℕ)
    → cond never (Never number)
    (cond item (cond of_class (cond whole (Item number key value) (Torn number)) (Bad number))
    (cond tombstone (Tombstone number field) (Bad number))) ≡ Tombstone stamp link → field ≡ link
one_tombstone true item of_class whole tombstone number stamp field link key value is = cc
one_tombstone false true true true tombstone number stamp field link key value is = cc
one_tombstone false true true false tombstone number stamp field link key value is = cc
one_tombstone false true false whole tombstone number stamp field link key value is = cc
one_tombstone false false of_class whole true number stamp field link key value is = cc
one_tombstone false false of_class whole false number stamp field link key value is = cc

-- the link of a tombstone is that of its field
link_of_parts : (layout : Layout) (class stamp : ℕ) (header content : List ℕ) (whole : Bool)
    (link : Option ℕ) → read_parts layout class header content whole ≡ Tombstone stamp link
    → link_named (last_field header) ≡ link
link_of_parts layout class stamp header content whole link is =
    one_tombstone (eqb (kind_field header) 0) (eqb (kind_field header) 1)
    (is_class (class_of layout (key_length_field header) (last_field header)) class) whole
    (eqb (kind_field header) 2) (stamp_field header) stamp (link_named (last_field header)) link
    (take (key_length_field header) content) (take (last_field header)
    (drop (key_length_field header) content)) is

pub link_of_small : (layout : Layout) (class stamp : ℕ) (bytes : List ℕ) (link : Option ℕ)
    → read_small layout class bytes ≡ Tombstone stamp link → link_named (last_field (take 16 bytes))
    ≡ link
unfolding read_small
link_of_small layout class stamp bytes link is =
    link_of_parts layout class stamp (take 16 bytes) (drop 16 bytes) true link is

pub link_of_large : (layout : Layout) (class stamp : ℕ) (page : List ℕ) (later : List (List ℕ))
    (link : Option ℕ) → read_large layout class (page ∷ later) ≡ Tombstone stamp link
    → link_named (last_field (take 16 page)) ≡ link
unfolding read_large
link_of_large layout class stamp page later link is =
    link_of_parts layout class stamp (take 16 page) (drop 16 page ++ flat_map (λ page. drop 8 page)
    later) (list_all (λ later. eqb (stamp_field later) (stamp_field page)) later) link is
