-- What is read from a slot is an item of its class.
use Rattle.std.proofs.Common.{◌≡◌, ℕ, suc, ◌+◌, ◌-◌, ◌*◌, ◌<◌, ◌≤◌, Bool, true, false, cond, eqb, leb}
use Rattle.std.proofs.Common.{List, [], ◌∷◌, ◌++◌, length, take, drop, get_or, Option, None, Some}
use Rattle.std.proofs.Common.{refl, sym, ap, ◌∙◌, arith, length-append, length-drop}
use Rattle.std.specs.List.{flat_map, list_all}
use Rattle.std.proofs.lemmas.Bool.{cond-false, eqb-true, lt-leb}
use Rattle.std.proofs.lemmas.List.{length-take-le}
use Rattle.kv_model.specs.Layout.{Layout, class_of, room_of, slot_size, pages_in_slot}
use Rattle.kv_model.specs.Slots.{Never, Item, Tombstone, Bad, Torn, is_class, read_parts}
use Rattle.kv_model.specs.Slots.{read_small, read_large, stamp_field, kind_field}
use Rattle.kv_model.specs.Slots.{key_length_field, last_field, link_named}
use Rattle.kv_slot.proofs.SlotLemmas.{room_of_small, class_holds}

-- of the choices by kind, one is an item
one_item : (never item of_class whole tombstone : Bool) (number stamp : ℕ) (field : Option ℕ)
    (k v key value : List ℕ) → cond never (Never number)
    (cond item (cond of_class (cond whole (Item number k v) (Torn number)) (Bad number))
    (cond tombstone (Tombstone number field) (Bad number))) ≡ Item stamp key value
    → (of_class ≡ true) × (k ≡ key) × (v ≡ value)
one_item true item of_class whole tombstone number stamp field k v key value is = absurd (cc)
one_item false true true true tombstone number stamp field k v key value is = (refl, (cc), (cc))
one_item false true true false tombstone number stamp field k v key value is = absurd (cc)
one_item false true false whole tombstone number stamp field k v key value is = absurd (cc)
one_item false false of_class whole true number stamp field k v key value is = absurd (cc)
one_item false false of_class whole false number stamp field k v key value is = absurd (cc)

-- the class that is there
is_class-some : (found : Option ℕ) (class : ℕ) → is_class found class ≡ true → found ≡ Some class
is_class-some None class is = cc
is_class-some (Some found) class is = ap Some (eqb-true found class is)

-- key and value that are taken from a content of the class's room have their lengths
parts-fit : (layout : Layout) (class k v : ℕ) (content key value : List ℕ)
    → length content ≡ room_of class → class_of layout k v ≡ Some class → take k content ≡ key
    → take v (drop k content) ≡ value → class_of layout (length key) (length value) ≡ Some class
parts-fit layout class k v content key value room of key_is value_is =
    let holds = class_holds layout k v class of in
    let key_length : length key ≡ k = ap length (sym key_is)
    ∙ length-take-le k content (omega (arith, holds.room)) in
    let value_length : length value ≡ v = ap length (sym value_is)
    ∙ length-take-le v (drop k content) (omega (arith, holds.room, length-drop k content)) in
    ap (λ n. class_of layout n (length value)) key_length
    ∙ ap (λ n. class_of layout k n) value_length ∙ of

-- an item with this header and content has its class
item-fits : (layout : Layout) (class stamp : ℕ) (header content key value : List ℕ) (whole : Bool)
    → length content ≡ room_of class
    → read_parts layout class header content whole ≡ Item stamp key value
    → class_of layout (length key) (length value) ≡ Some class
item-fits layout class stamp header content key value whole room is =
    let one = one_item (eqb (kind_field header) 0) (eqb (kind_field header) 1)
    (is_class (class_of layout (key_length_field header) (last_field header)) class) whole
    (eqb (kind_field header) 2) (stamp_field header) stamp (link_named (last_field header))
    (take (key_length_field header) content)
    (take (last_field header) (drop (key_length_field header) content)) key value is in
    parts-fit layout class (key_length_field header) (last_field header) content key value room
    (is_class-some (class_of layout (key_length_field header) (last_field header)) class one.0)
    one.1 one.2

-- an item that is read from a slot of the classes 1 to 7 has that class
pub small-fits : (layout : Layout) (class stamp : ℕ) (bytes key value : List ℕ) → class ≤ 7
    → length bytes ≡ slot_size class → read_small layout class bytes ≡ Item stamp key value
    → class_of layout (length key) (length value) ≡ Some class
unfolding read_small
small-fits layout class stamp bytes key value small size is =
    let room = room_of_small class small in
    item-fits layout class stamp (take 16 bytes) (drop 16 bytes) key value true
    (length-drop 16 bytes ∙ omega arith) is

-- the content of later pages
length-later : (pages : List (List ℕ))
    → ((i : ℕ) → i < length pages → length (get_or pages i []) ≡ 4096)
    → length (flat_map (λ page. drop 8 page) pages) ≡ 4088 * length pages
length-later [] each = omega arith
length-later (page ∷ pages) each =
    let rest = length-later pages (λ i below. each (suc i) (omega arith)) in
    let here = each 0 (omega arith) in
    omega (
      arith,
      length-append (drop 8 page) (flat_map (λ (p : List ℕ). drop 8 p) pages),
      length-drop 8 page,
    )

-- an item that is read from the pages of a slot of the classes 8 to 11 has that class
pub large-fits : (layout : Layout) (class stamp : ℕ) (pages : List (List ℕ)) (key value : List ℕ)
    → 8 ≤ class → length pages ≡ pages_in_slot class
    → ((i : ℕ) → i < length pages → length (get_or pages i []) ≡ 4096)
    → read_large layout class pages ≡ Item stamp key value
    → class_of layout (length key) (length value) ≡ Some class
unfolding read_large
large-fits layout class stamp [] key value large count each is = absurd (cc)
large-fits layout class stamp (first ∷ later) key value large count each is =
    let room : room_of class ≡ 4080 + 4088 * (pages_in_slot class - 1) =
    cond-false (leb class 7) _ _ (lt-leb class 7 (omega arith)) in
    let here = each 0 (omega arith) in
    let rest = length-later later (λ i below. each (suc i) (omega arith)) in
    item-fits layout class stamp (take 16 first)
    (drop 16 first ++ flat_map (λ page. drop 8 page) later) key value
    (list_all (λ page. eqb (stamp_field page) (stamp_field first)) later)
    (length-append (drop 16 first) (flat_map (λ (p : List ℕ). drop 8 p) later)
    ∙ omega (arith, length-drop 16 first)) is
