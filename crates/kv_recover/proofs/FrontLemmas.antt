-- What the first page of a large slot says, and what the slot reads as.
use Rattle.std.proofs.Common.{◌≡◌, inl, inr, ℕ, ◌≤◌, Bool, true, false, cond, leb, eqb, List, ◌∷◌}
use Rattle.std.proofs.Common.{◌++◌, length, take, drop, Option, None, refl, sym, ap, ◌∙◌, arith}
use Rattle.std.specs.List.{flat_map, list_all}
use Rattle.std.specs.FinMap as finite
use Rattle.std.proofs.lemmas.Bool.{cases_Bool, cond-false, false≢true, leb-true, and_parts}
use Rattle.std.proofs.lemmas.List.{take-append-le}
use Rattle.kv_index.specs.Entries.{Entries}
use Rattle.kv_model.specs.Layout.{all_classes, class_of, is_key_length}
use Rattle.kv_model.specs.Reading.{Reading}
use Rattle.kv_model.specs.Slots.{Slot, Never, Item, Tombstone, Bad, Torn, is_class, kind_field}
use Rattle.kv_model.specs.Slots.{key_length_field, last_field, stamp_field, link_named, read_large}
use Rattle.kv_slot.specs.Views.{read_front}
use Rattle.kv_recover.specs.Free.{is_place, is_entry}
use Rattle.kv_recover.specs.FreeLarge.{EntriesStand}
use Rattle.kv_recover.specs.Large.{slot_from}
use Rattle.kv_recover.proofs.EntryLemmas.{place_of}

-- the value in all pages
abbrev pub whole_value : List ℕ → List (List ℕ) → List ℕ
whole_value first later = take (last_field (take 16 first)) (drop (key_length_field (take 16 first))
    (drop 16 first ++ flat_map (λ page. drop 8 page) later))

by_kind : (never item dead right whole : Bool) (stamp : ℕ) (key other front value : List ℕ)
    (link : Option ℕ) → (right ≡ true → other ≡ key)
    → cond never (Never stamp) (cond item (cond right (cond whole (Item stamp other value)
    (Torn stamp)) (Bad stamp)) (cond dead (Tombstone stamp link) (Bad stamp)))
    ≡ slot_from (cond never (Never stamp) (cond item (cond right (cond true (Item stamp key front)
    (Torn stamp)) (Bad stamp)) (cond dead (Tombstone stamp link) (Bad stamp)))) whole value
by_kind true item dead right whole stamp key other front value link same = refl
by_kind false true dead true whole stamp key other front value link same =
    ap (λ k. cond whole (Item stamp k value) (Torn stamp)) (same refl)
by_kind false true dead false whole stamp key other front value link same = refl
by_kind false false true right whole stamp key other front value link same = refl
by_kind false false false right whole stamp key other front value link same = refl

-- a key of an item that has a class has at most 255 bytes
short_key : (class key_length value_length : ℕ)
    → is_class (class_of all_classes key_length value_length) class ≡ true → key_length ≤ 255
short_key class key_length value_length right =
    elim (cases_Bool (is_key_length all_classes key_length)) [
      | inl good ↦ leb-true key_length 255
          (and_parts (leb 1 key_length) (leb key_length 255) good).1
      | inr bad ↦ absurd (false≢true (sym (ap (λ o. is_class o class)
          (cond-false (is_key_length all_classes key_length) _ None bad)) ∙ right))
    ]

-- what a large slot reads as, by its first page and by whether the later ones have its stamp
pub large-front : (class : ℕ) (first : List ℕ) (later : List (List ℕ)) → 255 ≤ length (drop 16 first)
    → read_large all_classes class (first ∷ later) ≡ slot_from (read_front class first)
    (list_all (λ page. eqb (stamp_field page) (stamp_field first)) later) (whole_value first later)
unfolding read_large
large-front class first later size =
    let header = take 16 first in
    let rest = flat_map (λ page. drop 8 page) later in
    by_kind (eqb (kind_field header) 0) (eqb (kind_field header) 1) (eqb (kind_field header) 2)
    (is_class (class_of all_classes (key_length_field header) (last_field header)) class)
    (list_all (λ page. eqb (stamp_field page) (stamp_field first)) later) (stamp_field header)
    (take (key_length_field header) (drop 16 first))
    (take (key_length_field header) (drop 16 first ++ rest))
    (take (last_field header) (drop (key_length_field header) (drop 16 first)))
    (whole_value first later) (link_named (last_field header))
    (λ right. take-append-le (key_length_field header) (drop 16 first) rest
    (let short = short_key class (key_length_field header) (last_field header) right in omega arith))

front_cases : (entries : Entries) (reading : Reading) (class slot : ℕ) (front : Slot) (whole : Bool)
    (value : List ℕ) → reading class slot ≡ slot_from front whole value
    → EntriesStand entries reading
    → is_entry entries class slot (reading class slot) ≡ is_entry entries class slot front
front_cases entries reading class slot (Never stamp) whole value is stand =
    ap (is_entry entries class slot) is
front_cases entries reading class slot (Item stamp key front) true value is stand =
    ap (is_entry entries class slot) is
front_cases entries reading class slot (Item stamp key front) false value is stand =
    elim (cases_Bool (is_place (finite.get entries key) class slot)) [
      | inl entry ↦
          let at = place_of (finite.get entries key) class slot entry in
          let item = stand key at.0 at.1 in
          let there : reading class slot ≡ Item at.0.stamp key item.0 =
          ap (λ c. reading c slot) (sym at.2) ∙ ap (reading at.0.place.class) (sym at.3) ∙ item.1 in
          absurd (cc)
      | inr other ↦ ap (is_entry entries class slot) is ∙ sym other
    ]
front_cases entries reading class slot (Tombstone stamp link) whole value is stand =
    ap (is_entry entries class slot) is
front_cases entries reading class slot (Bad stamp) whole value is stand =
    ap (is_entry entries class slot) is
front_cases entries reading class slot (Torn stamp) whole value is stand =
    ap (is_entry entries class slot) is

-- whether a large slot is an entry's shows in its first page, where each entry has its item
pub entry-front : (entries : Entries) (reading : Reading) (class slot : ℕ) (first : List ℕ)
    (later : List (List ℕ)) → 255 ≤ length (drop 16 first)
    → reading class slot ≡ read_large all_classes class (first ∷ later)
    → EntriesStand entries reading
    → is_entry entries class slot (reading class slot)
    ≡ is_entry entries class slot (read_front class first)
entry-front entries reading class slot first later size is stand =
    front_cases entries reading class slot (read_front class first)
    (list_all (λ page. eqb (stamp_field page) (stamp_field first)) later) (whole_value first later)
    (is ∙ large-front class first later size) stand
