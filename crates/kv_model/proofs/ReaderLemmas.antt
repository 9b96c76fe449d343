-- Lemmas on what a plain reader answers: the items that are found and kept, the floor, free slots.
use Rattle.std.proofs.Common.{◌≡◌, ◌↔◌, ℕ, ◌<◌, ◌≤◌, ◌⊎◌, inl, inr, Bool, true, false, cond, eqb}
use Rattle.std.proofs.Common.{ltb, not, ◌&&◌, ◌||◌, List, [], ◌∷◌, map, slice_index, refl, sym}
use Rattle.std.proofs.Common.{◌∙◌, subst, arith, Contains, get_or, ◌^◌}
use Rattle.std.proofs.lemmas.Bool.{false≢true}
use Rattle.std.specs.List.{AllByRecursion, list_all, list_any, range_with_len}
use Rattle.std.specs.Str.{bytes_eq}
use Rattle.std.proofs.lemmas.Bool.{cases_lt, eq-eqb, eqb-true, ltb-true, leb-true, lt-ltb, le-leb}
use Rattle.std.proofs.lemmas.Slice.Eq.{bytes_eq-Decides}
use Rattle.kv_base.specs.Image.{Image}
use Rattle.kv_base.specs.Partition.{owner_of}
use Rattle.kv_base.specs.declared.place.Place.{Place}
use Rattle.kv_model.specs.declared.stored.Stored.{Stored}
use Rattle.kv_model.specs.FreeSlots.{AreFree}
use Rattle.kv_model.specs.Layout.{all_classes}
use Rattle.kv_model.specs.Plain.{parts_of, AreEnds, place_at, places_in, places_of}
use Rattle.kv_model.specs.Plain.{item_in, found_in, heads_in, copy_of, is_up_to, is_first, kept_of}
use Rattle.kv_model.specs.Plain.{is_at, free_in, AreKept, HasKept, AreBelow, IsGreatest}
use Rattle.std.proofs.lemmas.List.Elements.{Contains-get_or}
use Rattle.kv_model.specs.Reading.{Copy, IsFound, IsKept, IsPreferred, IsFloor, slot_at}
use Rattle.kv_model.specs.Reading.{heads_at, has_class}
use Rattle.kv_model.specs.Slots.{Slot, Never, Item, Tombstone, Bad, Torn, stamp_field}
use Rattle.kv_model.proofs.ContainsLemmas.{Contains-first, All-members}
use Rattle.kv_model.proofs.ListedLemmas.{and-both, and-join, none, only, range-has, in-range}
use Rattle.kv_model.proofs.ListedLemmas.{map-has, in-map, flat_map-has, in-flat_map, filter-has}
use Rattle.kv_model.proofs.ListedLemmas.{in-filter, all-each, each-all, none-any, any-none}
use Rattle.kv_model.proofs.ListedLemmas.{filter-rises}
use Rattle.kv_model.proofs.PlainLemmas.{has_class-some, has_class-within, slot_at-parts}
use Rattle.kv_model.proofs.PlainLemmas.{heads_at-parts, slot_at-lacks, heads_at-lacks, zeros-never}
use Rattle.kv_model.proofs.PlainLemmas.{zeros-heads}

-- the slots below the ends are listed, and no others
places-have : (ends : List ℕ) (place : Place) → 1 ≤ place.class → place.class ≤ 11
    → place.slot < slice_index ends place.class → Contains (places_of ends) place
places-have ends place low high below =
    flat_map-has (places_in ends) (range_with_len 1 11) place.class place
    (range-has 1 11 place.class low (omega arith))
    (map-has (place_at place.class) (range_with_len 0 (slice_index ends place.class)) place.slot
    (range-has 0 (slice_index ends place.class) place.slot (omega arith) (omega arith)))

abbrev IsListed : List ℕ → Place → Type 0
IsListed ends place = (1 ≤ place.class) × (place.class ≤ 11)
    × (place.slot < slice_index ends place.class)

pub in-places : (ends : List ℕ) (place : Place) → Contains (places_of ends) place
    → IsListed ends place
in-places ends place has =
    let h = in-flat_map (places_in ends) (range_with_len 1 11) place has in
    let class = in-range 1 11 h.0 h.1 in
    let m = in-map (place_at h.0) (range_with_len 0 (slice_index ends h.0)) place h.2 in
    let slot = in-range 0 (slice_index ends h.0) m.0 m.1 in
    let low : 1 ≤ h.0 = class.0 in
    let high : h.0 ≤ 11 = omega (arith, class.1) in
    let below : m.0 < slice_index ends h.0 = omega (arith, slot.1) in
    subst (IsListed ends) m.2 (low, high, below)

abbrev stored_at : Place → ℕ → List ℕ → List ℕ → Stored
stored_at place stamp key value =
    record { key = key; stamp = stamp; value = value; place = place }

-- the item of a slot is what stands there
item_in-is : (worker workers : ℕ) (place : Place) (what : Slot) (item : Stored)
    → Contains (item_in worker workers place what) item
    → (what ≡ Item item.stamp item.key item.value) × (owner_of item.key workers ≡ worker)
    × (place ≡ item.place)
item_in-is worker workers place (Never stamp) item has = absurd (none item has)
item_in-is worker workers place (Item stamp key value) item has =
    by (eqb (owner_of key workers) worker) refl has
  where
    by : (b : Bool) → eqb (owner_of key workers) worker ≡ b → Contains (cond b (stored_at place
        stamp key value ∷ []) []) item
        → (Item stamp key value ≡ Item item.stamp item.key item.value)
        × (owner_of item.key workers ≡ worker) × (place ≡ item.place)
    by true is has = subst (λ (i : Stored). (Item stamp key value ≡ Item i.stamp i.key i.value)
        × (owner_of i.key workers ≡ worker) × (place ≡ i.place)) (only (stored_at place stamp key value)
        item has)
        (refl, eqb-true (owner_of key workers) worker is, refl)
    by false is has = absurd (none item has)
item_in-is worker workers place (Tombstone stamp link) item has = absurd (none item has)
item_in-is worker workers place (Bad stamp) item has = absurd (none item has)
item_in-is worker workers place (Torn stamp) item has = absurd (none item has)

item_in-has : (worker workers : ℕ) (item : Stored) → owner_of item.key workers ≡ worker
    → Contains (item_in worker workers item.place (Item item.stamp item.key item.value)) item
item_in-has worker workers item owned =
    subst (λ (b : Bool). Contains (cond b (item ∷ []) []) item)
    (sym (eq-eqb (owner_of item.key workers) worker owned)) (Contains-first item [])

or-cases : (a b : Bool) → (a || b) ≡ true → (a ≡ true) ⊎ (b ≡ true)
or-cases true b e = inl refl
or-cases false b e = inr e

or-left : (a b : Bool) → a ≡ true → (a || b) ≡ true
or-left true b e = refl
or-left false b e = absurd (false≢true e)

or-right : (a b : Bool) → b ≡ true → (a || b) ≡ true
or-right true b e = refl
or-right false b e = e

up-to-is : (place other : Place) → is_up_to place other ≡ true
    → (place.class < other.class) ⊎ ((place.class ≡ other.class) × (place.slot ≤ other.slot))
up-to-is place other e = elim (or-cases (ltb place.class other.class) _ e) [
  | inl less ↦ inl (ltb-true place.class other.class less)
  | inr same ↦ let both = and-both (eqb place.class other.class) _ same in
      inr (eqb-true place.class other.class both.0, leb-true place.slot other.slot both.1)
]

is-up-to : (place other : Place)
    → (place.class < other.class) ⊎ ((place.class ≡ other.class) × (place.slot ≤ other.slot))
    → is_up_to place other ≡ true
is-up-to place other (inl less) =
    or-left (ltb place.class other.class) _ (lt-ltb place.class other.class less)
is-up-to place other (inr same) = or-right (ltb place.class other.class) _
    (and-join (eqb place.class other.class) _ (eq-eqb place.class other.class same.0)
    (le-leb place.slot other.slot same.1))

-- of two items of one key the first is preferred where it is tested so
first-preferred : (item other : Stored) → is_first item other ≡ true → other.key ≡ item.key
    → IsPreferred (copy_of item) (copy_of other)
first-preferred item other e same =
    let rest = ltb other.stamp item.stamp || (eqb item.stamp other.stamp
    && is_up_to item.place other.place) in
    let first : rest ≡ true = subst (λ (b : Bool). (not b || rest) ≡ true)
    ((bytes_eq-Decides other.key item.key).1 same) e in
    elim (or-cases (ltb other.stamp item.stamp) _ first) [
      | inl less ↦ inl (ltb-true other.stamp item.stamp less)
      | inr equal ↦ let both = and-both (eqb item.stamp other.stamp) _ equal in
          inr (
            eqb-true item.stamp other.stamp both.0,
            up-to-is item.place other.place both.1,
          )
    ]

preferred-first : (item other : Stored)
    → (other.key ≡ item.key → IsPreferred (copy_of item) (copy_of other))
    → is_first item other ≡ true
preferred-first item other preferred = by (bytes_eq other.key item.key) refl
  where
    less : IsPreferred (copy_of item) (copy_of other)
        → (ltb other.stamp item.stamp || (eqb item.stamp other.stamp
        && is_up_to item.place other.place)) ≡ true
    less (inl below) =
        or-left (ltb other.stamp item.stamp) _ (lt-ltb other.stamp item.stamp below)
    less (inr same) = or-right (ltb other.stamp item.stamp) _
        (and-join (eqb item.stamp other.stamp) _ (eq-eqb item.stamp other.stamp same.0)
        (is-up-to item.place other.place same.1))

    by : (b : Bool) → bytes_eq other.key item.key ≡ b → (not b || (ltb other.stamp item.stamp
        || (eqb item.stamp other.stamp && is_up_to item.place other.place))) ≡ true
    by true is = less (preferred ((bytes_eq-Decides other.key item.key).0 is))
    by false is = refl

module _ (image : Image) (ends : List ℕ) (ends_are : AreEnds image ends) where
  -- the numbers that were listed are the floor
  pub floor-is : (floor : ℕ) → IsGreatest (heads_in image (places_of ends)) floor
      → IsFloor (heads_at all_classes image) floor
  floor-is floor greatest = record {
    above = λ class slot. all class slot (has_class all_classes class) refl;
    one = elim greatest.one [
      | inl nothing ↦ inl nothing
      | inr has ↦
          let h = in-flat_map (λ (place : Place). map stamp_field (parts_of image place.class
          place.slot)) (places_of ends) floor has in
          let listed = in-places ends h.0 h.1 in
          inr (
            h.0.class,
            h.0.slot,
            subst (λ (heads : List ℕ). Contains heads floor)
                (sym (heads_at-parts image h.0.class h.0.slot
                (has_class-some h.0.class listed.0 listed.1))) h.2,
          )
    ];
  }
    where
      all : (class slot : ℕ) (b : Bool) → has_class all_classes class ≡ b
          → AllByRecursion (λ stamp. stamp ≤ floor) (heads_at all_classes image class slot)
      all class slot true has =
          let within = has_class-within class has in
          subst (λ (heads : List ℕ). AllByRecursion (λ stamp. stamp ≤ floor) heads)
          (sym (heads_at-parts image class slot has))
          (elim (cases_lt slot (slice_index ends class)) [
            | inl below ↦ All-members (λ stamp. stamp ≤ floor)
                (map stamp_field (parts_of image class slot)) (λ number there. greatest.above
                number
                (flat_map-has (λ (place : Place). map stamp_field (parts_of image place.class
                place.slot)) (places_of ends) (place_at class slot) number
                (places-have ends (place_at class slot) within.0 within.1 below) there))
            | inr past ↦ zeros-heads floor (parts_of image class slot)
                ((ends_are class within.0 within.1).rest slot past)
          ])
      all class slot false lacks =
          subst (λ (heads : List ℕ). AllByRecursion (λ stamp. stamp ≤ floor) heads)
          (sym (heads_at-lacks image class slot lacks)) tt

  module _ (worker workers : ℕ) where
    found-is : (item : Stored) → Contains (found_in image worker workers (places_of ends)) item
        → IsFound (slot_at all_classes image) worker workers item.key (copy_of item)
    found-is item has =
        let h = in-flat_map (λ (place : Place). item_in worker workers place
        (slot_at all_classes image place.class place.slot)) (places_of ends) item has in
        let is = item_in-is worker workers h.0 (slot_at all_classes image h.0.class h.0.slot) item
        h.2 in
        record {
          stands = subst (λ (place : Place). slot_at all_classes image place.class place.slot
              ≡ Item item.stamp item.key item.value) is.2 is.0;
          owned = is.1;
        }

    is-found : (item : Stored)
        → IsFound (slot_at all_classes image) worker workers item.key (copy_of item)
        → Contains (found_in image worker workers (places_of ends)) item
    is-found item found = by (has_class all_classes item.place.class) refl
      where
        by : (b : Bool) → has_class all_classes item.place.class ≡ b
            → Contains (found_in image worker workers (places_of ends)) item
        by true has =
            let within = has_class-within item.place.class has in
            elim (cases_lt item.place.slot (slice_index ends item.place.class)) [
              | inl below ↦ flat_map-has (λ (place : Place). item_in worker workers place
                  (slot_at all_classes image place.class place.slot)) (places_of ends) item.place
                  item (places-have ends item.place within.0 within.1 below)
                  (subst (λ (what : Slot). Contains (item_in worker workers item.place what) item)
                  (sym found.stands) (item_in-has worker workers item found.owned))
              | inr past ↦
                  let never = zeros-never item.place.class
                  (parts_of image item.place.class item.place.slot)
                  ((ends_are item.place.class within.0 within.1).rest item.place.slot past) in
                  let apart : Never never.0 ≡ Item item.stamp item.key item.value =
                  sym never.1 ∙ sym (slot_at-parts image item.place.class item.place.slot has)
                  ∙ found.stands in
                  cc
            ]
        by false lacks =
            let apart : Never 0 ≡ Item item.stamp item.key item.value =
            sym (slot_at-lacks image item.place.class item.place.slot lacks) ∙ found.stands in
            cc

    -- the items that were kept are those of the definition
    pub kept-each : (item : Stored)
        → Contains (kept_of (found_in image worker workers (places_of ends))) item
        ↔ IsKept (slot_at all_classes image) worker workers item.key (copy_of item)
    kept-each item = (
      λ has.
          let h = in-filter (λ (one : Stored). list_all (is_first one) (found_in image worker workers
          (places_of ends))) (found_in image worker workers (places_of ends)) item has in
          record {
            found = found-is item h.0;
            first = λ other other_found. preferred other other_found h.1;
          },
      λ kept. filter-has (λ (one : Stored). list_all (is_first one) (found_in image worker workers
          (places_of ends))) (found_in image worker workers (places_of ends)) item
          (is-found item kept.found)
          (each-all (is_first item) (found_in image worker workers (places_of ends))
          (λ other has. preferred-first item other (λ same. kept.first (copy_of other)
          (subst (λ (key : List ℕ). IsFound (slot_at all_classes image) worker workers key
          (copy_of other)) same (found-is other has))))),
    )
      where
        preferred : (other : Copy)
            → IsFound (slot_at all_classes image) worker workers item.key other
            → list_all (is_first item) (found_in image worker workers (places_of ends)) ≡ true
            → IsPreferred (copy_of item) other
        preferred other other_found all =
            let stored : Stored = record {
              key = item.key;
              stamp = other.stamp;
              value = other.value;
              place = record { class = other.class; slot = other.slot };
            } in
            first-preferred item stored (all-each (is_first item) (found_in image worker workers
            (places_of ends)) stored all (is-found stored other_found)) refl

    pub are-kept : (kept : List Stored)
        → kept ≡ kept_of (found_in image worker workers (places_of ends))
        → AreKept image worker workers kept
    are-kept kept is = record {
      ends = ends;
      ends_are = ends_are;
      list = is;
      each = λ item. subst (λ (list : List Stored). Contains list item
          ↔ IsKept (slot_at all_classes image) worker workers item.key (copy_of item)) (sym is)
          (kept-each item);
    }

-- the slots where no kept item is are free
pub are-free : (image : Image) (worker workers class end : ℕ) (kept : List Stored)
    → AreKept image worker workers kept
    → AreFree (HasKept image worker workers class)
    (record { list = free_in class kept end; end = end })
are-free image worker workers class end kept are = record {
  rising = filter-rises (λ slot. not (list_any (is_at class slot) kept)) 0 end;
  each = λ slot. (
    λ has.
        let h = in-filter (λ (s : ℕ). not (list_any (is_at class s) kept)) (range_with_len 0 end) slot
        has in
        let within = in-range 0 end slot h.0 in (
          omega (arith, within.1),
          λ taken. any-none (is_at class slot) kept taken.item h.1
              ((are.each taken.item).1 taken.kept)
              (and-join (eqb taken.item.place.class class) (eqb taken.item.place.slot slot)
              (eq-eqb taken.item.place.class class taken.class_is)
              (eq-eqb taken.item.place.slot slot taken.slot_is)),
        ),
    λ free. filter-has (λ (s : ℕ). not (list_any (is_at class s) kept)) (range_with_len 0 end) slot
        (range-has 0 end slot (omega arith) (omega (arith, free.0)))
        (none-any (is_at class slot) kept (λ item has at.
        let both = and-both (eqb item.place.class class) (eqb item.place.slot slot) at in
        free.1 (record {
          item = item;
          kept = (are.each item).0 has;
          class_is = eqb-true item.place.class class both.0;
          slot_is = eqb-true item.place.slot slot both.1;
        }))),
  );
}

-- no slot that is listed is past the ends
pub places-below : (ends : List ℕ) → ((class : ℕ) → slice_index ends class ≤ 4194304)
    → AreBelow (2 ^ 24) (places_of ends)
places-below ends range k d within =
    let place = get_or (places_of ends) k d in
    let h = in-places ends place (Contains-get_or (places_of ends) k d within) in
    (h.0, h.1, omega (arith, h.2, range place.class))
