-- What stands on the disk with one item.
use Rattle.std.proofs.Common.{◌≡◌, ℕ, ◌*◌, ◌%◌, ◌≤◌, inr, Bool, true, false}
use Rattle.std.proofs.Common.{cond}
use Rattle.std.proofs.Common.{List, [], ◌∷◌, Option, None, Some, refl, sym, ap, ◌∙◌, subst, arith}
use Rattle.std.proofs.Common.{take, drop, true≢false, ◌&&◌, ◌||◌, ◌==◌, IsTrue, map, nat_le, le-leb}
use Rattle.std.proofs.Common.{option_and_then}
use Rattle.std.proofs.Math.Nat.{div-one, mod-one}
use Rattle.std.proofs.lemmas.Bool.{eqb-true, ne_eqb}
use Rattle.std.specs.List.{AllByRecursion}
use Rattle.std.specs.Str.{bytes_eq}
use Rattle.kv_base.specs.Image.{zero_page}
use Rattle.kv_base.specs.Partition.{hash_of, owner_of}
use Rattle.kv_model.specs.History.{value_at, later_of}
use Rattle.kv_model.specs.Layout.{is_small}
use Rattle.kv_model.specs.Slots.{Slot, Never, Item, read_small, read_large, stamp_field}
use Rattle.kv_model.specs.SlotBytes.{item_bytes}
use Rattle.kv_model.specs.Head.{head_page}
use Rattle.kv_model.specs.Reading.{Copy, IsFound, IsKept, slot_at, heads_at, has_class, small_slot}
use Rattle.kv_model.specs.Reading.{large_slot}
use Rattle.kv_model.specs.Recovery.{OpensAs, most_pages}
use Rattle.kv_model.specs.Examples.{key_a, value_1}
use Rattle.kv_model.specs.BatchExamples.{value_2, wrote}
use Rattle.kv_model.specs.RecoveryExamples.{disk_with_a, layout_7, reading_with_a, two_puts}

-- the slot 0 of class 7 has the item, and its other slots have none
reads-7 : (slot : ℕ) → slot_at layout_7 disk_with_a 7 slot
    ≡ cond (slot == 0) (Item 1 key_a value_1) (Never 0)
unfolding slot_at read_small item_bytes zero_page
reads-7 slot =
    ap (λ page. in_page page (slot % 1)) (div-one slot)
    ∙ ap (in_page slot) (mod-one slot) ∙ by (slot == 0)
  where
    in_page : ℕ → ℕ → Slot
    in_page page place =
        read_small layout_7 7 (take 4096 (drop (place * 4096) (disk_with_a 7 page)))

    by : (first : Bool) → read_small layout_7 7 (take 4096 (drop (0 * 4096)
        (cond ((7 == 7) && first) (item_bytes 7 1 key_a value_1)
        (cond ((0 == 7) && first) (head_page 0 1) zero_page))))
        ≡ cond first (Item 1 key_a value_1) (Never 0)
    by true = refl
    by false = refl

-- the other classes have no slots
reads-other : (class slot : ℕ) → (7 == class) ≡ false
    → slot_at layout_7 disk_with_a class slot ≡ Never 0
unfolding slot_at
reads-other class slot e = ap (λ b. cond (b || false) (cond (is_small class)
    (read_small layout_7 class (small_slot disk_with_a class slot))
    (read_large layout_7 class (large_slot disk_with_a class slot))) (Never 0)) e

pub reads : (class slot : ℕ) → reading_with_a class slot
    ≡ cond ((7 == class) && (slot == 0)) (Item 1 key_a value_1) (Never 0)
reads class slot = by (7 == class) refl
  where
    by : (seven : Bool) → (7 == class) ≡ seven → reading_with_a class slot
        ≡ cond ((7 == class) && (slot == 0)) (Item 1 key_a value_1) (Never 0)
    by true e = subst (λ c. reading_with_a c slot
        ≡ cond ((7 == c) && (slot == 0)) (Item 1 key_a value_1) (Never 0)) (eqb-true 7 class e)
        (reads-7 slot)
    by false e = reads-other class slot e
        ∙ sym (ap (λ b. cond (b && (slot == 0)) (Item 1 key_a value_1) (Never 0)) e)

-- the one item of the disk
pub record IsTheItem (class slot stamp : ℕ) (key value : List ℕ) : Type 0 where
  pub class_is : class ≡ 7
  pub slot_is : slot ≡ 0
  pub stamp_is : stamp ≡ 1
  pub key_is : key ≡ key_a
  pub value_is : value ≡ value_1

items_same : (stamp other : ℕ) (key same value is : List ℕ)
    → Item stamp key value ≡ Item other same is → (other ≡ stamp) × (same ≡ key) × (is ≡ value)
items_same stamp other key same value is e = (cc, cc, cc)

no_item : (stamp other : ℕ) (key value : List ℕ) → Never stamp ≡ Item other key value → ⊥
no_item stamp other key value e = cc

pub one_item : (class slot stamp : ℕ) (key value : List ℕ)
    → reading_with_a class slot ≡ Item stamp key value → IsTheItem class slot stamp key value
one_item class slot stamp key value stands =
    by (7 == class) refl (slot == 0) refl (sym (reads class slot) ∙ stands)
  where
    by : (seven : Bool) → (7 == class) ≡ seven → (first : Bool) → (slot == 0) ≡ first
        → cond (seven && first) (Item 1 key_a value_1) (Never 0) ≡ Item stamp key value
        → IsTheItem class slot stamp key value
    by true e true f same =
        let parts = items_same 1 stamp key_a key value_1 value same in record {
          class_is = sym (eqb-true 7 class e);
          slot_is = eqb-true slot 0 f;
          stamp_is = parts.0;
          key_is = parts.1;
          value_is = parts.2;
        }
    by true e false f same = absurd (no_item 0 stamp key value same)
    by false e first f same = absurd (no_item 0 stamp key value same)

abbrev pub the_copy : Copy
the_copy = record { class = 7; slot = 0; stamp = 1; value = value_1 }

-- one worker owns all keys
pub owned : (key : List ℕ) → owner_of key 1 ≡ 0
owned key = mod-one (hash_of key)

-- the item is kept
pub is_kept : IsKept reading_with_a 0 1 key_a the_copy
is_kept = record {
  found = record { stands = reads 7 0; owned = owned key_a };
  first = λ other found.
      let is = one_item other.class other.slot other.stamp key_a other.value found.stands in
      inr (sym is.stamp_is, inr (sym is.class_is, omega arith));
}

-- no other key is found
pub others_missing : (key : List ℕ) (copy : Copy) → (key ≡ key_a → ⊥)
    → IsFound reading_with_a 0 1 key copy → ⊥
others_missing key copy other found =
    other (one_item copy.class copy.slot copy.stamp key copy.value found.stands).key_is

heads-7 : (slot : ℕ) → heads_at layout_7 disk_with_a 7 slot ≡ cond (slot == 0) 1 0 ∷ []
unfolding heads_at item_bytes zero_page
heads-7 slot =
    ap (λ page. in_page page (slot % 1)) (div-one slot)
    ∙ ap (in_page slot) (mod-one slot) ∙ by (slot == 0)
  where
    in_page : ℕ → ℕ → List ℕ
    in_page page place =
        stamp_field (take 4096 (drop (place * 4096) (disk_with_a 7 page))) ∷ []

    by : (first : Bool) → stamp_field (take 4096 (drop (0 * 4096)
        (cond ((7 == 7) && first) (item_bytes 7 1 key_a value_1)
        (cond ((0 == 7) && first) (head_page 0 1) zero_page)))) ∷ [] ≡ cond first 1 0 ∷ []
    by true = refl
    by false = refl

heads-other : (class slot : ℕ) → (7 == class) ≡ false
    → heads_at layout_7 disk_with_a class slot ≡ []
unfolding heads_at
heads-other class slot e = ap (λ b. cond (b || false) (cond (is_small class)
    (stamp_field (small_slot disk_with_a class slot) ∷ [])
    (map stamp_field (large_slot disk_with_a class slot))) []) e

-- no stamp is above 1
pub heads-low : (class slot : ℕ)
    → AllByRecursion (λ stamp. stamp ≤ 1) (heads_at layout_7 disk_with_a class slot)
heads-low class slot = by (7 == class) refl
  where
    low : (first : Bool) → cond first 1 0 ≤ 1
    low true = omega arith
    low false = omega arith

    by : (seven : Bool) → (7 == class) ≡ seven
        → AllByRecursion (λ stamp. stamp ≤ 1) (heads_at layout_7 disk_with_a class slot)
    by true e = subst (λ c. AllByRecursion (λ stamp. stamp ≤ 1) (heads_at layout_7 disk_with_a c
        slot)) (eqb-true 7 class e) (subst (AllByRecursion (λ stamp. stamp ≤ 1))
        (sym (heads-7 slot)) (low (slot == 0), tt))
    by false e = subst (AllByRecursion (λ stamp. stamp ≤ 1)) (sym (heads-other class slot e)) tt

pub heads-first : heads_at layout_7 disk_with_a 7 0 ≡ 1 ∷ []
heads-first = heads-7 0

-- behind the most slots the disk is zero
beyond : (class page : ℕ) → IsTrue (has_class layout_7 class) → most_pages class ≤ page
    → disk_with_a class page ≡ zero_page
beyond class page has far = subst (λ c. most_pages c ≤ page → disk_with_a c page ≡ zero_page)
    (eqb-true 7 class (by (7 == class) has)) seven far
  where
    by : (b : Bool) → IsTrue (b || false) → b ≡ true
    by true e = refl
    by false e = absurd (true≢false (sym e))

    seven : most_pages 7 ≤ page → disk_with_a 7 page ≡ zero_page
    seven le = ap (λ b. cond ((7 == 7) && b) (item_bytes 7 1 key_a value_1)
        (cond ((0 == 7) && b) (head_page 0 1) zero_page))
        (ne_eqb page 0 (λ none. omega (arith, le, none)))

pub opens : OpensAs layout_7 disk_with_a 0 1
opens = record {
  worker_is = record { below = omega arith; limit = omega arith };
  head = inr refl;
  bounded = beyond;
}

-- from stamp 2 on a has its second value
pub second_value : (stamp : ℕ) → 2 ≤ stamp → value_at two_puts stamp key_a ≡ Some value_2
second_value stamp le =
    ap (λ b. at b (nat_le 2 stamp)) (le-leb 1 stamp (omega (arith, le)))
    ∙ ap (at true) (le-leb 2 stamp le)
  where
    at : Bool → Bool → Option (List ℕ)
    at first second = option_and_then (λ w. w.value) (cond first (Some (later_of
        (wrote 1 key_a value_1) (cond second (Some (wrote 2 key_a value_2)) None)))
        (cond second (Some (wrote 2 key_a value_2)) None))

-- another key has no value
pub no_value : (key : List ℕ) → bytes_eq key_a key ≡ false → value_at two_puts 1 key ≡ None
no_value key e = ap at e
  where
    at : Bool → Option (List ℕ)
    at same = option_and_then (λ w. w.value) (cond (same && true) (Some (later_of
        (wrote 1 key_a value_1) (cond (same && false) (Some (wrote 2 key_a value_2)) None)))
        (cond (same && false) (Some (wrote 2 key_a value_2)) None))
