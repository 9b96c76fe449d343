-- What the later pages of a slot say, page by page.
use Rattle.std.proofs.Common.{◌≡◌, inl, inr, ℕ, suc, ◌+◌, ◌-◌, ◌≤◌, Bool, true, false, cond, eqb, List, [], ◌∷◌, ◌++◌}
use Rattle.std.proofs.Common.{map, max, length, drop, refl, sym, ap, ◌∙◌, subst, arith, IsTrue}
use Rattle.std.specs.Prelude.{◌&&◌}
use Rattle.std.specs.List.{list_all, range_with_len}
use Rattle.std.proofs.lemmas.Bool.{cases_lt}
use Rattle.kv_base.specs.Image.{Image, zero_page}
use Rattle.kv_index.specs.Entries.{Entries}
use Rattle.kv_model.specs.Reading.{large_slot}
use Rattle.kv_model.specs.Slots.{Slot, Never, Item, Tombstone, Bad, Torn, stamp_field}
use Rattle.kv_slot.specs.Views.{read_front}
use Rattle.kv_recover.specs.Found.{with_slot}
use Rattle.kv_recover.specs.Large.{IsGreatest, IsLater, slot_from, AreZeroPages, HasFoundLarge}
use Rattle.kv_recover.proofs.FrontLemmas.{large-front, whole_value}
use Rattle.kv_recover.proofs.LargeLemmas.{greatest-next, found-large}

list_all-push : (p : List ℕ → Bool) (xs : List (List ℕ)) (x : List ℕ)
    → list_all p (xs ++ x ∷ []) ≡ (list_all p xs && p x)
list_all-push p [] x = and_one (p x) where
  and_one : (b : Bool) → (b && true) ≡ b
  and_one true = refl
  and_one false = refl
list_all-push p (y ∷ ys) x = ap (λ b. p y && b) (list_all-push p ys x)
    ∙ and_assoc (p y) (list_all p ys) (p x) where
      and_assoc : (a b c : Bool) → (a && (b && c)) ≡ ((a && b) && c)
      and_assoc true b c = refl
      and_assoc false b c = refl

zeros-push : (xs : List (List ℕ)) (x : List ℕ) → AreZeroPages xs → x ≡ zero_page
    → AreZeroPages (xs ++ x ∷ [])
zeros-push [] x all here = (here, tt)
zeros-push (y ∷ ys) x all here = (all.0, zeros-push ys x all.1 here)

zeros-front : (xs : List (List ℕ)) (x : List ℕ) → AreZeroPages (xs ++ x ∷ [])
    → AreZeroPages xs × (x ≡ zero_page)
zeros-front [] x all = (tt, all.0)
zeros-front (y ∷ ys) x all = let rest = zeros-front ys x all.1 in ((all.0, rest.0), rest.1)

map-push : (xs : List (List ℕ)) (x : List ℕ)
    → map stamp_field (xs ++ x ∷ []) ≡ map stamp_field xs ++ stamp_field x ∷ []
map-push [] x = refl
map-push (y ∷ ys) x = ap (λ zs. stamp_field y ∷ zs) (map-push ys x)

-- no page says nothing
pub later-none : (stamp floor : ℕ) → IsLater [] stamp floor true true floor
later-none stamp floor = record {
  whole_is = refl;
  blank_is = ((λ _. tt), (λ _. refl));
  greatest_is = record { from = omega arith; above = tt; one = inl refl };
}

-- one page more
pub later-next : (pages : List (List ℕ)) (page : List ℕ) (stamp floor : ℕ)
    (whole blank whole_now blank_now : Bool) (greatest now : ℕ)
    → IsLater pages stamp floor whole blank greatest
    → whole_now ≡ (whole && eqb (stamp_field page) stamp)
    → (IsTrue blank_now → IsTrue blank × (page ≡ zero_page))
    → (IsTrue blank → page ≡ zero_page → IsTrue blank_now)
    → now ≡ max greatest (stamp_field page)
    → IsLater (pages ++ page ∷ []) stamp floor whole_now blank_now now
later-next pages page stamp floor whole blank whole_now blank_now greatest now later whole_is
    blank_to blank_from now_is = record {
      whole_is = whole_is ∙ ap (λ b. b && eqb (stamp_field page) stamp) later.whole_is
          ∙ sym (list_all-push (λ p. eqb (stamp_field p) stamp) pages page);
      blank_is = (
        (λ is. let parts = blank_to is in
            zeros-push pages page (later.blank_is.0 parts.0) parts.1),
        (λ all. let parts = zeros-front pages page all in
            blank_from (later.blank_is.1 parts.0) parts.1),
      );
      greatest_is = subst (IsGreatest floor (map stamp_field (pages ++ page ∷ []))) (sym now_is)
          (subst (λ xs. IsGreatest floor xs (max greatest (stamp_field page)))
          (sym (map-push pages page))
          (greatest-next floor (map stamp_field pages) (stamp_field page) greatest
          later.greatest_is));
    }

-- the item of a whole slot is that of its first page
pub whole-slot : (entries : Entries) (worker workers class slot : ℕ) (front : Slot) (value : List ℕ)
    → with_slot entries worker workers class slot (slot_from front true value)
    ≡ with_slot entries worker workers class slot front
whole-slot entries worker workers class slot (Never stamp) value = refl
whole-slot entries worker workers class slot (Item stamp key front) value = refl
whole-slot entries worker workers class slot (Tombstone stamp link) value = refl
whole-slot entries worker workers class slot (Bad stamp) value = refl
whole-slot entries worker workers class slot (Torn stamp) value = refl

-- a slot that isn't whole has no item
pub torn-slot : (entries : Entries) (worker workers class slot : ℕ) (front : Slot) (value : List ℕ)
    → with_slot entries worker workers class slot (slot_from front false value) ≡ entries
torn-slot entries worker workers class slot (Never stamp) value = refl
torn-slot entries worker workers class slot (Item stamp key front) value = refl
torn-slot entries worker workers class slot (Tombstone stamp link) value = refl
torn-slot entries worker workers class slot (Bad stamp) value = refl
torn-slot entries worker workers class slot (Torn stamp) value = refl

-- a number beside the greatest of it and others
greatest-with : (floor head greatest : ℕ) (stamps : List ℕ)
    → IsGreatest (max floor head) stamps greatest → IsGreatest floor (head ∷ stamps) greatest
greatest-with floor head greatest stamps is =
    let from = is.from in
    record {
      from = omega arith;
      above = (omega arith, is.above);
      one = elim is.one [
        | inl top ↦ elim (cases_lt floor head) [
          | inl less ↦ inr (0, omega arith, let at : head ≡ greatest = omega arith in at)
          | inr more ↦ inl (omega arith)
        ]
        | inr some ↦ inr (suc some.0, (let within = some.1 in omega arith), some.2)
      ];
    }

-- a large slot is seen by its first page and what its later ones say
pub found-by-front : (image : Image) (class slot : ℕ) → 8 ≤ class → class ≤ 11
    → (worker workers : ℕ) (entries later : Entries) (floor end last : ℕ) (page : List ℕ)
    (pages : List (List ℕ)) (whole blank all : Bool) (greatest : ℕ)
    → 255 ≤ length (drop 16 page) → large_slot image class slot ≡ page ∷ pages
    → IsLater pages (stamp_field page) (max floor (stamp_field page)) whole blank greatest
    → (IsTrue all → IsTrue blank × (page ≡ zero_page))
    → (IsTrue blank → page ≡ zero_page → IsTrue all) → last ≡ cond all end (slot + 1)
    → ((value : List ℕ) → later ≡ with_slot entries worker workers class slot
    (slot_from (read_front class page) whole value))
    → HasFoundLarge image worker workers class slot entries floor end
    → HasFoundLarge image worker workers class (slot + 1) later greatest last
found-by-front image class slot low high worker workers entries later floor end last page pages
    whole blank all greatest size pages_are says all_to all_from last_is later_is found =
    found-large image class slot low high worker workers entries later floor greatest end last
    (page ∷ pages) all pages_are
    (λ is. let parts = all_to is in (parts.1, says.blank_is.0 parts.0))
    (λ zeros. all_from (says.blank_is.1 zeros.1) zeros.0) last_is
    (later_is (whole_value page pages)
    ∙ ap (λ b. with_slot entries worker workers class slot
    (slot_from (read_front class page) b (whole_value page pages))) says.whole_is
    ∙ ap (with_slot entries worker workers class slot) (sym (large-front class page pages size)))
    (greatest-with floor (stamp_field page) greatest (map stamp_field pages) says.greatest_is)
    found

-- what the later pages say, by the definitions' numbers
pub later_is : (image read : Image) (class at first in_slot count stamp head start floor : ℕ)
    (whole blank : Bool) (greatest : ℕ) → read ≡ image → at ≡ first → count ≡ in_slot
    → stamp ≡ head → start ≡ floor
    → IsLater (map (λ page. read class page) (range_with_len (at + 1) (count - 1))) stamp start whole
    blank greatest
    → IsLater (map (image class) (range_with_len (first + 1) (in_slot - 1))) head floor whole blank
    greatest
later_is image read class at first in_slot count stamp head start floor whole blank greatest same
    at_is count_is stamp_is start_is says =
    subst (λ x. IsLater (map (image class) (range_with_len (first + 1) (in_slot - 1))) head x whole
    blank greatest) start_is
    (subst (λ x. IsLater (map (image class) (range_with_len (first + 1) (in_slot - 1))) x start whole
    blank greatest) stamp_is
    (subst (λ n. IsLater (map (image class) (range_with_len (first + 1) (n - 1))) stamp start whole
    blank greatest) count_is
    (subst (λ n. IsLater (map (image class) (range_with_len (n + 1) (count - 1))) stamp start whole
    blank greatest) at_is
    (subst (λ i. IsLater (map (i class) (range_with_len (at + 1) (count - 1))) stamp start whole
    blank greatest) same says))))
