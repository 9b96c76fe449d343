-- What is opened holds the store that kv_slab keeps.
use Rattle.std.proofs.Common.{◌≡◌, ◌⊎◌, inl, inr, ℕ, zero, suc, ◌+◌, ◌<◌, ◌≤◌, Bool, true, false}
use Rattle.std.proofs.Common.{not, eqb, List, [], ◌∷◌, length, map, get_or, slice_get, Some}
use Rattle.std.proofs.Common.{refl, sym, ap, ◌∙◌, subst, arith, IsTrue}
use Rattle.std.specs.List.{range_with_len}
use Rattle.std.specs.FinMap as finite
use Rattle.std.proofs.lemmas.Bool.{cases_lt, cases_Bool, false≢true, not_from_false, not-true}
use Rattle.std.proofs.lemmas.Bool.{and_from, eq-eqb}
use Rattle.kv_base.specs.Image.{Image, zero_page}
use Rattle.kv_base.specs.Crash.{Choices, Only}
use Rattle.kv_free.specs.FreeList.{Tail, StandsFor}
use Rattle.kv_index.specs.declared.entry.Entry.{Entry}
use Rattle.kv_index.specs.Entries.{Entries}
use Rattle.kv_model.specs.Layout.{all_classes, pages_in_slot}
use Rattle.kv_model.specs.Reading.{slot_at, small_slot, large_slot, page_of}
use Rattle.kv_model.specs.Slots.{Item, Tombstone}
use Rattle.std.proofs.lemmas.List.{get_or_past}
use Rattle.kv_slab.specs.Rooms.{Rooms, AreRooms, IsEntrys, link_at}
use Rattle.kv_slab.specs.Rooms.{ArePlaced as SlotsArePlaced}
use Rattle.kv_slab.specs.Memory.{rooms_of, AreCounted}
use Rattle.kv_slab.specs.View.{IsOpen, Stands}
use Rattle.kv_slab.specs.declared.room.Room.{Room}
use Rattle.kv_recover.specs.Free.{is_place, is_entry, free_slots}
use Rattle.kv_recover.specs.Large.{AreZeroPages}
use Rattle.kv_recover.specs.Opened.{IsOpenedStore, HasClassList}
use Rattle.kv_recover.specs.Placed.{HasRooms}
use Rattle.kv_recover.proofs.EntryLemmas.{item_of}
use Rattle.kv_recover.proofs.FilteredLemmas.{nth, all, rises, get-within}
use Rattle.kv_recover.proofs.LargeLemmas.{slot_at-large, read_zero_pages}
use Rattle.kv_recover.proofs.PassLemmas.{slot_at-small}
use Rattle.kv_recover.proofs.SlabLemmas.{read_zeros}
use Rattle.kv_recover.proofs.OpenedLemmas.{class_cases, at_none}

-- the tail and the end of a room
record IsPair (tails : List Tail) (ends : List ℕ) (class : ℕ) (room : Room) : Type 0 where
  tail : slice_get tails class ≡ Some room.stack
  end : get_or ends class 0 ≡ room.end

room_parts : (tails : List Tail) (ends : List ℕ) (class : ℕ) (room : Room)
    → slice_get (rooms_of tails ends) class ≡ Some room → IsPair tails ends class room
room_parts [] ends class room is = absurd (cc)
room_parts (tail ∷ tails) [] class room is = absurd (cc)
room_parts (tail ∷ tails) (end ∷ ends) zero room is =
    let same : ◌≡◌ {A = Room} (record { stack = tail; end = end }) room = cc in
    record {
      tail = ap (λ r. Some r.stack) same;
      end = ap (λ r. r.end) same;
    }
room_parts (tail ∷ tails) (end ∷ ends) (suc class) room is =
    let rest = room_parts tails ends class room is in
    record { tail = rest.tail; end = rest.end }

rooms_len : (tails : List Tail) (ends : List ℕ) → length tails ≡ length ends
    → length (rooms_of tails ends) ≡ length tails
rooms_len [] ends same = refl
rooms_len (tail ∷ tails) [] same = absurd (omega arith)
rooms_len (tail ∷ tails) (end ∷ ends) same =
    ap suc (rooms_len tails ends (omega arith))

-- a page of zero pages
zero_at_page : (f : ℕ → List ℕ) (first count k : ℕ)
    → AreZeroPages (map f (range_with_len first count)) → k < count → f (first + k) ≡ zero_page
zero_at_page f first zero k zeros below = absurd (omega arith)
zero_at_page f first (suc n) zero zeros below =
    let at : first + 0 ≡ first = omega arith in ap f at ∙ zeros.0
zero_at_page f first (suc n) (suc k) zeros below =
    let at : first + suc k ≡ first + 1 + k = omega arith in
    ap f at ∙ zero_at_page f (first + 1) n k zeros.1 (omega arith)

-- a list that is long enough has the item
get-some : {A : Type 0} (xs : List A) (i : ℕ) → i < length xs → (x : A) × (slice_get xs i ≡ Some x)
get-some [] i below = absurd (omega arith)
get-some (x ∷ xs) zero below = (x, refl)
get-some (x ∷ xs) (suc i) below = get-some xs i (omega arith)

module _ (image : Image) (entries : Entries) where
  -- a slot that isn't its key's entry's
  abbrev is_no_entry : ℕ → ℕ → Bool
  is_no_entry c s = not (is_entry entries c s (slot_at all_classes image c s))

  -- a free slot is below the end and no entry's
  free_nth : (c n i s : ℕ) → slice_get (free_slots entries (slot_at all_classes image) c n) i ≡ Some s
      → (s < n) × (is_entry entries c s (slot_at all_classes image c s) ≡ false)
  unfolding free_slots
  free_nth c n i s is = let at = nth (is_no_entry c) n i s is in (at.below, not-true _ at.passes)

  -- each such slot is free
  free_each : (c n s : ℕ) → s < n → is_entry entries c s (slot_at all_classes image c s) ≡ false
      → (i : ℕ) × (slice_get (free_slots entries (slot_at all_classes image) c n) i ≡ Some s)
  unfolding free_slots
  free_each c n s below none = all (is_no_entry c) n s below (not_from_false _ none)

  -- once
  free_once : (c n i j s : ℕ)
      → slice_get (free_slots entries (slot_at all_classes image) c n) i ≡ Some s
      → slice_get (free_slots entries (slot_at all_classes image) c n) j ≡ Some s → i ≡ j
  unfolding free_slots
  free_once c n i j s at_i at_j = elim (cases_lt i j) [
    | inl less ↦ absurd (let up = rises (is_no_entry c) n i j s s less at_i at_j in omega arith)
    | inr more ↦ elim (cases_lt j i) [
      | inl less ↦ absurd (let up = rises (is_no_entry c) n j i s s less at_j at_i in omega arith)
      | inr same ↦ omega arith
    ]
  ]

  -- no slot is below no end
  free_none : (c n : ℕ) → n ≡ 0 → free_slots entries (slot_at all_classes image) c n ≡ []
  unfolding free_slots
  free_none c n none = ap (λ k. free_slots entries (slot_at all_classes image) c k) none ∙ refl

-- the lists and the ends that memory stands for
abbrev pub opened_rooms : Image → Entries → List ℕ → Rooms
opened_rooms image entries ends c = record {
  list = free_slots entries (slot_at all_classes image) c (get_or ends c 0);
  end = get_or ends c 0;
}

module _ (image : Image) (worker workers : ℕ) (entries : Entries) (floor : ℕ) (ends : List ℕ)
    (stacks : List Tail) (size : length ends ≡ 12) (kept : HasRooms entries floor ends stacks)
    (opened : IsOpenedStore image worker workers entries floor ends stacks) where
  -- a class that doesn't exist has no slot
  end_out : (c : ℕ) → (0 ≡ c) ⊎ (12 ≤ c) → get_or ends c 0 ≡ 0
  end_out c out = elim out as (λ _. get_or ends c 0 ≡ 0) [
    | inl none ↦ subst (λ x. get_or ends x 0 ≡ 0) none kept.zero
    | inr past ↦ get_or_past ends c 0 (omega arith)
  ]

  -- what a class has
  class_list : (c : ℕ) → 1 ≤ c → c ≤ 11 → (stack : Tail)
      × (HasClassList image worker workers entries floor c (get_or ends c 0) stack)
  class_list c low high =
      let has = get-some stacks c (let count = kept.count in omega arith) in
      (has.0, opened.lists c has.0 low has.1)

  -- the place of an entry reads as its item
  entry_reads : (key : List ℕ) (e : Entry) → finite.get entries key ≡ Some e → (value : List ℕ)
      × (slot_at all_classes image e.place.class e.place.slot ≡ Item e.stamp key value)
  entry_reads key e has = let each = opened.holds.each key e has in (each.0, each.1.found.stands)

  -- so it is its entry's
  entry_is : (c s : ℕ) → IsEntrys (finite.get entries) c s
      → is_entry entries c s (slot_at all_classes image c s) ≡ true
  entry_is c s (key, e, has, at) =
      let item = entry_reads key e has in
      let there : slot_at all_classes image c s ≡ Item e.stamp key item.0 =
      ap (λ x. slot_at all_classes image x s) (sym at.0)
      ∙ ap (slot_at all_classes image e.place.class) (sym at.1) ∙ item.1 in
      ap (is_entry entries c s) there ∙ ap (λ o. is_place o c s) has
      ∙ and_from (eqb e.place.class c) (eqb e.place.slot s) (eq-eqb e.place.class c at.0)
      (eq-eqb e.place.slot s at.1)

  -- each slot below an end is an entry's or free
  placed : SlotsArePlaced (finite.get entries) (opened_rooms image entries ends)
  placed = record {
    sound = record {
      inside = λ key e has. (kept.placed key e has).below;
      below = λ c s listed. (free_nth image entries c (get_or ends c 0) listed.0 s listed.1).0;
      unused = λ c s listed entry. false≢true
          (sym (free_nth image entries c (get_or ends c 0) listed.0 s listed.1).1
          ∙ entry_is c s entry);
      distinct = λ c i j s at_i at_j. free_once image entries c (get_or ends c 0) i j s at_i at_j;
      injective = λ k j e f has_k has_j same.
          let first = entry_reads k e has_k in
          let second = entry_reads j f has_j in
          let both : Item e.stamp k first.0 ≡ Item f.stamp j second.0 =
          sym first.1 ∙ ap (λ p. slot_at all_classes image p.class p.slot) same ∙ second.1 in
          cc;
    };
    all = λ c s below. elim (cases_Bool (is_entry entries c s (slot_at all_classes image c s))) [
      | inl entry ↦
          let item = item_of entries c s (slot_at all_classes image c s) entry in
          inl (item.key, item.entry, item.has, (item.class_is, item.slot_is))
      | inr free ↦ inr (free_each image entries c (get_or ends c 0) s below free)
    ];
  }

  -- the image holds the store
  pub opened-stands : Stands image (finite.get entries) (opened_rooms image entries ends) worker
      workers
  opened-stands = record {
    items = entry_reads;
    owned = λ key e has. (opened.holds.each key e has).1.found.owned;
    placed = placed;
    linked = λ c j s is. elim (class_cases c) [
      | inl small ↦ link_of_class c small.0 (omega (arith, small.1)) j s is
      | inr other ↦ elim other [
        | inl large ↦ link_of_class c (omega (arith, large.0)) large.1 j s is
        | inr out ↦ absurd (let none = end_out c out in
            let at = (free_nth image entries c (get_or ends c 0) j s is).0 in omega arith)
      ]
    ];
    unused = λ c s from. elim (class_cases c) [
      | inl small ↦
          let list = (class_list c small.0 (omega (arith, small.1))).1 in
          slot_at-small image c s small.0 small.1
          ∙ read_zeros c (small_slot image c s) (record {
            count = length (small_slot image c s);
            is = (list.end_is.small small.1).rest s from;
          })
      | inr other ↦ elim other [
        | inl large ↦
            let list = (class_list c (omega (arith, large.0)) large.1).1 in
            slot_at-large image c s large.0 large.1
            ∙ read_zero_pages c (large_slot image c s) ((list.end_is.large large.0).rest s from)
        | inr out ↦ at_none image c s out
      ]
    ];
    zeros = λ c s low high from.
        let list = (class_list c low high).1 in
        record {
          small = λ small. (list.end_is.small small).rest s from;
          large = λ large page below. zero_at_page (image c) (page_of c s) (pages_in_slot c) page
              ((list.end_is.large large).rest s from) below;
        };
    of_worker = record { head = opened.head; bounded = opened.bounded };
  } where
    link_of_class : (c : ℕ) → 1 ≤ c → c ≤ 11 → (j s : ℕ)
        → slice_get (free_slots entries (slot_at all_classes image) c (get_or ends c 0)) j ≡ Some s
        → (stamp : ℕ) × (slot_at all_classes image c s ≡ Tombstone stamp
        (link_at (free_slots entries (slot_at all_classes image) c (get_or ends c 0)) j))
    link_of_class c low high j s is =
        let list = (class_list c low high).1 in (
          floor,
          list.links j s (ap (λ xs. slice_get xs j) list.list_is ∙ is)
              ∙ ap (λ xs. Tombstone floor (link_at xs j)) list.list_is,
        )

  -- memory stands for it
  pub opened-rooms : AreRooms (rooms_of stacks ends) (opened_rooms image entries ends)
  opened-rooms c room is =
      let parts = room_parts stacks ends c room is in
      let within = get-within stacks room.stack c parts.tail in
      let high : c ≤ 11 = (let count = kept.count in omega arith) in
      record {
        list = elim (cases_lt c 1) [
          | inl none ↦
              let zero_is : 0 ≡ c = omega arith in
              subst (StandsFor room.stack) (sym (free_none image entries c (get_or ends c 0)
              (end_out c (inl zero_is)))) (opened.none room.stack
              (ap (slice_get stacks) zero_is ∙ parts.tail))
          | inr low ↦
              let list = opened.lists c room.stack low parts.tail in
              subst (StandsFor room.stack) list.list_is list.stands
        ];
        end = sym parts.end;
      }

module _ (entries : Entries) (floor : ℕ) (ends : List ℕ) (stacks : List Tail)
    (size : length ends ≡ 12) (kept : HasRooms entries floor ends stacks) where
  -- on every disk the slots below the ends are counted
  pub opened-counted : AreCounted entries (rooms_of stacks ends)
  opened-counted = record {
    inside = λ key e room has is.
        let parts = room_parts stacks ends e.place.class room is in
        let below = (kept.placed key e has).below in
        let end = parts.end in
        omega arith;
    filled = λ class room is.
        let parts = room_parts stacks ends class room is in
        sym parts.end ∙ kept.filled class room.stack parts.tail;
  }

  -- the store is open
  pub opened-open : (tells : Bool) (seen : Image) (choices : Choices) (worker workers : ℕ)
      → Only seen choices
      → (IsTrue tells → IsOpenedStore seen worker workers entries floor ends stacks)
      → IsOpen tells seen choices (finite.get entries) (rooms_of stacks ends) worker workers
  opened-open tells seen choices worker workers only opened = record {
    settled = only;
    ends = record {
      count = rooms_len stacks ends (kept.count ∙ sym size) ∙ kept.count;
      small = λ c room is.
          let parts = room_parts stacks ends c room is in
          let end = parts.end in
          let small = kept.small c in
          omega arith;
    };
    places = λ key e has.
        let place = kept.placed key e has in
        record {
          low = place.low;
          high = place.high;
          slot = let below = place.below in let small = kept.small e.place.class in omega arith;
        };
    stands = λ told. (
      opened_rooms seen entries ends,
      opened-rooms seen worker workers entries floor ends stacks size kept (opened told),
      opened-stands seen worker workers entries floor ends stacks size kept (opened told),
    );
  }

-- each class of an opened store has its list
pub opened-lists : (image : Image) (worker workers : ℕ) (entries : Entries) (floor : ℕ)
    (ends : List ℕ) (stacks : List Tail)
    → IsOpenedStore image worker workers entries floor ends stacks → (class : ℕ) (room : Room)
    → 1 ≤ class → slice_get (rooms_of stacks ends) class ≡ Some room
    → HasClassList image worker workers entries floor class room.end room.stack
opened-lists image worker workers entries floor ends stacks opened class room low is =
    let parts = room_parts stacks ends class room is in
    subst (λ end. HasClassList image worker workers entries floor class end room.stack) parts.end
    (opened.lists class room.stack low parts.tail)
