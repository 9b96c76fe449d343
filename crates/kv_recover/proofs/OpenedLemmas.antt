-- What is found and freed over all classes is an opened store, with the same items and floor.
use Rattle.std.proofs.Common.{◌≡◌, ◌⊎◌, inl, inr, ℕ, ◌<◌, ◌≤◌, ◌^◌, Bool, true, false}
use Rattle.std.proofs.Common.{not, eqb, List, [], ◌∷◌, length, map, drop, get_or, slice_get, Some}
use Rattle.std.proofs.Common.{refl, sym, ap, ◌∙◌, subst, subst₂, arith}
use Rattle.std.specs.List.{AllByRecursion, list_any}
use Rattle.std.specs.FinMap as finite
use Rattle.std.proofs.lemmas.Bool.{cases_lt, cases_Bool, cond-false, eq-eqb, ne_eqb, and_from, or_from, false≢true}
use Rattle.std.proofs.lemmas.Bool.{not_from_false, not-true}
use Rattle.kv_base.specs.Image.{Image}
use Rattle.kv_free.specs.FreeList.{Tail, StandsFor, link_of}
use Rattle.kv_index.specs.Entries.{Entries}
use Rattle.kv_model.specs.Layout.{all_classes}
use Rattle.kv_model.specs.Slots.{Never, Item, Tombstone, read_small, read_large, stamp_field}
use Rattle.kv_model.specs.Reading.{IsFloor, small_slot, large_slot, slot_at, heads_at, has_class}
use Rattle.kv_slot.proofs.AgainLemmas.{tombstones_again, large_tombstones_again}
use Rattle.kv_slot.proofs.PlaceLemmas.{begin_with_stamp}
use Rattle.kv_recover.specs.SoFar.{so_far}
use Rattle.kv_recover.specs.Found.{HoldsKept, copy_of}
use Rattle.kv_model.specs.Recovery.{KeepsEach}
use Rattle.kv_recover.specs.Freed.{HasKept, Frees, FreesHeads}
use Rattle.kv_recover.specs.Pass.{IsZeros}
use Rattle.kv_recover.specs.Large.{AreZeroPages}
use Rattle.kv_recover.specs.Free.{is_place, is_entry, free_slots, IsFree, reading_of}
use Rattle.kv_recover.specs.FreeLarge.{AnyMayBeFreed, AreFreed}
use Rattle.kv_recover.specs.Opened.{KeepsSlabs, IsEndOf, HasClassList}
use Rattle.kv_recover.proofs.SoFarLemmas.{so_far-all}
use Rattle.kv_recover.proofs.FreedLemmas.{one_copy_place, kept_still, kept_same, found_before, floor_still}
use Rattle.kv_recover.proofs.PassLemmas.{slot_at-small, heads_at-small}
use Rattle.kv_recover.proofs.LargeLemmas.{slot_at-large, heads_at-large, read_zero_pages}
use Rattle.kv_recover.proofs.SlabLemmas.{read_zeros}
use Rattle.kv_recover.proofs.FindLemmas.{slot_at-none, heads_at-none}
use Rattle.kv_recover.proofs.FreeLemmas.{is_free}
use Rattle.kv_recover.proofs.FilteredLemmas.{nth, all, rises}
use Rattle.kv_recover.proofs.PageLemmas.{free_slots-same}
use Rattle.kv_recover.proofs.EntryLemmas.{item_of, option_cases, one_floor, same_link}

pub class_cases : (c : ℕ) → ((1 ≤ c) × (c ≤ 7)) ⊎ (((8 ≤ c) × (c ≤ 11)) ⊎ ((0 ≡ c) ⊎ (12 ≤ c)))
class_cases c = elim (cases_lt c 1) [
  | inl none ↦ inr (inr (inl (omega arith)))
  | inr some ↦ elim (cases_lt c 8) [
    | inl small ↦ inl (omega arith, omega arith)
    | inr large ↦ elim (cases_lt c 12) [
      | inl within ↦ inr (inl (omega arith, omega arith))
      | inr past ↦ inr (inr (inr past))
    ]
  ]
]

not_any : (xs : List ℕ) (c : ℕ) → AllByRecursion (λ x. x < c) xs
    → list_any (λ other. eqb other c) xs ≡ false
not_any [] c all = refl
not_any (x ∷ xs) c all = or_from (eqb x c) (list_any (λ other. eqb other c) xs)
    (ne_eqb x c (λ is. let below : x < c = all.0 in omega arith)) (not_any xs c all.1)

pub no_class : (c : ℕ) → 12 ≤ c → has_class all_classes c ≡ false
no_class c past = not_any all_classes.classes c (
  omega arith,
  (
    omega arith,
    (
      omega arith,
      (
        omega arith,
        (
          omega arith,
          (
            omega arith,
            (
              omega arith,
              (
                omega arith,
                (
                  omega arith,
                  (
                    omega arith,
                    (omega arith, tt),
                  ),
                ),
              ),
            ),
          ),
        ),
      ),
    ),
  ),
)

-- a class that doesn't exist has no slot in use
pub at_none : (image : Image) (c s : ℕ) → (0 ≡ c) ⊎ (12 ≤ c)
    → slot_at all_classes image c s ≡ Never 0
unfolding slot_at
at_none image c s out = elim out as (λ _. slot_at all_classes image c s ≡ Never 0) [
  | inl none ↦ subst (λ x. slot_at all_classes image x s ≡ Never 0) none (slot_at-none image s)
  | inr past ↦ cond-false (has_class all_classes c) _ (Never 0) (no_class c past)
]

pub heads_none : (image : Image) (c s : ℕ) → (0 ≡ c) ⊎ (12 ≤ c)
    → heads_at all_classes image c s ≡ []
unfolding heads_at
heads_none image c s out = elim out as (λ _. heads_at all_classes image c s ≡ []) [
  | inl none ↦ subst (λ x. heads_at all_classes image x s ≡ []) none (heads_at-none image s)
  | inr past ↦ cond-false (has_class all_classes c) _ [] (no_class c past)
]

-- below class 12 all slots are
pub all-slots : (image : Image) → so_far (Never 0) (slot_at all_classes image) 12 0
    ≡ slot_at all_classes image
all-slots image = so_far-all (Never 0) (slot_at all_classes image) 12 0
    (λ c s behind. at_none image c s (elim (cases_lt c 12) [
      | inl below ↦ absurd (behind (inl below))
      | inr past ↦ inr past
    ]))

pub all-heads : (image : Image) → so_far [] (heads_at all_classes image) 12 0
    ≡ heads_at all_classes image
all-heads image = so_far-all [] (heads_at all_classes image) 12 0
    (λ c s behind. heads_none image c s (elim (cases_lt c 12) [
      | inl below ↦ absurd (behind (inl below))
      | inr past ↦ inr past
    ]))

map_rest : (pages : List (List ℕ)) → map stamp_field (drop 1 pages)
    ≡ drop 1 (map stamp_field pages)
map_rest [] = refl
map_rest (x ∷ xs) = refl

module _ (first : Image) (worker workers floor : ℕ) (entries : Entries)
    (holds : HoldsKept entries (reading_of first) worker workers) where
  -- an entry's slot has a kept item
  pub entry-kept : (c s : ℕ) → is_entry entries c s (reading_of first c s) ≡ true
      → HasKept (reading_of first) worker workers c s
  entry-kept c s is =
      let item = item_of entries c s (reading_of first c s) is in
      let each = holds.each item.key item.entry item.has in
      record {
        key = item.key;
        copy = copy_of item.entry each.0;
        kept = each.1;
        class_is = item.class_is;
        slot_is = item.slot_is;
      }

  -- a kept item is its key's entry
  pub kept-entry : (c s : ℕ) → HasKept (reading_of first) worker workers c s
      → is_entry entries c s (reading_of first c s) ≡ true
  kept-entry c s has =
      let stands : reading_of first c s ≡ Item has.copy.stamp has.key has.copy.value =
      subst₂ (λ x y. reading_of first x y ≡ Item has.copy.stamp has.key has.copy.value)
      has.class_is has.slot_is has.kept.found.stands in
      elim (option_cases (finite.get entries has.key)) [
        | inl none ↦ absurd (holds.none has.key none has.copy has.kept.found)
        | inr some ↦
            let each = holds.each has.key some.0 some.1 in
            let other = copy_of some.0 each.0 in
            let at = one_copy_place other has.copy (each.1.first has.copy has.kept.found)
            (has.kept.first other each.1.found) in
            ap (is_entry entries c s) stands ∙ ap (λ o. is_place o c s) some.1
            ∙ and_from (eqb some.0.place.class c) (eqb some.0.place.slot s)
            (eq-eqb some.0.place.class c (at.0 ∙ has.class_is))
            (eq-eqb some.0.place.slot s (at.1 ∙ has.slot_is))
      ]

  not-kept : (end c s : ℕ) → IsFree entries (reading_of first) end c s
      → HasKept (reading_of first) worker workers c s → ⊥
  not-kept end c s free has = false≢true (sym free.none ∙ kept-entry c s has)

  -- of each found key one item is kept
  keeps_each : KeepsEach (reading_of first) worker workers
  keeps_each key copy found = elim (option_cases (finite.get entries key)) [
    | inl none ↦ absurd (holds.none key none copy found)
    | inr some ↦
        let each = holds.each key some.0 some.1 in (copy_of some.0 each.0, each.1)
  ]

  module _ (ends : ℕ → ℕ) (fits : floor < 2 ^ 64) (image : Image)
      (may : AnyMayBeFreed entries first ends floor 12 0 image) where
    pub frees : Frees (reading_of first) worker workers floor (reading_of image)
    frees c s = elim (class_cases c) [
      | inl small ↦ elim (may.slots c s small.0 small.1) [
        | inl same ↦ inl (slot_at-small image c s small.0 small.1
            ∙ ap (read_small all_classes c) same ∙ sym (slot_at-small first c s small.0 small.1))
        | inr freed ↦ inr (record {
          link = freed.2.link;
          is = slot_at-small image c s small.0 small.1 ∙ ap (read_small all_classes c) freed.2.is
              ∙ tombstones_again all_classes c floor freed.2.link fits freed.2.small;
          free = not-kept (ends c) c s freed.1;
        })
      ]
      | inr other ↦ elim other [
        | inl large ↦ elim (may.large c s large.0 large.1) [
          | inl same ↦ inl (slot_at-large image c s large.0 large.1
              ∙ ap (read_large all_classes c) same ∙ sym (slot_at-large first c s large.0 large.1))
          | inr freed ↦ inr (record {
            link = freed.2.link;
            is = slot_at-large image c s large.0 large.1
                ∙ ap (read_large all_classes c) freed.2.is
                ∙ large_tombstones_again all_classes c floor freed.2.link
                (drop 1 (large_slot first c s)) fits freed.2.small;
            free = not-kept (ends c) c s freed.1;
          })
        ]
        | inr out ↦ inl (at_none image c s out ∙ sym (at_none first c s out))
      ]
    ]

    frees_heads : FreesHeads (heads_at all_classes first) floor (heads_at all_classes image)
    frees_heads c s = elim (class_cases c) [
      | inl small ↦ elim (may.slots c s small.0 small.1) [
        | inl same ↦ inl (heads_at-small image c s small.0 small.1
            ∙ ap (λ b. stamp_field b ∷ []) same ∙ sym (heads_at-small first c s small.0 small.1))
        | inr freed ↦ inr (heads_at-small image c s small.0 small.1
            ∙ ap (λ b. stamp_field b ∷ []) freed.2.is
            ∙ ap (λ n. n ∷ []) (begin_with_stamp.tombstone c floor freed.2.link fits)
            ∙ ap (λ xs. floor ∷ drop 1 xs) (sym (heads_at-small first c s small.0 small.1)))
      ]
      | inr other ↦ elim other [
        | inl large ↦ elim (may.large c s large.0 large.1) [
          | inl same ↦ inl (heads_at-large image c s large.0 large.1
              ∙ ap (map stamp_field) same ∙ sym (heads_at-large first c s large.0 large.1))
          | inr freed ↦ inr (heads_at-large image c s large.0 large.1
              ∙ ap (map stamp_field) freed.2.is
              ∙ ap (λ n. n ∷ map stamp_field (drop 1 (large_slot first c s)))
              (begin_with_stamp.tombstone c floor freed.2.link fits)
              ∙ ap (λ xs. floor ∷ xs) (map_rest (large_slot first c s))
              ∙ ap (λ xs. floor ∷ drop 1 xs) (sym (heads_at-large first c s large.0 large.1)))
        ]
        | inr out ↦ inl (heads_none image c s out ∙ sym (heads_none first c s out))
      ]
    ]

    -- an image that a crash may leave has the same items and the same floor
    pub same-store : IsFloor (heads_at all_classes first) floor
        → KeepsSlabs first worker workers image
    same-store floor_is = record {
      kept = kept_same (reading_of first) (reading_of image) worker workers floor frees
          keeps_each;
      floor = λ other other_is. subst (IsFloor (heads_at all_classes image))
          (one_floor (heads_at all_classes first) floor other floor_is other_is)
          (floor_still (heads_at all_classes first) (heads_at all_classes image) floor frees_heads
          floor_is);
      head = may.others 0 0 (inl refl);
      past = may.past;
    }

    -- the index has what is kept in it
    pub holds-still : HoldsKept entries (reading_of image) worker workers
    holds-still = record {
      each = λ key entry has.
          let before = holds.each key entry has in (
            before.0,
            kept_still (reading_of first) (reading_of image) worker workers floor frees key
                (copy_of entry before.0) before.1,
          );
      none = λ key none copy found. holds.none key none copy
          (found_before (reading_of first) (reading_of image) worker workers floor frees key
          copy found);
    }

    pub floor-stays : IsFloor (heads_at all_classes first) floor
        → IsFloor (heads_at all_classes image) floor
    floor-stays = floor_still (heads_at all_classes first) (heads_at all_classes image) floor
        frees_heads

  module _ (ends : List ℕ) (fits : floor < 2 ^ 64) (now : Image)
      (freed : AreFreed entries first (λ c. get_or ends c 0) floor 12 0 now) where
    -- what is freed may be freed
    pub freed-may : AnyMayBeFreed entries first (λ c. get_or ends c 0) floor 12 0 now
    freed-may = record {
      slots = λ c s low high. elim (is_free entries (reading_of first) (get_or ends c 0) c s) [
        | inl free ↦ inr (inl (omega arith), free, freed.freed c s low high free)
        | inr not_free ↦ inl (freed.kept c s low high not_free)
      ];
      large = λ c s low high. elim (is_free entries (reading_of first) (get_or ends c 0) c s) [
        | inl free ↦ inr (
          inl (omega arith),
          free,
          freed.large_freed c s low high (inl (omega arith)) free,
        )
        | inr not_free ↦ inl (freed.large_kept c s low high (λ _ free. not_free free))
      ];
      others = freed.others;
      past = freed.past;
    }

    -- what a freed slot reads as
    reads_freed : (c : ℕ) → 1 ≤ c → c ≤ 11 → (s : ℕ)
        → IsFree entries (reading_of first) (get_or ends c 0) c s
        → reading_of now c s ≡ Tombstone floor (link_of (free_slots entries (reading_of first) c s))
    reads_freed c low high s free = elim (cases_lt c 8) [
      | inl small ↦
          let put = freed.freed c s low (omega arith) free in
          slot_at-small now c s low (omega arith) ∙ ap (read_small all_classes c) put.is
          ∙ tombstones_again all_classes c floor put.link fits put.small
          ∙ ap (Tombstone floor) put.link_is
      | inr large ↦
          let put = freed.large_freed c s large high (inl (omega arith)) free in
          slot_at-large now c s large high ∙ ap (read_large all_classes c) put.is
          ∙ large_tombstones_again all_classes c floor put.link (drop 1 (large_slot first c s)) fits
          put.small
          ∙ ap (Tombstone floor) put.link_is
    ]

    -- the ends stay
    end-stays : (c : ℕ) → 1 ≤ c → c ≤ 11 → IsEndOf first c (get_or ends c 0)
        → IsEndOf now c (get_or ends c 0)
    end-stays c low high end = record {
      small = λ small. record {
        rest = λ slot from. subst IsZeros (sym (freed.kept c slot low small
            (λ free. let below = free.below in omega arith))) ((end.small small).rest slot from);
        last = λ slot is zeros.
            elim (is_free entries (reading_of first) (get_or ends c 0) c slot) [
              | inl free ↦
                  let reads = sym (slot_at-small now c slot low small)
                  ∙ reads_freed c low high slot free in
                  let never = read_zeros c (small_slot now c slot)
                  (record { count = length (small_slot now c slot); is = zeros }) in
                  cc
              | inr not_free ↦ (end.small small).last slot is
                  (subst IsZeros (freed.kept c slot low small not_free) zeros)
            ];
      };
      large = λ large. record {
        rest = λ slot from. subst AreZeroPages (sym (freed.large_kept c slot large high
            (λ _ free. let below = free.below in omega arith))) ((end.large large).rest slot from);
        last = λ slot is zeros.
            elim (is_free entries (reading_of first) (get_or ends c 0) c slot) [
              | inl free ↦
                  let reads = sym (slot_at-large now c slot large high)
                  ∙ reads_freed c low high slot free in
                  let never = read_zero_pages c (large_slot now c slot) zeros in
                  cc
              | inr not_free ↦ (end.large large).last slot is
                  (subst AreZeroPages (freed.large_kept c slot large high
                  (λ _ free. not_free free)) zeros)
            ];
      };
    }

    module _ (c : ℕ) (low : 1 ≤ c) (high : c ≤ 11) where
      kept-then : (s : ℕ) → HasKept (reading_of now) worker workers c s
          → HasKept (reading_of first) worker workers c s
      kept-then s has = record {
        key = has.key;
        copy = has.copy;
        kept = (kept_same (reading_of first) (reading_of now) worker workers floor
            (frees (λ x. get_or ends x 0) fits now freed-may) keeps_each has.key has.copy).1
            has.kept;
        class_is = has.class_is;
        slot_is = has.slot_is;
      }

      kept-now : (s : ℕ) → HasKept (reading_of first) worker workers c s
          → HasKept (reading_of now) worker workers c s
      kept-now s has = record {
        key = has.key;
        copy = has.copy;
        kept = kept_still (reading_of first) (reading_of now) worker workers floor
            (frees (λ x. get_or ends x 0) fits now freed-may) has.key has.copy has.kept;
        class_is = has.class_is;
        slot_is = has.slot_is;
      }

      -- what stands in a slot that wasn't freed
      kept_reads : (s : ℕ) → (IsFree entries (reading_of first) (get_or ends c 0) c s → ⊥)
          → reading_of now c s ≡ reading_of first c s
      kept_reads s not_free = elim (cases_lt c 8) [
        | inl small ↦ slot_at-small now c s low (omega arith)
            ∙ ap (read_small all_classes c) (freed.kept c s low (omega arith) not_free)
            ∙ sym (slot_at-small first c s low (omega arith))
        | inr large ↦ slot_at-large now c s large high
            ∙ ap (read_large all_classes c) (freed.large_kept c s large high (λ _ free. not_free free))
            ∙ sym (slot_at-large first c s large high)
      ]

      -- the list of a class
      pub has-list : (stack : Tail) → IsEndOf first c (get_or ends c 0)
          → StandsFor stack (free_slots entries (reading_of first) c (get_or ends c 0))
          → HasClassList now worker workers entries floor c (get_or ends c 0) stack
      unfolding free_slots
      has-list stack end stands =
          let end_c = get_or ends c 0 in
          let p : ℕ → Bool = λ s. not (is_entry entries c s (reading_of first c s)) in
          let list = free_slots entries (reading_of first) c end_c in
          let free_at : (i s : ℕ) → slice_get list i ≡ Some s
          → IsFree entries (reading_of first) end_c c s = λ i s is.
          (let at = nth p end_c i s is in
          record { below = at.below; none = not-true _ at.passes }) in
          record {
            list = list;
            list_is = free_slots-same entries (reading_of first) (reading_of now) c end_c
                (λ s below. elim (is_free entries (reading_of first) end_c c s) [
                  | inl free ↦ free.none ∙ sym (ap (is_entry entries c s)
                      (reads_freed c low high s free))
                  | inr not_free ↦ ap (is_entry entries c s) (sym (kept_reads s not_free))
                ]);
            end_is = end-stays c low high end;
            free = record {
              rising = λ i j s t less one two. rises p end_c i j s t less one two;
              free = λ i s is. (
                (nth p end_c i s is).below,
                (λ has. not-kept end_c c s (free_at i s is) (kept-then s has)),
              );
              all = λ s below none. all p end_c s below (elim (cases_Bool
                  (is_entry entries c s (reading_of first c s)))
                  as (λ _. not (is_entry entries c s (reading_of first c s)) ≡ true) [
                    | inl entry ↦ absurd (none (kept-now s (entry-kept c s entry)))
                    | inr not_entry ↦ not_from_false _ not_entry
                  ]);
            };
            links = λ place slot is.
                let at = nth p end_c place slot is in
                reads_freed c low high slot (free_at place slot is)
                ∙ ap (Tombstone floor)
                (same_link (free_slots entries (reading_of first) c slot) list place at.count
                at.front);
            stands = stands;
          }
