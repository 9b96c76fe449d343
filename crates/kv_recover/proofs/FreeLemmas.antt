-- One page more of an image is freed.
use Rattle.std.proofs.Common.{◌≡◌, ◌⊎◌, inl, inr, ℕ, zero, suc, ◌+◌, ◌-◌, ◌*◌, ◌/◌, ◌^◌, ◌<◌, ◌≤◌}
use Rattle.std.proofs.Common.{List}
use Rattle.std.proofs.Common.{refl, sym, ap, ◌∙◌, subst, arith}
use Rattle.std.proofs.lemmas.Bool.{cases_lt, cases_eq, cases_Bool, cond-true, le-leb}
use Rattle.std.proofs.Math.Nat.{div-add-mod, mul-le-mul_right}
use Rattle.kv_base.specs.Image.{Image, with_page}
use Rattle.kv_base.proofs.ImageLemmas.{with_page-here, with_page-other}
use Rattle.kv_index.specs.Entries.{Entries}
use Rattle.kv_model.specs.Layout.{all_classes, is_small, slots_in_page}
use Rattle.kv_model.specs.Recovery.{most_pages}
use Rattle.kv_model.specs.Slots.{read_small}
use Rattle.kv_model.specs.Reading.{Reading, page_of, small_slot}
use Rattle.kv_recover.specs.SoFar.{IsBefore}
use Rattle.kv_recover.specs.Pass.{bytes_in}
use Rattle.kv_recover.specs.Free.{is_entry, IsFree, IsFreedSlot, FreesPage, reading_of}
use Rattle.kv_recover.specs.Free.{SlotMayBeFreed, MayBeFreed, IsFreed}
use Rattle.kv_recover.proofs.PassLemmas.{slot_at-small, page_of-within}

-- the image now has this content on the page, and all other pages as before
pub record Puts (old : Image) (file page : ℕ) (content : List ℕ) (now : Image) : Type 0 where
  pub here : now file page ≡ content
  pub others : (f p : ℕ) → (f ≡ file → p ≡ page → ⊥) → now f p ≡ old f p

pub puts-with : (old : Image) (file page : ℕ) (content : List ℕ)
    → Puts old file page content (with_page old file page content)
puts-with old file page content = record {
  here = with_page-here old file page content;
  others = with_page-other old file page content;
}

-- the pages of the most slots have just these slots
most_whole : (class : ℕ) → 1 ≤ class → class ≤ 7
    → most_pages class * slots_in_page class ≡ 2 ^ 24
most_whole zero low high = absurd (omega arith)
most_whole (suc zero) low high = refl
most_whole (suc (suc zero)) low high = refl
most_whole (suc (suc (suc zero))) low high = refl
most_whole (suc (suc (suc (suc zero)))) low high = refl
most_whole (suc (suc (suc (suc (suc zero))))) low high = refl
most_whole (suc (suc (suc (suc (suc (suc zero)))))) low high = refl
most_whole (suc (suc (suc (suc (suc (suc (suc zero))))))) low high = refl
most_whole (suc (suc (suc (suc (suc (suc (suc (suc class)))))))) low high = absurd (omega arith)

-- a page with one of the most slots is one of their pages
pub in_most : (class number : ℕ) → 1 ≤ class → class ≤ 7 → number * slots_in_page class < 2 ^ 24
    → number < most_pages class
in_most class number low high below = elim (cases_lt number (most_pages class)) [
  | inl within ↦ within
  | inr past ↦
      let all = mul-le-mul_right (slots_in_page class) past in
      let whole = most_whole class low high in
      absurd (omega (arith, all, whole, below))
]

-- a slot is free or not
pub is_free : (entries : Entries) (reading : Reading) (end class slot : ℕ)
    → IsFree entries reading end class slot ⊎ (IsFree entries reading end class slot → ⊥)
is_free entries reading end class slot = elim (cases_lt slot end) [
  | inl below ↦ elim (cases_Bool (is_entry entries class slot (reading class slot))) [
    | inl entry ↦ inr (λ free. let none = free.none in absurd (cc))
    | inr none ↦ inl (record { below = below; none = none })
  ]
  | inr above ↦ inr (λ free. let below = free.below in omega arith)
]

module _ (entries : Entries) (first : Image) (ends : ℕ → ℕ) (floor class number last : ℕ)
    (low : 1 ≤ class) (high : class ≤ 7) (start : ℕ)
    (start_is : start ≡ number * slots_in_page class) (after : start ≤ last)
    (limit : last ≤ start + slots_in_page class) (within : number < most_pages class) where
  -- a later place is behind all that are before an earlier one
  up : (c s : ℕ) → IsBefore c s class start → IsBefore c s class last
  up c s before = elim before as (λ _. IsBefore c s class last) [
    | inl below ↦ inl below
    | inr at ↦ inr (at.0, omega (arith, at.1))
  ]

  -- a slot of another page that is before the last is before the start
  other_page : (s : ℕ) → (page_of class s ≡ number → ⊥) → s < last → IsBefore class s class start
  other_page s other below = elim (cases_lt s start) [
    | inl before ↦ inr (refl, before)
    | inr from ↦ absurd (other (
        let n = slots_in_page class in
        let split : number * n + (s - number * n) ≡ s = omega arith in
        subst (λ x. page_of class x ≡ number) split
        (page_of-within class number (s - number * n) n high refl (omega arith))))
  ]

  -- a slot of another page may have been freed before
  elsewhere : (before now : Image) → MayBeFreed entries first ends floor class start before
      → (c s : ℕ) → 1 ≤ c → c ≤ 7 → small_slot now c s ≡ small_slot before c s
      → SlotMayBeFreed entries first ends floor class last now c s
  elsewhere before now may c s c_low c_high stays = elim (may.slots c s c_low c_high) [
    | inl same ↦ inl (stays ∙ same)
    | inr freed ↦ inr (
      up c s freed.0,
      freed.1,
      subst (IsFreedSlot entries (reading_of first) c floor s) (sym stays) freed.2,
    )
  ]

  -- the page isn't past the most pages of its class
  not_past : (f p : ℕ) → most_pages f ≤ p → f ≡ class → p ≡ number → ⊥
  not_past f p from file page =
      let most : most_pages class ≤ p = subst (λ x. most_pages x ≤ p) file from in omega arith

  -- a slot of the page isn't before its first
  from_start : (s : ℕ) → page_of class s ≡ number → start ≤ s
  from_start s page =
      let n = slots_in_page class in
      let at : s / n ≡ number = sym (cond-true (is_small class) _ _ (le-leb class 7 high)) ∙ page in
      let sum = div-add-mod s n in
      let same : n * (s / n) ≡ n * number = ap (λ p. n * p) at in
      omega arith

  -- a slot of the page is as it was in the first image
  pub page_first : (seen : Image) → IsFreed entries first ends floor class start seen → (s : ℕ)
      → page_of class s ≡ number → small_slot seen class s ≡ small_slot first class s
  page_first seen freed s page = freed.kept class s low high
      (λ before _. let from = from_start s page in omega (arith, before))

  -- and reads so from the page
  pub page_reads : (seen : Image) (page : List ℕ) → page ≡ seen class number
      → IsFreed entries first ends floor class start seen → (s : ℕ) → page_of class s ≡ number
      → reading_of first class s ≡ read_small all_classes class (bytes_in page class s)
  page_reads seen page page_is freed s at =
      slot_at-small first class s low high
      ∙ ap (read_small all_classes class) (sym (page_first seen freed s at)
      ∙ ap (λ p. bytes_in (seen class p) class s) at
      ∙ ap (λ p. bytes_in p class s) (sym page_is))

  module _ (seen : Image) (freed : IsFreed entries first ends floor class start seen)
      (page content : List ℕ) (page_is : page ≡ seen class number)
      (frees : FreesPage entries (reading_of first) (ends class) class floor number last page
      content) where
    -- a slot of the page that isn't freed now is as in the first image
    page_kept : (s : ℕ) → page_of class s ≡ number
        → (s < last → IsFree entries (reading_of first) (ends class) class s → ⊥)
        → bytes_in content class s ≡ small_slot first class s
    page_kept s at not_freed = frees.kept s at not_freed
        ∙ ap (λ p. bytes_in p class s) page_is
        ∙ ap (λ p. bytes_in (seen class p) class s) (sym at) ∙ page_first seen freed s at

    -- an image that a crash may leave, with the page
    pub may-write : (before now : Image) → Puts before class number content now
        → MayBeFreed entries first ends floor class start before
        → MayBeFreed entries first ends floor class last now
    may-write before now puts may = record {
      slots = λ c s c_low c_high. elim (cases_eq c class) [
        | inl same ↦ subst (λ x. SlotMayBeFreed entries first ends floor class last now x s)
            (sym same) (elim (cases_eq (page_of class s) number) [
              | inl at ↦
                  let here : small_slot now class s ≡ bytes_in content class s =
                  ap (λ p. bytes_in (now class p) class s) at
                  ∙ ap (λ p. bytes_in p class s) puts.here in
                  elim (cases_lt s last) [
                    | inl below ↦ elim (is_free entries (reading_of first) (ends class) class s) [
                      | inl free ↦ inr (
                        inr (refl, below),
                        free,
                        subst (IsFreedSlot entries (reading_of first) class floor s) (sym here)
                            (frees.freed s at below free),
                      )
                      | inr not_free ↦ inl (here ∙ page_kept s at (λ _ free. not_free free))
                    ]
                    | inr above ↦ inl (here ∙ page_kept s at (λ below _. absurd (omega arith)))
                  ]
              | inr other ↦
                  let stays : small_slot now class s ≡ small_slot before class s =
                  ap (λ p. bytes_in p class s)
                  (puts.others class (page_of class s) (λ _ is. other is)) in
                  elsewhere before now may class s low high stays
            ])
        | inr other ↦
            let stays : small_slot now c s ≡ small_slot before c s =
            ap (λ p. bytes_in p c s) (puts.others c (page_of c s) (λ is _. other is)) in
            elsewhere before now may c s c_low c_high stays
      ];
      others = λ f p out. puts.others f p (λ is _. omega (arith, out)) ∙ may.others f p out;
      past = λ f p from. puts.others f p (not_past f p from) ∙ may.past f p from;
    }

    -- the disk's image, with the page
    pub freed-write : (now : Image) → Puts seen class number content now
        → IsFreed entries first ends floor class last now
    freed-write now puts = record {
      freed = λ c s c_low c_high before free. elim (cases_eq c class) [
        | inl same ↦
            let free_here = subst (λ x. IsFree entries (reading_of first) (ends x) x s) same free in
            subst (λ x. IsFreedSlot entries (reading_of first) x floor s (small_slot now x s))
            (sym same) (elim (cases_eq (page_of class s) number) [
              | inl at ↦ subst (IsFreedSlot entries (reading_of first) class floor s)
                  (sym (ap (λ p. bytes_in (now class p) class s) at
                  ∙ ap (λ p. bytes_in p class s) puts.here))
                  (frees.freed s at (omega (arith, before)) free_here)
              | inr other ↦ subst (IsFreedSlot entries (reading_of first) class floor s)
                  (sym (ap (λ p. bytes_in p class s)
                  (puts.others class (page_of class s) (λ _ is. other is))))
                  (freed.freed class s low high (other_page s other (omega (arith, before))) free_here)
            ])
        | inr other ↦ subst (IsFreedSlot entries (reading_of first) c floor s)
            (sym (ap (λ p. bytes_in p c s) (puts.others c (page_of c s) (λ is _. other is))))
            (freed.freed c s c_low c_high (elim before [
              | inl below ↦ inl below
              | inr at ↦ absurd (other at.0)
            ]) free)
      ];
      kept = λ c s c_low c_high not_freed. elim (cases_eq c class) [
        | inl same ↦
            let not_here : s < last → IsFree entries (reading_of first) (ends class) class s → ⊥ =
            λ below free. not_freed (inr (same, below))
            (subst (λ x. IsFree entries (reading_of first) (ends x) x s) (sym same) free) in
            subst (λ x. small_slot now x s ≡ small_slot first x s) (sym same)
            (elim (cases_eq (page_of class s) number) [
              | inl at ↦ ap (λ p. bytes_in (now class p) class s) at
                  ∙ ap (λ p. bytes_in p class s) puts.here ∙ page_kept s at not_here
              | inr other ↦ ap (λ p. bytes_in p class s)
                  (puts.others class (page_of class s) (λ _ is. other is))
                  ∙ freed.kept class s low high (λ before free. not_here (omega (arith, before))
                  free)
            ])
        | inr other ↦ ap (λ p. bytes_in p c s) (puts.others c (page_of c s) (λ is _. other is))
            ∙ freed.kept c s c_low c_high (λ before free. not_freed (up c s before) free)
      ];
      others = λ f p out. puts.others f p (λ is _. omega (arith, out)) ∙ freed.others f p out;
      past = λ f p from. puts.others f p (not_past f p from) ∙ freed.past f p from;
    }

  -- a page that would not change needs no write
  pub puts-same : (seen : Image) (content : List ℕ) → content ≡ seen class number
      → Puts seen class number content seen
  puts-same seen content is = record { here = sym is; others = λ f p _. refl }

  -- the free slots may have been freed further on
  pub may-up : (image : Image) → MayBeFreed entries first ends floor class start image
      → MayBeFreed entries first ends floor class last image
  may-up image may = record {
    slots = λ c s c_low c_high. elsewhere image image may c s c_low c_high refl;
    others = may.others;
    past = may.past;
  }

-- up to a later place
pub may-later : (entries : Entries) (first : Image) (ends : ℕ → ℕ) (floor a b c d : ℕ)
    (image : Image) → ((class slot : ℕ) → IsBefore class slot a b → IsBefore class slot c d)
    → MayBeFreed entries first ends floor a b image → MayBeFreed entries first ends floor c d image
may-later entries first ends floor a b c d image up may = record {
  slots = λ class slot low high. elim (may.slots class slot low high) [
    | inl same ↦ inl same
    | inr freed ↦ inr (up class slot freed.0, freed.1, freed.2)
  ];
  others = may.others;
  past = may.past;
}
