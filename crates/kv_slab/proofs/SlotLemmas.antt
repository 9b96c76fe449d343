-- One slot of a page is written, and images are mixed page by page.
use Rattle.std.proofs.Common.{◌≡◌, ◌⊎◌, inl, inr, ℕ, zero, suc, ◌+◌, ◌-◌, ◌*◌, ◌/◌, ◌%◌, ◌^◌, ◌≤◌}
use Rattle.std.proofs.Common.{true, cond, List, length, take, drop, map, refl, sym, ap, ◌∙◌, arith}
use Rattle.std.proofs.lemmas.Bool.{cases_lt, cases_eq, cond-true, le-leb}
use Rattle.std.proofs.lemmas.Nat.{pow-add, pow_pos}
use Rattle.std.proofs.Math.Nat.{div-add-mod, mul-le-mul_right, mod-lt}
use Rattle.std.specs.List.{range_with_len}
use Rattle.kv_base.specs.Image.{Image, with_page}
use Rattle.kv_base.proofs.ImageLemmas.{one_place, with_page-at, with_page-other}
use Rattle.kv_model.specs.Layout.{all_classes, is_small, slot_size, slots_in_page, pages_in_slot}
use Rattle.kv_model.specs.Reading.{page_of, offset_of, small_slot, slot_at, has_class}
use Rattle.kv_model.specs.Slots.{Slot, Never, read_small, read_large}
use Rattle.kv_slot.specs.Overwrite.{overwritten}
use Rattle.kv_slot.proofs.PlaceLemmas.{stay_in_place}
use Rattle.kv_slab.specs.Images.{Sets, ReadsSet, Mix}

-- the classes 1 to 11 exist
pub has_class-some : (class : ℕ) → 1 ≤ class → class ≤ 11 → has_class all_classes class ≡ true
has_class-some zero low high = absurd (omega arith)
has_class-some (suc zero) low high = refl
has_class-some (suc (suc zero)) low high = refl
has_class-some (suc (suc (suc zero))) low high = refl
has_class-some (suc (suc (suc (suc zero)))) low high = refl
has_class-some (suc (suc (suc (suc (suc zero))))) low high = refl
has_class-some (suc (suc (suc (suc (suc (suc zero)))))) low high = refl
has_class-some (suc (suc (suc (suc (suc (suc (suc zero))))))) low high = refl
has_class-some (suc (suc (suc (suc (suc (suc (suc (suc zero)))))))) low high = refl
has_class-some (suc (suc (suc (suc (suc (suc (suc (suc (suc zero))))))))) low high = refl
has_class-some (suc (suc (suc (suc (suc (suc (suc (suc (suc (suc zero)))))))))) low high = refl
has_class-some (suc (suc (suc (suc (suc (suc (suc (suc (suc (suc (suc zero))))))))))) low high =
    refl
has_class-some (suc (suc (suc (suc (suc (suc (suc (suc (suc (suc (suc (suc n)))))))))))) low high =
    absurd (omega arith)

-- what stands in a small slot, by its bytes
pub slot_at-small : (image : Image) (class slot : ℕ) → 1 ≤ class → class ≤ 7
    → slot_at all_classes image class slot ≡ read_small all_classes class
    (small_slot image class slot)
unfolding slot_at
slot_at-small image class slot low high =
    cond-true (has_class all_classes class) _ (Never 0) (has_class-some class low (omega arith))
    ∙ cond-true (is_small class) _ _ (le-leb class 7 high)

-- no class 0 exists
pub slot_at-none : (image : Image) (slot : ℕ) → slot_at all_classes image 0 slot ≡ Never 0
unfolding slot_at
slot_at-none image slot = refl

-- two images with the same file read the same in its slots
pub slot_at-same : (a b : Image) (class slot : ℕ) → ((p : ℕ) → a class p ≡ b class p)
    → slot_at all_classes a class slot ≡ slot_at all_classes b class slot
unfolding slot_at
slot_at-same a b class slot same =
    let files : a class ≡ b class = λ i p. same p i in
    ap (λ (file : ℕ → List ℕ). cond (has_class all_classes class)
    (cond (is_small class)
    (read_small all_classes class (take (slot_size class) (drop (offset_of class slot)
    (file (page_of class slot)))))
    (read_large all_classes class (map (λ page. file page) (range_with_len (page_of class slot)
    (pages_in_slot class)))))
    (Never 0)) files

module _ (class : ℕ) (high : class ≤ 7) where
  in_page : (slot : ℕ) → page_of class slot ≡ slot / slots_in_page class
  in_page slot = cond-true (is_small class) _ _ (le-leb class 7 high)

  at_offset : (slot : ℕ) → offset_of class slot ≡ slot % slots_in_page class * slot_size class
  at_offset slot = cond-true (is_small class) _ _ (le-leb class 7 high)

  -- the slots of a page fill it
  page_filled : slots_in_page class * slot_size class ≡ 4096
  page_filled = sym (pow-add 2 (7 - class) (class + 5))
      ∙ ap (λ n. 2 ^ n) (let sum : 7 - class + (class + 5) ≡ 12 = omega arith in sum)

  -- a slot ends in its page
  pub slot_fits : (slot : ℕ) → offset_of class slot + slot_size class ≤ 4096
  slot_fits slot =
      let below : slot % slots_in_page class + 1 ≤ slots_in_page class =
      omega (arith, mod-lt slot (pow_pos (7 - class))) in
      let all = mul-le-mul_right (slot_size class) below in
      omega (arith, at_offset slot, page_filled, all)

  -- two slots of a page are apart
  pub slots_apart : (s t : ℕ) → page_of class s ≡ page_of class t → (s ≡ t → ⊥)
      → (offset_of class s + slot_size class ≤ offset_of class t)
      ⊎ (offset_of class t + slot_size class ≤ offset_of class s)
  slots_apart s t same other =
      let n = slots_in_page class in
      let pages : s / n ≡ t / n = sym (in_page s) ∙ same ∙ in_page t in
      let first = div-add-mod s n in
      let second = div-add-mod t n in
      let both : n * (s / n) ≡ n * (t / n) = ap (λ p. n * p) pages in
      elim (cases_lt (s % n) (t % n)) [
        | inl less ↦
            let below : s % n + 1 ≤ t % n = omega arith in
            let all = mul-le-mul_right (slot_size class) below in
            inl (omega (arith, at_offset s, at_offset t, all))
        | inr more ↦
            let differ : t % n + 1 ≤ s % n = elim (cases_eq (s % n) (t % n)) [
              | inl equal ↦ absurd (other (omega arith))
              | inr apart ↦ omega arith
            ] in
            let all = mul-le-mul_right (slot_size class) differ in
            inr (omega (arith, at_offset s, at_offset t, all))
      ]

-- a page is written in one slot
pub sets_slot : (image : Image) (class slot : ℕ) (bytes content : List ℕ) → class ≤ 7
    → length (image class (page_of class slot)) ≡ 4096 → length bytes ≡ slot_size class
    → content ≡ overwritten (image class (page_of class slot)) (offset_of class slot) bytes
    → Sets class slot bytes image (with_page image class (page_of class slot) content)
sets_slot image class slot bytes content high size fits is =
    let page = image class (page_of class slot) in
    let put = stay_in_place page bytes (offset_of class slot)
    (omega (arith, slot_fits class high slot, fits, size)) in
    let new = with_page image class (page_of class slot) content in
    record {
      here = ap (λ p. take (slot_size class) (drop (offset_of class slot) p))
          (with_page-at image class (page_of class slot) content class (page_of class slot) refl
          refl ∙ is)
          ∙ ap (λ n. take n (drop (offset_of class slot) (overwritten page (offset_of class slot)
          bytes))) (sym fits)
          ∙ put.put;
      others = λ c s low other. elim (one_place c (page_of c s) class (page_of class slot)) [
        | inl one ↦
            let far : s ≡ slot → ⊥ = λ same. other (one.0, same) in
            let pages : page_of class s ≡ page_of class slot = ap (λ d. page_of d s) (sym one.0)
            ∙ one.1 in
            let same : take (slot_size class) (drop (offset_of class s)
            (overwritten page (offset_of class slot) bytes))
            ≡ take (slot_size class) (drop (offset_of class s) page) =
            elim (slots_apart class high s slot pages far) [
              | inl before ↦ put.before (offset_of class s) (slot_size class) before
              | inr behind ↦ put.behind (offset_of class s) (slot_size class)
                  (omega (arith, behind, fits))
            ] in
            ap (λ p. take (slot_size c) (drop (offset_of c s) p))
            (with_page-at image class (page_of class slot) content c (page_of c s) one.0 one.1 ∙ is)
            ∙ ap (λ d. take (slot_size d) (drop (offset_of d s)
            (overwritten page (offset_of class slot) bytes))) one.0
            ∙ same
            ∙ ap (λ d. take (slot_size d) (drop (offset_of d s) page)) (sym one.0)
            ∙ ap (λ d. take (slot_size c) (drop (offset_of c s) (image d (page_of class slot))))
            (sym one.0)
            ∙ ap (λ q. take (slot_size c) (drop (offset_of c s) (image c q))) (sym one.1)
        | inr apart ↦ ap (λ p. take (slot_size c) (drop (offset_of c s) p))
            (with_page-other image class (page_of class slot) content c (page_of c s) apart)
      ];
      files = λ f p other. with_page-other image class (page_of class slot) content f p
          (λ same _. other same);
    }

-- what stands in the slots then
pub reads_set : (class slot : ℕ) (bytes : List ℕ) (now : Slot) (old new : Image) → 1 ≤ class
    → class ≤ 7
    → read_small all_classes class bytes ≡ now → Sets class slot bytes old new
    → ReadsSet class slot now (slot_at all_classes old) (slot_at all_classes new)
reads_set class slot bytes now old new low high reads sets = record {
  here = slot_at-small new class slot low high ∙ ap (read_small all_classes class) sets.here
      ∙ reads;
  others = λ c s other. elim (cases_lt c 8) [
    | inl below ↦ elim (cases_eq c 0) [
      | inl none ↦ ap (λ d. slot_at all_classes new d s) none ∙ slot_at-none new s
          ∙ sym (slot_at-none old s) ∙ ap (λ d. slot_at all_classes old d s) (sym none)
      | inr some ↦
          let from : 1 ≤ c = omega arith in
          let to : c ≤ 7 = omega arith in
          slot_at-small new c s from to ∙ ap (read_small all_classes c) (sets.others c s to other)
          ∙ sym (slot_at-small old c s from to)
    ]
    | inr above ↦ slot_at-same new old c s (λ p. sets.files c p (λ same. omega arith))
  ];
}

-- a slot reads as in the one image or as in the other, where they differ in the files 1 to 7 alone
pub mix_slot : (a b image : Image) → ((f p : ℕ) → 8 ≤ f → b f p ≡ a f p) → Mix a b image → (c s : ℕ)
    → (slot_at all_classes image c s ≡ slot_at all_classes a c s)
    ⊎ (slot_at all_classes image c s ≡ slot_at all_classes b c s)
mix_slot a b image files mix c s = elim (cases_lt c 8) [
  | inl low ↦ elim (cases_eq c 0) [
    | inl none ↦ inl (ap (λ d. slot_at all_classes image d s) none ∙ slot_at-none image s
        ∙ sym (slot_at-none a s) ∙ ap (λ d. slot_at all_classes a d s) (sym none))
    | inr some ↦
        let from : 1 ≤ c = omega arith in
        let to : c ≤ 7 = omega arith in
        elim (mix c (page_of c s)) [
          | inl one ↦ inl (slot_at-small image c s from to
              ∙ ap (λ p. read_small all_classes c (take (slot_size c) (drop (offset_of c s) p))) one
              ∙ sym (slot_at-small a c s from to))
          | inr two ↦ inr (slot_at-small image c s from to
              ∙ ap (λ p. read_small all_classes c (take (slot_size c) (drop (offset_of c s) p))) two
              ∙ sym (slot_at-small b c s from to))
        ]
  ]
  | inr above ↦ inl (slot_at-same image a c s (λ p. elim (mix c p) [
    | inl one ↦ one
    | inr two ↦ two ∙ files c p above
  ]))
]
