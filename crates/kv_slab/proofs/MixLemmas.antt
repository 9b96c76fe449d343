-- Images inside a round, of which each page is as before it or as behind it.
use Rattle.std.specs.List.{slice_get}
use Rattle.std.proofs.Common.{◌≡◌, ◌⊎◌, inl, inr, ◌∙◌, ℕ, zero, suc, ◌+◌, ◌*◌, ◌%◌, ◌<◌, ◌≤◌}
use Rattle.std.proofs.Common.{List, [], ◌∷◌, length, take, drop, Option, None, Some, refl, sym, ap}
use Rattle.std.proofs.Common.{arith}
use Rattle.std.proofs.lemmas.Bool.{cases_eq}
use Rattle.std.proofs.lemmas.Nat.{mod-mul-add}
use Rattle.kv_base.specs.Image.{Image}
use Rattle.kv_base.specs.declared.place.Place.{Place}
use Rattle.kv_base.proofs.ImageLemmas.{one_place}
use Rattle.kv_model.specs.Layout.{all_classes, slot_size, pages_in_slot}
use Rattle.kv_model.specs.Reading.{page_of, offset_of, slot_at}
use Rattle.kv_model.specs.Slots.{read_small}
use Rattle.kv_slab.specs.Images.{Mix, SameSlot, IsZeroSlot, StillLater}
use Rattle.kv_slab.specs.Rounds.{IsPlace}
use Rattle.kv_slab.specs.declared.moves.Move.{Move}
use Rattle.kv_slab.proofs.SlotLemmas.{slot_at-small, slot_at-none}
use Rattle.kv_slab.proofs.SetLemmas.{slot_same, large_place}

-- some move goes to this place, or none does
pub target_or_not : (moves : List Move) (c s : ℕ) → ((i : ℕ) × (m : Move) × (p : Place)
    × (slice_get moves i ≡ Some m) × (m.to ≡ Some p) × IsPlace c s p.class p.slot)
    ⊎ ((i : ℕ) (m : Move) (p : Place) → slice_get moves i ≡ Some m → m.to ≡ Some p
    → IsPlace c s p.class p.slot → ⊥)
target_or_not [] c s = inr (λ i m p at to here. absurd (cc))
target_or_not (x ∷ moves) c s = elim (here_or_not x.to refl) [
  | inl here ↦ inl (0, x, here.0, refl, here.1, here.2)
  | inr not_here ↦ elim (target_or_not moves c s) [
    | inl later ↦ inl (suc later.0, later.1, later.2, later.3, later.4, later.5)
    | inr none ↦ inr (none_of not_here none)
  ]
]
  where
    here_or_not : (o : Option Place) → x.to ≡ o → ((p : Place) × (x.to ≡ Some p)
        × IsPlace c s p.class p.slot) ⊎ ((p : Place) → x.to ≡ Some p
        → IsPlace c s p.class p.slot → ⊥)
    here_or_not None is = inr (λ p to here. absurd (let e = sym is ∙ to in cc))
    here_or_not (Some q) is = elim (one_place c s q.class q.slot) [
      | inl same ↦ inl (q, is, same)
      | inr far ↦ inr (λ p to here.
          let e : q ≡ p = (let f = sym is ∙ to in cc) in
          far (here.0 ∙ ap (λ (y : Place). y.class) (sym e))
          (here.1 ∙ ap (λ (y : Place). y.slot) (sym e)))
    ]

    none_of : ((p : Place) → x.to ≡ Some p → IsPlace c s p.class p.slot → ⊥)
        → ((i : ℕ) (m : Move) (p : Place) → slice_get moves i ≡ Some m → m.to ≡ Some p
        → IsPlace c s p.class p.slot → ⊥)
        → (i : ℕ) (m : Move) (p : Place) → slice_get (x ∷ moves) i ≡ Some m → m.to ≡ Some p
        → IsPlace c s p.class p.slot → ⊥
    none_of not_here none zero m p at to here =
        let e : x ≡ m = cc in
        not_here p (ap (λ (y : Move). y.to) e ∙ to) here
    none_of not_here none (suc i) m p at to here = none i m p at to here

-- a small slot lies in one page
pub mix_small : (a b image : Image) → Mix a b image → (c s : ℕ) → c ≤ 7
    → (slot_at all_classes image c s ≡ slot_at all_classes a c s)
    ⊎ (slot_at all_classes image c s ≡ slot_at all_classes b c s)
mix_small a b image mix c s to = elim (cases_eq c 0) [
  | inl none ↦ inl (ap (λ d. slot_at all_classes image d s) none ∙ slot_at-none image s
      ∙ sym (slot_at-none a s) ∙ ap (λ d. slot_at all_classes a d s) (sym none))
  | inr some ↦
      let from : 1 ≤ c = omega arith in
      elim (mix c (page_of c s)) [
        | inl one ↦ inl (slot_at-small image c s from to
            ∙ ap (λ p. read_small all_classes c (take (slot_size c) (drop (offset_of c s) p))) one
            ∙ sym (slot_at-small a c s from to))
        | inr two ↦ inr (slot_at-small image c s from to
            ∙ ap (λ p. read_small all_classes c (take (slot_size c) (drop (offset_of c s) p))) two
            ∙ sym (slot_at-small b c s from to))
      ]
]

-- a large slot that has the same bytes in both images has them in between
pub mix_still : (a b image : Image) → Mix a b image → (c s : ℕ) → 8 ≤ c → SameSlot a b c s
    → SameSlot a image c s
mix_still a b image mix c s above same = record {
  small = λ low. absurd (omega arith);
  large = λ _ page below. elim (mix c (page_of c s + page)) [
    | inl one ↦ one
    | inr two ↦ two ∙ same.large above page below
  ];
}

-- no later page of a large slot is one that a slot begins with
later_page : (c s page : ℕ) → 8 ≤ c → 1 ≤ page → page < pages_in_slot c
    → (page_of c s + page) % pages_in_slot c ≡ 0 → ⊥
later_page c s page above some below zero_is =
    let q = pages_in_slot c in
    let e : page_of c s + page ≡ s * q + page = ap (λ n. n + page) (large_place c s above) in
    let f : (page_of c s + page) % q ≡ page =
    ap (λ n. n % q) e ∙ mod-mul-add s q page below in
    omega arith

-- a large slot of which only the first page differs reads as in the one image or as in the other
pub mix_first : (a b image : Image) → Mix a b image → StillLater a b → (c s : ℕ) → 8 ≤ c → c ≤ 11
    → (slot_at all_classes image c s ≡ slot_at all_classes a c s)
    ⊎ (slot_at all_classes image c s ≡ slot_at all_classes b c s)
mix_first a b image mix still c s above limit =
    let first : page_of c s ≡ page_of c s + 0 = omega arith in
    let at_first : (im jm : Image) → im c (page_of c s) ≡ jm c (page_of c s) → (page : ℕ)
    → page ≡ 0 → im c (page_of c s + page) ≡ jm c (page_of c s + page) =
    λ im jm same page none.
    let e : page_of c s + page ≡ page_of c s = omega arith in
    ap (im c) e ∙ same ∙ ap (jm c) (sym e) in
    let later : (page : ℕ) → 1 ≤ page → page < pages_in_slot c
    → b c (page_of c s + page) ≡ a c (page_of c s + page) =
    λ page some below. still c (page_of c s + page) above limit
    (later_page c s page above some below) in
    elim (mix c (page_of c s)) [
      | inl one ↦ inl (slot_same a image c s (record {
        small = λ low. absurd (omega arith);
        large = λ _ page below. elim (cases_eq page 0) [
          | inl none ↦ at_first image a one page none
          | inr some ↦ elim (mix c (page_of c s + page)) [
            | inl is ↦ is
            | inr is ↦ is ∙ later page (omega arith) below
          ]
        ];
      }))
      | inr two ↦ inr (slot_same b image c s (record {
        small = λ low. absurd (omega arith);
        large = λ _ page below. elim (cases_eq page 0) [
          | inl none ↦ at_first image b two page none
          | inr some ↦ elim (mix c (page_of c s + page)) [
            | inl is ↦ is ∙ sym (later page (omega arith) below)
            | inr is ↦ is
          ]
        ];
      }))
    ]

-- a slot with the same bytes is zeros where it was
pub zero_same : (old new : Image) (c s : ℕ) → SameSlot old new c s → IsZeroSlot old c s
    → IsZeroSlot new c s
zero_same old new c s same zeros = record {
  small = λ low.
      let e = same.small low in
      e ∙ zeros.small low ∙ ap (λ b. Rattle.std.specs.Prelude.replicate (length b) 0) (sym e);
  large = λ above page below. same.large above page below ∙ zeros.large above page below;
}

-- what is the same in two steps is the same
pub same_then : (a b c : Image) (class slot : ℕ) → SameSlot a b class slot → SameSlot b c class slot
    → SameSlot a c class slot
same_then a b c class slot first next = record {
  small = λ low. next.small low ∙ first.small low;
  large = λ above page below. next.large above page below ∙ first.large above page below;
}
