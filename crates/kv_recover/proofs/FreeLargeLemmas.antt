-- One slot of the classes 8 to 11 more is freed.
use Rattle.std.proofs.Common.{◌≡◌, inl, inr, ℕ, zero, suc, ◌+◌, ◌-◌, ◌*◌, ◌<◌, ◌≤◌, ◌^◌, List, ◌∷◌}
use Rattle.std.proofs.Common.{map, drop, Option, IfSome, refl, sym, ap, ◌∙◌, subst, subst₂, arith}
use Rattle.std.specs.List.{range_with_len}
use Rattle.std.proofs.lemmas.Bool.{cases_lt, cases_eq, cond-false, lt-leb}
use Rattle.std.proofs.lemmas.Nat.{pow_pos}
use Rattle.std.proofs.Math.Nat.{mul-le-mul_right}
use Rattle.kv_base.specs.Image.{Image}
use Rattle.kv_free.specs.FreeList.{link_of}
use Rattle.kv_index.specs.Entries.{Entries}
use Rattle.kv_model.specs.Layout.{is_small, pages_in_slot}
use Rattle.kv_model.specs.Recovery.{most_pages}
use Rattle.kv_model.specs.SlotBytes.{tombstone_bytes}
use Rattle.kv_model.specs.Reading.{page_of, large_slot, small_slot}
use Rattle.kv_recover.specs.SoFar.{IsBefore}
use Rattle.kv_recover.specs.Pass.{bytes_in}
use Rattle.kv_recover.specs.Free.{free_slots, IsFree, IsFreedSlot, reading_of}
use Rattle.kv_recover.specs.FreeLarge.{IsFreedLarge, LargeMayBeFreed, AnyMayBeFreed, AreFreed}
use Rattle.kv_recover.proofs.FreeLemmas.{Puts}

-- pages that are the same one by one
pub same_pages : (f g : ℕ → List ℕ) (first n : ℕ)
    → ((p : ℕ) → first ≤ p → p < first + n → f p ≡ g p)
    → map f (range_with_len first n) ≡ map g (range_with_len first n)
same_pages f g first zero same = refl
same_pages f g first (suc n) same =
    ap (λ x. x ∷ map f (range_with_len (first + 1) n)) (same first (omega arith) (omega arith))
    ∙ ap (λ xs. g first ∷ xs) (same_pages f g (first + 1) n
    (λ p from below. same p (omega arith) (omega arith)))

-- the first page of a slot, and its later ones
pub large_split : (image : Image) (c s : ℕ) → large_slot image c s
    ≡ image c (page_of c s) ∷ map (image c) (range_with_len (page_of c s + 1) (pages_in_slot c - 1))
large_split image c s =
    let count : pages_in_slot c ≡ suc (pages_in_slot c - 1) = omega (arith, pow_pos (c - 7)) in
    ap (λ n. map (image c) (range_with_len (page_of c s) n)) count

large_page : (c s : ℕ) → 8 ≤ c → page_of c s ≡ s * pages_in_slot c
large_page c s low = cond-false (is_small c) _ _ (lt-leb c 7 (omega arith))

module _ (entries : Entries) (first : Image) (ends : ℕ → ℕ) (floor class slot : ℕ)
    (low : 8 ≤ class) (high : class ≤ 11) (within : slot < 2 ^ 24) where
  up : (c s : ℕ) → IsBefore c s class slot → IsBefore c s class (slot + 1)
  up c s before = elim before as (λ _. IsBefore c s class (slot + 1)) [
    | inl below ↦ inl below
    | inr at ↦ inr (at.0, omega (arith, at.1))
  ]

  down : (c s : ℕ) → (c ≡ class → s ≡ slot → ⊥) → IsBefore c s class (slot + 1)
      → IsBefore c s class slot
  down c s other before = elim before as (λ _. IsBefore c s class slot) [
    | inl below ↦ inl below
    | inr at ↦ elim (cases_eq s slot) [
      | inl same ↦ absurd (other at.0 same)
      | inr differ ↦ inr (at.0, let apart : (s ≡ slot) → ⊥ = differ in omega (arith, at.1))
    ]
  ]

  -- the slot isn't freed: the next is at hand
  pub any-up : (image : Image) → AnyMayBeFreed entries first ends floor class slot image
      → AnyMayBeFreed entries first ends floor class (slot + 1) image
  any-up image may = record {
    slots = may.slots;
    large = λ c s c_low c_high. elim (may.large c s c_low c_high) [
      | inl same ↦ inl same
      | inr freed ↦ inr (up c s freed.0, freed.1, freed.2)
    ];
    others = may.others;
    past = may.past;
  }

  pub are-up : (image : Image)
      → (IsFree entries (reading_of first) (ends class) class slot → ⊥)
      → AreFreed entries first ends floor class slot image
      → AreFreed entries first ends floor class (slot + 1) image
  are-up image not_free are = record {
    freed = are.freed;
    kept = are.kept;
    large_freed = λ c s c_low c_high before free. are.large_freed c s c_low c_high
        (down c s (λ same_class same_slot. not_free
        (subst (λ x. IsFree entries (reading_of first) (ends x) x slot) same_class
        (subst (λ x. IsFree entries (reading_of first) (ends c) c x) same_slot free))) before) free;
    large_kept = λ c s c_low c_high not_freed. are.large_kept c s c_low c_high
        (λ before free. not_freed (up c s before) free);
    others = are.others;
    past = are.past;
  }

  module _ (old now : Image) (content : List ℕ)
      (puts : Puts old class (page_of class slot) content now) where
    -- its first page isn't past the most pages of its class
    not_past : (f p : ℕ) → most_pages f ≤ p → f ≡ class → p ≡ page_of class slot → ⊥
    not_past f p from file page =
        let most : most_pages class ≤ p = subst (λ x. most_pages x ≤ p) file from in
        let most_is : most_pages class ≡ 2 ^ 24 * pages_in_slot class =
        cond-false (is_small class) _ _ (lt-leb class 7 (omega arith)) in
        let next : slot + 1 ≤ 2 ^ 24 = omega arith in
        let all = mul-le-mul_right (pages_in_slot class) next in
        omega (arith, large_page class slot low, all, pow_pos (class - 7))

    -- a slot of another file
    other_file : (c s : ℕ) → (c ≡ class → ⊥) → large_slot now c s ≡ large_slot old c s
    other_file c s other = same_pages (now c) (old c) (page_of c s) (pages_in_slot c)
        (λ p from below. puts.others c p (λ same _. other same))

    -- another slot of the class
    other_slot : (s : ℕ) → (s ≡ slot → ⊥) → large_slot now class s ≡ large_slot old class s
    other_slot s other = same_pages (now class) (old class) (page_of class s) (pages_in_slot class)
        (λ p from below. puts.others class p (λ _ is.
        let here = large_page class s low in
        let there = large_page class slot low in
        elim (cases_lt s slot) [
          | inl less ↦
              let next : s + 1 ≤ slot = omega arith in
              let all = mul-le-mul_right (pages_in_slot class) next in
              omega (arith, here, there, all)
          | inr more ↦
              let differ : (s ≡ slot) → ⊥ = other in
              let next : slot + 1 ≤ s = omega arith in
              let all = mul-le-mul_right (pages_in_slot class) next in
              omega (arith, here, there, all, pow_pos (class - 7))
        ]))

    -- the slot itself
    this_slot : large_slot now class slot ≡ content ∷ drop 1 (large_slot old class slot)
    this_slot = large_split now class slot
        ∙ ap (λ x. x ∷ map (now class) (range_with_len (page_of class slot + 1)
        (pages_in_slot class - 1))) puts.here
        ∙ ap (λ xs. content ∷ xs) (same_pages (now class) (old class) (page_of class slot + 1)
        (pages_in_slot class - 1) (λ p from below. puts.others class p (λ _ is. omega arith)))
        ∙ ap (λ xs. content ∷ drop 1 xs) (sym (large_split old class slot))

    -- a slot that is as it was may have been freed before
    further : (c s : ℕ) → large_slot now c s ≡ large_slot old c s
        → LargeMayBeFreed entries first ends floor class slot old c s
        → LargeMayBeFreed entries first ends floor class (slot + 1) now c s
    further c s same may = elim may [
      | inl was ↦ inl (same ∙ was)
      | inr freed ↦ inr (
        up c s freed.0,
        freed.1,
        subst (IsFreedLarge entries (reading_of first) c floor s (large_slot first c s)) (sym same)
            freed.2,
      )
    ]

    small_same : (c s : ℕ) → c ≤ 7 → small_slot now c s ≡ small_slot old c s
    small_same c s small = ap (λ p. bytes_in p c s)
        (puts.others c (page_of c s) (λ same _. omega arith))

    module _ (link : Option ℕ) (content_is : content ≡ tombstone_bytes class floor link)
        (link_is : link ≡ link_of (free_slots entries (reading_of first) class slot))
        (small : IfSome link (λ other. other < 2 ^ 24))
        (free : IsFree entries (reading_of first) (ends class) class slot) where
      freed_here : large_slot old class slot ≡ large_slot first class slot
          → IsFreedLarge entries (reading_of first) class floor slot (large_slot first class slot)
          (large_slot now class slot)
      freed_here same = record {
        link = link;
        link_is = link_is;
        small = small;
        is = this_slot ∙ ap (λ x. x ∷ drop 1 (large_slot old class slot)) content_is
            ∙ ap (λ xs. tombstone_bytes class floor link ∷ drop 1 xs) same;
      }

      -- an image that a crash may leave, with the page
      pub any-put : AnyMayBeFreed entries first ends floor class slot old
          → AnyMayBeFreed entries first ends floor class (slot + 1) now
      any-put may = record {
        slots = λ c s c_low c_high. elim (may.slots c s c_low c_high) [
          | inl same ↦ inl (small_same c s c_high ∙ same)
          | inr freed ↦ inr (
            freed.0,
            freed.1,
            subst (IsFreedSlot entries (reading_of first) c floor s)
                (sym (small_same c s c_high)) freed.2,
          )
        ];
        large = λ c s c_low c_high. elim (cases_eq c class) [
          | inl same ↦ subst (λ x. LargeMayBeFreed entries first ends floor class (slot + 1) now x
              s) (sym same) (elim (cases_eq s slot) [
                | inl here ↦ subst (LargeMayBeFreed entries first ends floor class (slot + 1) now
                    class) (sym here) (inr (
                      inr (refl, omega arith),
                      free,
                      freed_here (elim (may.large class slot low high) [
                        | inl was ↦ was
                        | inr freed ↦ absurd (omega (arith, freed.0))
                      ]),
                    ))
                | inr other ↦ further class s (other_slot s other) (may.large class s low high)
              ])
          | inr other ↦ further c s (other_file c s other) (may.large c s c_low c_high)
        ];
        others = λ f p out. puts.others f p (λ same _. omega (arith, out)) ∙ may.others f p out;
        past = λ f p from. puts.others f p (not_past f p from) ∙ may.past f p from;
      }

      -- the disk's image, with the page
      pub are-put : AreFreed entries first ends floor class slot old
          → AreFreed entries first ends floor class (slot + 1) now
      are-put are = record {
        freed = λ c s c_low c_high free_at. subst (IsFreedSlot entries (reading_of first) c floor s)
            (sym (small_same c s c_high)) (are.freed c s c_low c_high free_at);
        kept = λ c s c_low c_high not_free. small_same c s c_high
            ∙ are.kept c s c_low c_high not_free;
        large_freed = λ c s c_low c_high before free_at. elim (cases_eq c class) [
          | inl same ↦ elim (cases_eq s slot) [
            | inl here ↦ subst₂ (λ x y. IsFreedLarge entries (reading_of first) x floor y
                (large_slot first x y) (large_slot now x y)) (sym same) (sym here)
                (freed_here (are.large_kept class slot low high
                (λ before_it _. omega (arith, before_it))))
            | inr other ↦ subst (IsFreedLarge entries (reading_of first) c floor s
                (large_slot first c s)) (sym (subst (λ x. large_slot now x s ≡ large_slot old x s)
                (sym same) (other_slot s other)))
                (are.large_freed c s c_low c_high (down c s (λ _ is. other is) before) free_at)
          ]
          | inr other ↦ subst (IsFreedLarge entries (reading_of first) c floor s
              (large_slot first c s)) (sym (other_file c s other))
              (are.large_freed c s c_low c_high (down c s (λ is _. other is) before) free_at)
        ];
        large_kept = λ c s c_low c_high not_freed. elim (cases_eq c class) [
          | inl same ↦ elim (cases_eq s slot) [
            | inl here ↦ absurd (not_freed (inr (same, omega arith))
                (subst₂ (λ x y. IsFree entries (reading_of first) (ends x) x y) (sym same)
                (sym here) free))
            | inr other ↦ subst (λ x. large_slot now x s ≡ large_slot old x s) (sym same)
                (other_slot s other)
                ∙ are.large_kept c s c_low c_high (λ before is_free. not_freed (up c s before)
                is_free)
          ]
          | inr other ↦ other_file c s other
              ∙ are.large_kept c s c_low c_high (λ before is_free. not_freed (up c s before)
              is_free)
        ];
        others = λ f p out. puts.others f p (λ same _. omega (arith, out)) ∙ are.others f p out;
        past = λ f p from. puts.others f p (not_past f p from) ∙ are.past f p from;
      }
