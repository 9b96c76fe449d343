-- The entries of an index, taken out by rising key.
use Rattle.std.proofs.Common.{◌≡◌, ◌⊎◌, inl, inr, ℕ, ◌+◌, ◌-◌, ◌<◌, ◌≤◌, Bool, true, false, cond}
use Rattle.std.proofs.Common.{List, [], ◌∷◌, length, slice_get, Option, None, Some, Ordering}
use Rattle.std.proofs.Common.{Less, Equal, Greater, refl, sym, ap, ◌∙◌, subst, arith}
use Rattle.std.specs.Prelude.{IsSome}
use Rattle.std.specs.FinMap as finite
use Rattle.std.specs.FinMap.Entries.{find}
use Rattle.std.specs.Ordering.{nat_cmp, is_le}
use Rattle.std.specs.Cmp.Lexicographic.{slice_cmp}
use Rattle.std.proofs.lemmas.Bool.{false≢true}
use Rattle.kv_index.specs.declared.entry.Entry.{Entry}
use Rattle.kv_index.specs.Entries.{Entries, HasNoneFrom, IsUpTo}
use Rattle.kv_index.proofs.EntriesLemmas.{one_key}
use Rattle.kv_index.proofs.LookupLemmas.{get_removed, get_removed_other, len_removed, same_or_other}
use Rattle.kv_recover.specs.declared.entries.Kept.{Kept}
use Rattle.kv_recover.specs.Listed.{IsBelow, entry_of, TakesLeast, MayTakeLeast}
use Rattle.kv_recover.specs.Listed.{IsListing, AreListed}
use Rattle.kv_recover.proofs.FilteredLemmas.{get-push, get-left, get-last, get-within}

-- the empty key is at or before each key
empty_first : (key : List ℕ) → IsUpTo [] key
empty_first [] = refl
empty_first (x ∷ xs) = refl

up_to : (r : Ordering) → is_le r ≡ true → (r ≡ Less) ⊎ (r ≡ Equal)
up_to Less is = inl refl
up_to Equal is = inr refl
up_to Greater is = absurd (false≢true is)

-- a key that is at or before another one, and not the same
before_other : (a b : List ℕ) → IsUpTo a b → (b ≡ a → ⊥) → IsBelow a b
before_other a b up other = elim (up_to (slice_cmp nat_cmp a b) up) [
  | inl less ↦ less
  | inr same ↦ absurd (other (sym (one_key a b same)))
]

is_there : (o : Option Entry) (entry : Entry) → o ≡ Some entry → IsSome o
is_there o entry is = subst (λ x. IsSome x) (sym is) refl

-- nothing is listed yet
pub listing-none : (all : Entries) (list : List Kept) → list ≡ [] → IsListing all all list
listing-none all list none =
    subst (IsListing all all) (sym none) (record {
      each = λ i kept is. absurd (cc);
      still = λ key entry has. has;
      every = λ key entry has. inl has;
      order = λ i kept key entry is. absurd (cc);
      rising = λ i j a b less is. absurd (cc);
    })

-- the least entry that is left is listed next
pub listing-next : (all old new : Entries) (before after : List Kept) → IsListing all old before
    → TakesLeast old new before after → IsListing all new after
listing-next all old new before after listing takes =
    let kept = takes.kept in
    let least = takes.least in
    let has_least : finite.get old kept.key ≡ Some (entry_of kept) = least.found in
    let left : (key : List ℕ) (entry : Entry) → finite.get new key ≡ Some entry
    → (finite.get old key ≡ Some entry) × (key ≡ kept.key → ⊥) = λ key entry has.
    (elim (same_or_other key kept.key) [
      | inl same ↦ absurd (let none : None ≡ Some entry = sym (get_removed old kept.key)
          ∙ sym (ap (finite.get (finite.remove old kept.key)) same)
          ∙ sym (ap (λ m. finite.get m key) takes.rest) ∙ has in cc)
      | inr other ↦ (
        sym (get_removed_other old kept.key key other)
            ∙ sym (ap (λ m. finite.get m key) takes.rest) ∙ has,
        other,
      )
    ]) in
    let get_after : (i : ℕ) (x : Kept) → slice_get after i ≡ Some x
    → (slice_get before i ≡ Some x) ⊎ ((i ≡ length before) × (kept ≡ x)) = λ i x is.
    get-push before kept x i (sym (ap (λ xs. slice_get xs i) takes.list) ∙ is) in
    record {
      each = λ i x is. elim (get_after i x is) [
        | inl was ↦ listing.each i x was
        | inr last ↦ subst (λ k. finite.get all k.key ≡ Some (entry_of k)) last.1
            (listing.still kept.key (entry_of kept) has_least)
      ];
      still = λ key entry has. listing.still key entry (left key entry has).0;
      every = λ key entry has. elim (listing.every key entry has) [
        | inl now ↦ elim (same_or_other key kept.key) [
          | inl same ↦ inr (
            length before,
            kept,
            ap (λ xs. slice_get xs (length before)) takes.list ∙ get-last before kept,
            sym same,
          )
          | inr other ↦ inl (ap (λ m. finite.get m key) takes.rest
              ∙ get_removed_other old kept.key key other ∙ now)
        ]
        | inr was ↦ inr (
          was.0,
          was.1,
          ap (λ xs. slice_get xs was.0) takes.list
              ∙ get-left before (kept ∷ []) was.0 (get-within before was.1 was.0 was.2) ∙ was.2,
          was.3,
        )
      ];
      order = λ i x key entry is has. elim (get_after i x is) [
        | inl was ↦ listing.order i x key entry was (left key entry has).0
        | inr last ↦ subst (λ k. IsBelow k.key key) last.1
            (before_other kept.key key (least.least key (empty_first key)
            (is_there (finite.get old key) entry (left key entry has).0)) (left key entry has).1)
      ];
      rising = λ i j a b less at_i at_j. elim (get_after j b at_j) [
        | inl was_j ↦ elim (get_after i a at_i) [
          | inl was_i ↦ listing.rising i j a b less was_i was_j
          | inr last_i ↦ absurd (let within = get-within before b j was_j in
              let place = last_i.0 in omega arith)
        ]
        | inr last_j ↦ elim (get_after i a at_i) [
          | inl was_i ↦ subst (λ k. IsBelow a.key k.key) last_j.1
              (listing.order i a kept.key (entry_of kept) was_i has_least)
          | inr last_i ↦ absurd (let first = last_i.0 in let second = last_j.0 in omega arith)
        ]
      ];
    }

-- nothing is left
pub listing-done : (all now : Entries) (list : List Kept) → IsListing all now list
    → HasNoneFrom now [] → AreListed all list
listing-done all now list listing none = record {
  each = listing.each;
  every = λ key entry has. elim (listing.every key entry has) [
    | inl left ↦ absurd (let nothing : None ≡ Some entry = sym (none key (empty_first key)) ∙ left in
        cc)
    | inr listed ↦ listed
  ];
  rising = listing.rising;
}

-- a map with an entry isn't empty
some_len : (m : Entries) (key : List ℕ) (entry : Entry) → finite.get m key ≡ Some entry
    → 1 ≤ finite.len m
some_len m key entry has =
    subst (λ n. 1 ≤ n) (sym (finite.len-entries m))
    (not_empty (finite.entries m) (sym (finite.get-entries m key) ∙ has)) where
      not_empty : (es : List (List ℕ × Entry)) → find (slice_cmp nat_cmp) key es ≡ Some entry
          → 1 ≤ length es
      not_empty [] is = absurd (cc)
      not_empty (e ∷ es) is = omega arith

-- one step of the listing, which goes on as long as an entry was there
pub listing-step : (more : Bool) (all old new : Entries) (before after : List Kept)
    → IsListing all old before → MayTakeLeast more old new before after
    → IsListing all new after × (more ≡ false → HasNoneFrom new [])
    × (finite.len new + cond more 1 0 < finite.len old + 1)
listing-step true all old new before after listing takes =
    let some = some_len old takes.kept.key (entry_of takes.kept) takes.least.found in
    let fewer : finite.len new ≡ finite.len old - 1 = ap finite.len takes.rest
    ∙ len_removed old takes.kept.key (entry_of takes.kept) takes.least.found in (
      listing-next all old new before after listing takes,
      (λ is. absurd (cc)),
      omega arith,
    )
listing-step false all old new before after listing none =
    let same : finite.len new ≡ finite.len old = ap finite.len none.1 in (
      subst (IsListing all new) (sym none.2) (subst (λ m. IsListing all m before) (sym none.1) listing),
      (λ _. subst (λ m. HasNoneFrom m []) (sym none.1) none.0),
      omega arith,
    )
