-- What the map of least recent use does, in the words of lists of kept pages.
use Rattle.std.proofs.Common.{◌≡◌, ℕ, zero, suc, ◌-◌, ◌≤◌, Bool, true, false, cond, not, List, []}
use Rattle.std.proofs.Common.{◌∷◌, map, take}
use Rattle.std.proofs.Common.{Option, None, Some, refl, sym, ◌∙◌, ap, subst₂, eqb, arith}
use Rattle.std.specs.Prelude.{◌&&◌, option_map}
use Rattle.std.specs.Global.{Box}
use Rattle.std.specs.Map.{lookup, lookup_entry, remove_entry, set_value}
use Rattle.std.proofs.lemmas.Bool.{and_parts, and_from, eqb-true, eq-eqb}
use Rattle.std.proofs.lemmas.List.{take-map}
use Rattle.lru.specs.LruCache.{LruCache, lru_cache, promoted, put_entries}
use Rattle.kv_cache.specs.Kept.{KeptPage, kept_page, content_of, without, to_front, with_new}
use Rattle.kv_cache.specs.Kept.{with_pages}
use Rattle.kv_cache.specs.Kept.{AreApart, IsKept}
use Rattle.kv_cache.specs.Copies.{page_of, kept_of}
use Rattle.kv_cache.proofs.KeptLemmas.{without-absent}

-- a content in memory of its own
abbrev Copy : Type 0
Copy = Box (List ℕ)

-- the entries of the map
abbrev Entries : Type 0
Entries = List ((ℕ × ℕ) × Copy)

-- their pages
abbrev pages_of : Entries → List KeptPage
pages_of es = map page_of es

-- what is kept in a copy, if there is one
abbrev content_in : Option Copy → Option (List ℕ)
content_in copy = option_map (λ c. c.value) copy

-- the test by which the map finds a page
abbrev finds : ℕ → ℕ → ℕ × ℕ → Bool
finds f p key = eqb f key.0 && eqb p key.1

take-front : {A : Type 0} (n : ℕ) (x : A) (xs : List A) → 1 ≤ n
    → take n (x ∷ xs) ≡ x ∷ take (n - 1) xs
take-front zero x xs least = absurd (omega arith)
take-front (suc n) x xs least = let e : n ≡ suc n - 1 = omega arith in ap (λ m. x ∷ take m xs) e

module _ (f p : ℕ) where
  finds-here : finds f p (f, p) ≡ true
  finds-here = and_from (eqb f f) (eqb p p) (eq-eqb f f refl) (eq-eqb p p refl)

  -- a key that is found is the page's
  found_key : (key : ℕ × ℕ) → finds f p key ≡ true → (f ≡ key.0) × (p ≡ key.1)
  found_key key at =
      let both = and_parts (eqb f key.0) (eqb p key.1) at in
      (eqb-true f key.0 both.0, eqb-true p key.1 both.1)

  -- what is kept of the page is what a look-up finds
  content_of-lookup : (es : Entries) → content_of (pages_of es) f p
      ≡ content_in (lookup (finds f p) es)
  content_of-lookup [] = refl
  content_of-lookup (e ∷ es) =
      let same : Bool → Type 0 =
      λ b. cond b (Some e.1.value) (content_of (pages_of es) f p)
      ≡ content_in (cond b (Some e.1) (lookup (finds f p) es))
      in
      elim (finds f p e.0) as same [
        | true ↦ refl
        | false ↦ content_of-lookup es
      ]

  -- the pages without it are those of the entries without its own
  without-pages : (es : Entries) → AreApart (pages_of es)
      → without (pages_of es) f p ≡ pages_of (remove_entry (finds f p) es)
  without-pages [] apart = refl
  without-pages (e ∷ es) apart =
      let others : Bool → Type 0 =
      λ b. finds f p e.0 ≡ b
      → cond (not b) (page_of e ∷ without (pages_of es) f p) (without (pages_of es) f p)
      ≡ pages_of (cond b es (e ∷ remove_entry (finds f p) es))
      in
      (elim (finds f p e.0) as others [
        | true ↦ λ at.
            let same = found_key e.0 at in
            let none : ℕ → ℕ → Type 0 = λ m n. content_of (pages_of es) m n ≡ None in
            without-absent f p (pages_of es) (subst₂ none (sym same.0) (sym same.1) apart.0)
        | false ↦ λ at. ap (λ rest. page_of e ∷ rest) (without-pages es apart.1)
      ]) refl

  -- a look-up that finds a copy finds its entry
  lookup_entry-found : (es : Entries) (copy : Copy) → lookup (finds f p) es ≡ Some copy
      → lookup_entry (finds f p) es ≡ Some ((f, p), copy)
  lookup_entry-found [] copy found = cc
  lookup_entry-found (e ∷ es) copy found =
      let finds_it : Bool → Type 0 =
      λ b. finds f p e.0 ≡ b → cond b (Some e.1) (lookup (finds f p) es) ≡ Some copy
      → cond b (Some e) (lookup_entry (finds f p) es) ≡ Some ((f, p), copy)
      in
      (elim (finds f p e.0) as finds_it [
        | true ↦ λ at h.
            let same = found_key e.0 at in
            let value : e.1 ≡ copy = cc in
            ap (λ entry. Some entry) (λ i. ((sym same.0 i, sym same.1 i), value i))
        | false ↦ λ at h. lookup_entry-found es copy h
      ]) refl found

  -- and one that finds none finds no entry
  lookup_entry-absent : (es : Entries) → lookup (finds f p) es ≡ None → lookup_entry (finds f p) es
      ≡ None
  lookup_entry-absent [] absent = refl
  lookup_entry-absent (e ∷ es) absent =
      let none : Bool → Type 0 =
      λ b. cond b (Some e.1) (lookup (finds f p) es) ≡ None
      → cond b (Some e) (lookup_entry (finds f p) es) ≡ None
      in
      (elim (finds f p e.0) as none [
        | true ↦ λ h. cc
        | false ↦ λ h. lookup_entry-absent es h
      ]) absent

  module _ (copies : LruCache (ℕ × ℕ) Copy) where
    -- what a look-up finds is kept of the page
    pub content_of-found : (copy : Copy) → lookup (finds f p) copies.entries ≡ Some copy
        → content_of (kept_of copies).pages f p ≡ Some copy.value
    content_of-found copy found = content_of-lookup copies.entries ∙ ap content_in found

    -- where it finds none, nothing is kept
    pub content_of-absent : lookup (finds f p) copies.entries ≡ None
        → content_of (kept_of copies).pages f p ≡ None
    content_of-absent absent = content_of-lookup copies.entries ∙ ap content_in absent

    -- and where nothing is kept, it finds none
    lookup-absent : content_of (kept_of copies).pages f p ≡ None → lookup (finds f p) copies.entries
        ≡ None
    lookup-absent absent =
        let same = sym (content_of-lookup copies.entries) ∙ absent in
        (elim (lookup (finds f p) copies.entries) as (λ o. content_in o ≡ None → o ≡ None) [
          | None ↦ λ h. refl
          | Some copy ↦ λ h. cc
        ]) same

    -- a look-up of a page that isn't kept leaves the list
    pub kept_of-missed : (new : LruCache (ℕ × ℕ) Copy) → lookup (finds f p) copies.entries ≡ None
        → new ≡ lru_cache (promoted (finds f p) copies.entries) copies.cap
        → kept_of new ≡ kept_of copies
    kept_of-missed new absent got = rw (got, lookup_entry-absent copies.entries absent) refl

    -- the entries behind the page's own, which is in front
    behind : IsKept (kept_of copies) → (copy : Copy)
        → pages_of (((f, p), copy) ∷ remove_entry (finds f p) copies.entries)
        ≡ to_front (kept_of copies).pages f p copy.value
    behind is copy =
        ap (λ rest. kept_page f p copy.value ∷ rest) (sym (without-pages copies.entries is.apart))

    -- of one that is, it brings it to the front
    pub kept_of-got : (new : LruCache (ℕ × ℕ) Copy) (copy : Copy) → IsKept (kept_of copies)
        → lookup (finds f p) copies.entries ≡ Some copy
        → new ≡ lru_cache (promoted (finds f p) copies.entries) copies.cap
        → kept_of new ≡ with_pages (kept_of copies) (to_front (kept_of copies).pages f p copy.value)
    kept_of-got new copy is found got =
        rw (got, lookup_entry-found copies.entries copy found)
        (ap (with_pages (kept_of copies)) (behind is copy))

    -- and what is written there is kept
    pub kept_of-written : (copy new : Copy) → IsKept (kept_of copies)
        → lookup (finds f p) copies.entries ≡ Some copy
        → kept_of (lru_cache (set_value (finds f p) (promoted (finds f p) copies.entries) new)
        copies.cap)
        ≡ with_pages (kept_of copies) (to_front (kept_of copies).pages f p new.value)
    kept_of-written copy new is found =
        rw (lookup_entry-found copies.entries copy found, finds-here)
        (ap (with_pages (kept_of copies)) (behind is new))

    -- a page that is left out
    pub kept_of-removed : (new : LruCache (ℕ × ℕ) Copy) → IsKept (kept_of copies)
        → new ≡ lru_cache (remove_entry (finds f p) copies.entries) copies.cap
        → kept_of new ≡ with_pages (kept_of copies) (without (kept_of copies).pages f p)
    kept_of-removed new is removed = rw (removed, without-pages copies.entries is.apart) refl

    -- a page that comes
    pub kept_of-put : (new : LruCache (ℕ × ℕ) Copy) (copy : Copy) → IsKept (kept_of copies)
        → content_of (kept_of copies).pages f p ≡ None
        → new ≡ lru_cache (put_entries (λ k key. finds k.0 k.1 key) copies (f, p) copy) copies.cap
        → kept_of new ≡ with_pages (kept_of copies) (with_new copies.cap (kept_of copies).pages f p
        copy.value)
    kept_of-put new copy is absent put =
        let page = page_of ((f, p), copy) in
        let front = take-front copies.cap page (pages_of copies.entries) is.least in
        let rest = take-map page_of (copies.cap - 1) copies.entries in
        rw (put, lookup_entry-absent copies.entries (lookup-absent absent))
        (ap (with_pages (kept_of copies)) (sym (front ∙ ap (λ others. page ∷ others) rest)))
