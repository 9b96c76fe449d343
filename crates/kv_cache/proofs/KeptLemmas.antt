-- Lemmas on lists of kept pages.
use Rattle.std.proofs.Common.{◌≡◌, ℕ, zero, suc, ◌+◌, ◌≤◌, Bool, true, false, cond, not, List, []}
use Rattle.std.proofs.Common.{◌∷◌, length, take}
use Rattle.std.proofs.Common.{Option, None, Some, inl, inr, refl, sym, ◌∙◌, ap, subst, subst₂, eqb}
use Rattle.std.proofs.Common.{arith}
use Rattle.std.specs.Prelude.{is_some}
use Rattle.std.proofs.lemmas.Bool.{and_parts, and_from, eqb-true, eq-eqb}
use Rattle.kv_base.specs.Image.{Image, with_page}
use Rattle.kv_base.specs.Crash.{WrittenOrNot}
use Rattle.kv_base.proofs.ImageLemmas.{with_page-here, with_page-other}
use Rattle.kv_cache.specs.Kept.{KeptPage, Kept, kept_page, is_at, content_of, without, to_front}
use Rattle.kv_cache.specs.Kept.{renewed, with_new, with_pages, AreApart, AgreeWith, IsKept}

-- one page more, unless it is the page that is left out
abbrev unless : Bool → KeptPage → List KeptPage → List KeptPage
unless here kept pages = cond (not here) (kept ∷ pages) pages

-- what is kept of a page, with one page more
abbrev or_else : Bool → KeptPage → Option (List ℕ) → Option (List ℕ)
or_else here kept others = cond here (Some kept.content) others

-- cutting the list keeps nothing of what wasn't kept
pub content_of-take_absent : (n : ℕ) (pages : List KeptPage) (g q : ℕ)
    → content_of pages g q ≡ None → content_of (take n pages) g q ≡ None
content_of-take_absent zero pages g q absent = refl
content_of-take_absent (suc n) [] g q absent = refl
content_of-take_absent (suc n) (kept ∷ pages) g q absent =
    let cut : Bool → Type 0 =
    λ b. or_else b kept (content_of pages g q) ≡ None
    → or_else b kept (content_of (take n pages) g q) ≡ None
    in
    (elim (is_at g q kept) as cut [
      | true ↦ λ h. h
      | false ↦ λ h. content_of-take_absent n pages g q h
    ]) absent

-- no page is kept twice among the first
apart-take : (n : ℕ) (pages : List KeptPage) → AreApart pages → AreApart (take n pages)
apart-take zero pages apart = tt
apart-take (suc n) [] apart = tt
apart-take (suc n) (kept ∷ pages) apart =
    (content_of-take_absent n pages kept.file kept.page apart.0, apart-take n pages apart.1)

length-take_within : {A : Type 0} (n : ℕ) (xs : List A) → length (take n xs) ≤ n
length-take_within zero xs = omega arith
length-take_within (suc n) [] = omega arith
length-take_within (suc n) (x ∷ xs) = omega (arith, length-take_within n xs)

-- the first pages agree with the image
agree-take : (image : Image) (n : ℕ) (pages : List KeptPage)
    → AgreeWith image pages → AgreeWith image (take n pages)
agree-take image zero pages agree = tt
agree-take image (suc n) [] agree = tt
agree-take image (suc n) (kept ∷ pages) agree = (agree.0, agree-take image n pages agree.1)

module _ (f p : ℕ) where
  -- where nothing is kept of a page, the pages but this one are all
  pub without-absent : (pages : List KeptPage) → content_of pages f p ≡ None
      → without pages f p ≡ pages
  without-absent [] absent = refl
  without-absent (kept ∷ pages) absent =
      let all : Bool → Type 0 =
      λ b. or_else b kept (content_of pages f p) ≡ None → unless b kept (without pages f p)
      ≡ kept ∷ pages
      in
      (elim (is_at f p kept) as all [
        | true ↦ λ h. cc
        | false ↦ λ h. ap (λ rest. kept ∷ rest) (without-absent pages h)
      ]) absent

  -- nothing is kept of the page among the others
  content_of-without : (pages : List KeptPage) → content_of (without pages f p) f p ≡ None
  content_of-without [] = refl
  content_of-without (kept ∷ pages) =
      let none : Bool → Type 0 =
      λ b. is_at f p kept ≡ b → content_of (unless b kept (without pages f p)) f p ≡ None
      in
      (elim (is_at f p kept) as none [
        | true ↦ λ at. content_of-without pages
        | false ↦ λ at. rw at (content_of-without pages)
      ]) refl

  -- leaving it out keeps nothing of what wasn't kept
  content_of-without_absent : (pages : List KeptPage) (g q : ℕ)
      → content_of pages g q ≡ None → content_of (without pages f p) g q ≡ None
  content_of-without_absent [] g q absent = refl
  content_of-without_absent (kept ∷ pages) g q absent =
      let inner : Bool → Type 0 = λ b. content_of (unless b kept (without pages f p)) g q ≡ None in
      let outer : Bool → Type 0 =
      λ b. is_at g q kept ≡ b → or_else b kept (content_of pages g q) ≡ None
      → inner (is_at f p kept)
      in
      (elim (is_at g q kept) as outer [
        | true ↦ λ at h. cc
        | false ↦ λ at h. elim (is_at f p kept) as inner [
          | true ↦ content_of-without_absent pages g q h
          | false ↦ rw at (content_of-without_absent pages g q h)
        ]
      ]) refl absent

  -- no page is kept twice among the others
  apart-without : (pages : List KeptPage) → AreApart pages → AreApart (without pages f p)
  apart-without [] apart = tt
  apart-without (kept ∷ pages) apart =
      elim (is_at f p kept) as (λ b. AreApart (unless b kept (without pages f p))) [
        | true ↦ apart-without pages apart.1
        | false ↦ (
          content_of-without_absent pages kept.file kept.page apart.0,
          apart-without pages apart.1,
        )
      ]

  -- the others are no more than all
  length-without : (pages : List KeptPage) → length (without pages f p) ≤ length pages
  length-without [] = omega arith
  length-without (kept ∷ pages) =
      let rest = length-without pages in
      elim (is_at f p kept) as (λ b. length (unless b kept (without pages f p))
      ≤ length (kept ∷ pages)) [
        | true ↦ omega (arith, rest)
        | false ↦ omega (arith, rest)
      ]

  -- and fewer where the page is kept
  length-without_kept : (pages : List KeptPage) (content : List ℕ)
      → content_of pages f p ≡ Some content → length (without pages f p) + 1 ≤ length pages
  length-without_kept [] content found = cc
  length-without_kept (kept ∷ pages) content found =
      let fewer : Bool → Type 0 =
      λ b. or_else b kept (content_of pages f p) ≡ Some content
      → length (unless b kept (without pages f p)) + 1 ≤ length (kept ∷ pages)
      in
      (elim (is_at f p kept) as fewer [
        | true ↦ λ h. omega (arith, length-without pages)
        | false ↦ λ h. omega (arith, length-without_kept pages content h)
      ]) found

  module _ (kept : Kept) (is : IsKept kept) where
    -- the page, which is kept, comes to the front
    pub kept-to_front : (old content : List ℕ) → content_of kept.pages f p ≡ Some old
        → IsKept (with_pages kept (to_front kept.pages f p content))
    kept-to_front old content found = record {
      least = is.least;
      most = is.most;
      within = omega (arith, is.within, length-without_kept kept.pages old found);
      apart = (content_of-without kept.pages, apart-without kept.pages is.apart);
    }

    -- it is left out
    pub kept-without : IsKept (with_pages kept (without kept.pages f p))
    kept-without = record {
      least = is.least;
      most = is.most;
      within = omega (arith, is.within, length-without kept.pages);
      apart = apart-without kept.pages is.apart;
    }

    -- it comes, and wasn't kept
    pub kept-with_new : (content : List ℕ) → content_of kept.pages f p ≡ None
        → IsKept (with_pages kept (with_new kept.capacity kept.pages f p content))
    kept-with_new content absent = record {
      least = is.least;
      most = is.most;
      within = length-take_within kept.capacity _;
      apart = apart-take kept.capacity (kept_page f p content ∷ kept.pages) (absent, is.apart);
    }

  -- what is kept of the page is the image's content
  pub content_of-agrees : (image : Image) (pages : List KeptPage) (content : List ℕ)
      → AgreeWith image pages → content_of pages f p ≡ Some content → content ≡ image f p
  content_of-agrees image [] content agree found = cc
  content_of-agrees image (kept ∷ pages) content agree found =
      let agrees : Bool → Type 0 =
      λ b. is_at f p kept ≡ b → or_else b kept (content_of pages f p) ≡ Some content
      → content ≡ image f p
      in
      (elim (is_at f p kept) as agrees [
        | true ↦ λ at h.
            let both = and_parts (eqb f kept.file) (eqb p kept.page) at in
            let same : kept.content ≡ content = cc in
            let there : ℕ → ℕ → Type 0 = λ m n. image m n ≡ image f p in
            let place = subst₂ there (eqb-true f kept.file both.0) (eqb-true p kept.page both.1)
            refl in
            sym same ∙ agree.0 ∙ place
        | false ↦ λ at h. content_of-agrees image pages content agree.1 h
      ]) refl found

  -- the others agree with the image
  agree-without : (image : Image) (pages : List KeptPage)
      → AgreeWith image pages → AgreeWith image (without pages f p)
  agree-without image [] agree = tt
  agree-without image (kept ∷ pages) agree =
      elim (is_at f p kept) as (λ b. AgreeWith image (unless b kept (without pages f p))) [
        | true ↦ agree-without image pages agree.1
        | false ↦ (agree.0, agree-without image pages agree.1)
      ]

  -- and with one in which the page has another content
  agree-without_put : (image : Image) (pages : List KeptPage) (content : List ℕ)
      → AgreeWith image pages → AgreeWith (with_page image f p content) (without pages f p)
  agree-without_put image [] content agree = tt
  agree-without_put image (kept ∷ pages) content agree =
      let agrees : Bool → Type 0 =
      λ b. is_at f p kept ≡ b
      → AgreeWith (with_page image f p content) (unless b kept (without pages f p))
      in
      let here : kept.file ≡ f → kept.page ≡ p → is_at f p kept ≡ true = λ same_file same_page.
      and_from (eqb f kept.file) (eqb p kept.page) (eq-eqb f kept.file (sym same_file))
      (eq-eqb p kept.page (sym same_page)) in
      (elim (is_at f p kept) as agrees [
        | true ↦ λ at. agree-without_put image pages content agree.1
        | false ↦ λ at. (
          agree.0 ∙ sym (with_page-other image f p content kept.file kept.page
              (λ same_file same_page. absurd (let is = here same_file same_page in cc))),
          agree-without_put image pages content agree.1,
        )
      ]) refl

  -- the page, which is kept, comes to the front
  pub agree-to_front : (image : Image) (pages : List KeptPage) (content : List ℕ)
      → AgreeWith image pages → content_of pages f p ≡ Some content
      → AgreeWith image (to_front pages f p content)
  agree-to_front image pages content agree found =
      (content_of-agrees image pages content agree found, agree-without image pages agree)

  -- it comes with the image's content
  pub agree-with_new : (image : Image) (n : ℕ) (pages : List KeptPage) (content : List ℕ)
      → AgreeWith image pages → content ≡ image f p → AgreeWith image (with_new n pages f p content)
  agree-with_new image n pages content agree same =
      agree-take image n (kept_page f p content ∷ pages) (same, agree)

  -- it has another content, and so has its copy if it is kept
  pub agree-renewed : (image : Image) (pages : List KeptPage) (content : List ℕ)
      → AgreeWith image pages → AgreeWith (with_page image f p content) (renewed pages f p content)
  agree-renewed image pages content agree =
      let others = agree-without_put image pages content agree in
      let agrees : Option (List ℕ) → Type 0 = λ o. content_of pages f p ≡ o
      → AgreeWith (with_page image f p content) (cond (is_some o) (to_front pages f p content)
      pages) in
      (elim (content_of pages f p) as agrees [
        | Some old ↦ λ found. (sym (with_page-here image f p content), others)
        | None ↦ λ absent.
            subst (AgreeWith (with_page image f p content)) (without-absent pages absent) others
      ]) refl

  -- it may have another content, and has no copy
  pub agree-dropped : (image new : Image) (pages : List KeptPage) (content : List ℕ)
      → AgreeWith image pages → WrittenOrNot f p content image new
      → AgreeWith new (without pages f p)
  agree-dropped image new pages content agree which = elim which [
    | inl same ↦ rw same (agree-without image pages agree)
    | inr put ↦ rw put (agree-without_put image pages content agree)
  ]
