-- Lemmas on images and on one page of them.
use Rattle.std.proofs.Common.{◌≡◌, ℕ, List, true, false, ◌⊎◌, inl, inr, eqb, refl}
use Rattle.std.specs.Prelude.{◌&&◌}
use Rattle.std.proofs.lemmas.Bool.{cases_eq, eq-eqb, ne_eqb, and_from, and_left, and_right}
use Rattle.std.proofs.lemmas.Bool.{cond-true, cond-false}
use Rattle.kv_base.specs.Image.{Image, with_page}
use Rattle.kv_base.specs.Crash.{Choices, MayLeave, Only}

-- images that agree at each page are the same
pub same_image : (a b : Image) → ((f p : ℕ) → a f p ≡ b f p) → a ≡ b
same_image a b agree = λ i f p. agree f p i

-- where a crash leaves this image alone, it leaves this image
pub only_image : (base : Image) (choices : Choices) (image : Image) → Only base choices
    → MayLeave choices image → image ≡ base
only_image base choices image only left =
    same_image image base (λ f p. only f p (image f p) (left f p))

-- a page is this one or another
pub one_place : (f p file page : ℕ) → ((f ≡ file) × (p ≡ page)) ⊎ (f ≡ file → p ≡ page → ⊥)
one_place f p file page = elim (cases_eq f file) [
  | inl same_file ↦ elim (cases_eq p page) [
    | inl same_page ↦ inl (same_file, same_page)
    | inr other ↦ inr (λ _ same. other same)
  ]
  | inr other ↦ inr (λ same _. other same)
]

-- the test for a page is false at another
pub test-other : (f p file page : ℕ) → (f ≡ file → p ≡ page → ⊥)
    → (eqb f file && eqb p page) ≡ false
test-other f p file page other = elim (cases_eq f file) [
  | inl same ↦ and_right (eqb f file) (eqb p page) (ne_eqb p page (other same))
  | inr differ ↦ and_left (eqb f file) (eqb p page) (ne_eqb f file differ)
]

-- the test for a page is true at it
pub test-at : (f p file page : ℕ) → f ≡ file → p ≡ page → (eqb f file && eqb p page) ≡ true
test-at f p file page same_file same_page =
    and_from (eqb f file) (eqb p page) (eq-eqb f file same_file) (eq-eqb p page same_page)

-- a page that was put reads as its content
pub with_page-at : (image : Image) (file page : ℕ) (content : List ℕ) (f p : ℕ) → f ≡ file
    → p ≡ page → with_page image file page content f p ≡ content
unfolding with_page
with_page-at image file page content f p same_file same_page =
    cond-true (eqb f file && eqb p page) content (image f p) (test-at f p file page same_file
    same_page)

-- the same at its very place
pub with_page-here : (image : Image) (file page : ℕ) (content : List ℕ)
    → with_page image file page content file page ≡ content
with_page-here image file page content = with_page-at image file page content file page refl refl

-- each other page stays
pub with_page-other : (image : Image) (file page : ℕ) (content : List ℕ) (f p : ℕ)
    → (f ≡ file → p ≡ page → ⊥) → with_page image file page content f p ≡ image f p
unfolding with_page
with_page-other image file page content f p other = cond-false (eqb f file && eqb p page) content
    (image f p) (test-other f p file page other)
