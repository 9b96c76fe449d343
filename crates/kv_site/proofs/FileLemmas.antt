-- Lemmas on a disk of files of which one changes.
use Rattle.std.proofs.Common.{◌≡◌, inl, inr, ℕ, zero, suc, ◌<◌, ◌==◌, Bool, true}
use Rattle.std.proofs.Common.{List, [], ◌∷◌, ◌++◌, length, map, set, drop, replicate, get_or}
use Rattle.std.proofs.Common.{refl, sym, ap, subst₂, ◌∙◌, arith, Result, OnOk, Ok, Err}
use Rattle.std.proofs.lemmas.Bool.{cases_eq, cond-true, cond-false, eq-eqb, ne_eqb}
use Rattle.std.proofs.lemmas.List.{map-set, get_or-map, get_or-set_same, get_or-set_other}
use Rattle.std.proofs.lemmas.List.{length-map}
use Rattle.std.proofs.Math.Seq.{map-set_same}
use Rattle.kv_base.specs.Image.{zero_page, with_page}
use Rattle.kv_base.specs.Crash.{WrittenOrNot}
use Rattle.kv_base.proofs.ImageLemmas.{same_image, with_page-at, with_page-other}
use Rattle.kv_base.specs.Fault.{Counted}
use Rattle.kv_site.specs.PageFile.{put_page, IsPutOrNot, image_in, CountedIn}

-- the page that was put reads as its content
pub put_page-at : (pages : ℕ → List ℕ) (page : ℕ) (content : List ℕ) (p : ℕ) → p ≡ page
    → put_page pages page content p ≡ content
unfolding put_page
put_page-at pages page content p same = cond-true (p == page) content (pages p) (eq-eqb p page same)

-- each other page stays
pub put_page-other : (pages : ℕ → List ℕ) (page : ℕ) (content : List ℕ) (p : ℕ) → (p ≡ page → ⊥)
    → put_page pages page content p ≡ pages p
unfolding put_page
put_page-other pages page content p other =
    cond-false (p == page) content (pages p) (ne_eqb p page other)

-- a file that reads as before
pub image-kept : {F : Type 0} (reads : F → ℕ → List ℕ) (files : List F) (f : ℕ) (file d : F)
    → reads file ≡ reads (get_or files f d) → image_in reads (set files f file) ≡ image_in reads files
image-kept {F} reads files f file d same = same_image (image_in reads (set files f file))
    (image_in reads files) (λ g p.
    let at : F → List ℕ = λ x. reads x p in
    ap (λ pages. get_or pages g zero_page) (map-set_same at files f file d
    (ap (λ (r : ℕ → List ℕ). r p) same)))

-- what a page of a file reads as
pub image-at : {F : Type 0} (reads : F → ℕ → List ℕ) (files : List F) (f p : ℕ) (d : F)
    → f < length files → image_in reads files f p ≡ reads (get_or files f d) p
image-at reads files f p d lt = get_or-map (λ file. reads file p) files f d zero_page lt

-- a file of which a page was put
pub image-put : {F : Type 0} (reads : F → ℕ → List ℕ) (files : List F) (f : ℕ) (file d : F)
    (page : ℕ) (content : List ℕ) → f < length files
    → reads file ≡ put_page (reads (get_or files f d)) page content
    → image_in reads (set files f file) ≡ with_page (image_in reads files) f page content
image-put {F} reads files f file d page content lt put =
    same_image (image_in reads (set files f file)) (with_page (image_in reads files) f page content)
    (λ g p.
    let at : F → List ℕ = λ x. reads x p in
    let as_set : image_in reads (set files f file) g p
    ≡ get_or (set (map at files) f (at file)) g zero_page =
    ap (λ pages. get_or pages g zero_page) (map-set at files f file) in
    let here : g ≡ f → image_in reads (set files f file) g p ≡ at file = λ same.
    as_set ∙ ap (λ i. get_or (set (map at files) f (at file)) i zero_page) same
    ∙ get_or-set_same (map at files) f (at file) zero_page
    (omega (arith, lt, length-map files at)) in
    let content_is : at file ≡ put_page (reads (get_or files f d)) page content p =
    ap (λ (r : ℕ → List ℕ). r p) put in
    elim (cases_eq g f) [
      | inr other ↦ as_set ∙ get_or-set_other (map at files) f g (at file) zero_page other
          ∙ sym (with_page-other (image_in reads files) f page content g p (λ same _. other same))
      | inl same ↦ elim (cases_eq p page) [
        | inl same_page ↦ here same ∙ content_is
            ∙ put_page-at (reads (get_or files f d)) page content p same_page
            ∙ sym (with_page-at (image_in reads files) f page content g p same same_page)
        | inr other ↦ here same ∙ content_is
            ∙ put_page-other (reads (get_or files f d)) page content p other
            ∙ sym (image-at reads files f p d lt)
            ∙ ap (λ i. image_in reads files i p) (sym same)
            ∙ sym (with_page-other (image_in reads files) f page content g p (λ _ now. other now))
      ]
    ])

-- a file of which a page was put, or none
pub image-put_or_not : {F : Type 0} (reads : F → ℕ → List ℕ) (files : List F) (f : ℕ) (file d : F)
    (page : ℕ) (content : List ℕ) → f < length files
    → IsPutOrNot (reads (get_or files f d)) (reads file) page content
    → WrittenOrNot f page content (image_in reads files) (image_in reads (set files f file))
image-put_or_not reads files f file d page content lt (inl same) =
    inl (image-kept reads files f file d same)
image-put_or_not reads files f file d page content lt (inr put) =
    inr (image-put reads files f file d page content lt put)

-- one more is durable
pub marks-synced : (marks : List Bool) (i : ℕ) → i < length marks
    → set (replicate i true ++ drop i marks) i true ≡ replicate (suc i) true ++ drop (suc i) marks
marks-synced [] i lt = absurd (omega arith)
marks-synced (mark ∷ marks) zero lt = refl
marks-synced (mark ∷ marks) (suc i) lt = ap (λ rest. true ∷ rest) (marks-synced marks i (omega arith))

-- the mark at which a sync stands
pub marks-here : (marks : List Bool) (i : ℕ) (d : Bool) → i < length marks
    → get_or (replicate i true ++ drop i marks) i d ≡ get_or marks i d
marks-here [] i d lt = absurd (omega arith)
marks-here (mark ∷ marks) zero d lt = refl
marks-here (mark ∷ marks) (suc i) d lt = marks-here marks i d (omega arith)

-- what a file counts is counted by the disk
pub counted_in : {F T E : Type 0} (faults : F → ℕ) (files : List F) (f : ℕ) (file d : F)
    (result : Result T E) → f < length files
    → Counted (faults (get_or files f d)) (faults file) result
    → CountedIn faults f files (set files f file) result
counted_in faults files f file d result lt counted =
    let was : faults (get_or files f d) ≡ get_or (map faults files) f 0 =
    sym (get_or-map faults files f d 0 lt) in
    let now : faults file ≡ get_or (map faults (set files f file)) f 0 =
    sym (ap (λ counts. get_or counts f 0) (map-set faults files f file)
    ∙ get_or-set_same (map faults files) f (faults file) 0
    (omega (arith, lt, length-map files faults))) in
    subst₂ (λ (before after : ℕ). Counted before after result) was now counted

-- what follows from what Ok means
pub on_ok : {T E A B : Type 0} (result : Result T E) → (A → B) → OnOk result A → OnOk result B
on_ok (Ok value) follows holds = follows holds
on_ok (Err error) follows holds = holds
