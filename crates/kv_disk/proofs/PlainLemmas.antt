-- Lemmas on contents that stand at the places of their pages.
use Rattle.std.proofs.Common.{◌≡◌, ℕ, ◌≤◌, ◌<◌, ◌+◌, List, [], ◌∷◌, ◌++◌, Option, Some, None}
use Rattle.std.proofs.Common.{length, get_or, set, max, inl, inr, refl, ap, sym, ◌∙◌, subst, subst₂, arith}
use Rattle.std.proofs.Common.{IsSome}
use Rattle.std.proofs.Common.{get_or-set_same, get_or-set_other}
use Rattle.std.proofs.lemmas.Bool.{cond-true, cond-false, cases_eq, cases_lt}
use Rattle.std.proofs.lemmas.List.{get_or_append_left, get_or_push}
use Rattle.kv_base.specs.Image.{with_page, zero_page}
use Rattle.kv_disk.specs.Plain.{content_at}
use Rattle.kv_disk.specs.PlainFields.{Places}
use Rattle.kv_base.proofs.ImageLemmas.{one_place, same_image, test-at, test-other, with_page-at}
use Rattle.kv_base.proofs.ImageLemmas.{with_page-other}

-- each place that a page has is among so many
abbrev pub InRange : (ℕ → ℕ → Option ℕ) → ℕ → Type 0
InRange place count = (f p i : ℕ) → place f p ≡ Some i → i < count

-- no two pages have one place
abbrev pub Apart : (ℕ → ℕ → Option ℕ) → Type 0
Apart place = (f p g q i : ℕ) → place f p ≡ Some i → place g q ≡ Some i → (f ≡ g) × (p ≡ q)

-- it has its place
pub place-at : (old new : ℕ → ℕ → Option ℕ) (file page place f p : ℕ)
    → Places old new file page place → f ≡ file → p ≡ page → new f p ≡ Some place
place-at old new file page place f p puts same_file same_page = puts f p
    ∙ cond-true _ _ _ (test-at file page f p (sym same_file) (sym same_page))

-- and each other page has the place that it had
pub place-other : (old new : ℕ → ℕ → Option ℕ) (file page place f p : ℕ)
    → Places old new file page place → (f ≡ file → p ≡ page → ⊥) → new f p ≡ old f p
place-other old new file page place f p puts other = puts f p
    ∙ cond-false _ _ _ (test-other file page f p (λ same_file same_page. other (sym same_file)
    (sym same_page)))

-- a content at another place stays where one is replaced
content_at-set_other : (contents : List (List ℕ)) (o : Option ℕ) (i : ℕ) (content : List ℕ)
    → (o ≡ Some i → ⊥) → content_at (set contents i content) o ≡ content_at contents o
content_at-set_other contents None i content other = refl
content_at-set_other contents (Some j) i content other =
    get_or-set_other contents i j content zero_page (λ same. other (ap Some same))

-- and where one is put behind the others
pub content_at-push_other : (contents : List (List ℕ)) (o : Option ℕ) (content : List ℕ)
    → ((j : ℕ) → o ≡ Some j → j < length contents) → content_at (contents ++ content ∷ []) o
    ≡ content_at contents o
content_at-push_other contents None content within = refl
content_at-push_other contents (Some j) content within =
    get_or_append_left contents (content ∷ []) zero_page j (within j refl)

-- a content that is replaced changes its page alone
pub content-set : (place : ℕ → ℕ → Option ℕ) (contents : List (List ℕ)) (file page i : ℕ)
    (content : List ℕ) → place file page ≡ Some i → InRange place (length contents) → Apart place
    → (λ f p. content_at (set contents i content) (place f p))
    ≡ with_page (λ f p. content_at contents (place f p)) file page content
content-set place contents file page i content at within apart =
    same_image _ _ (λ f p. elim (one_place f p file page) [
      | inl same ↦
          let here : place f p ≡ Some i =
          (let Q : ℕ → ℕ → Type 0 = λ m n. place m n ≡ Some i in subst₂ Q (sym same.0)
          (sym same.1) at) in
          ap (content_at (set contents i content)) here ∙ get_or-set_same contents i content zero_page
          (within file page i at)
          ∙ sym (with_page-at (λ g q. content_at contents (place g q)) file page content f p same.0
          same.1)
      | inr other ↦ content_at-set_other contents (place f p) i content
          (λ same. let both = apart f p file page i same at in other both.0 both.1)
          ∙ sym (with_page-other (λ g q. content_at contents (place g q)) file page content f p other)
    ])

-- a content at a place of its own, behind the others, changes its page alone
pub content-push : (old new : ℕ → ℕ → Option ℕ) (contents : List (List ℕ)) (file page : ℕ)
    (content : List ℕ) → Places old new file page (length contents) → InRange old (length contents)
    → (λ f p. content_at (contents ++ content ∷ []) (new f p))
    ≡ with_page (λ f p. content_at contents (old f p)) file page content
content-push old new contents file page content puts within =
    same_image _ _ (λ f p. elim (one_place f p file page) [
      | inl same ↦ ap (content_at (contents ++ content ∷ [])) (place-at old new file page
          (length contents) f p puts same.0 same.1)
          ∙ get_or_push contents content zero_page (length contents) refl
          ∙ sym (with_page-at (λ g q. content_at contents (old g q)) file page content f p same.0
          same.1)
      | inr other ↦ ap (content_at (contents ++ content ∷ [])) (place-other old new file page
          (length contents) f p puts other) ∙ content_at-push_other contents (old f p) content
          (within f p)
          ∙ sym (with_page-other (λ g q. content_at contents (old g q)) file page content f p other)
    ])

-- with the place behind them each place is in the longer range
pub in_range-push : (old new : ℕ → ℕ → Option ℕ) (count file page : ℕ)
    → Places old new file page count → InRange old count → InRange new (count + 1)
in_range-push old new count file page puts within f p i at = elim (one_place f p file page) [
  | inl same ↦
      let is : Some count ≡ Some i = sym (place-at old new file page count f p puts same.0 same.1)
      ∙ at in let same_place : count ≡ i = cc in omega (arith, same_place)
  | inr other ↦
      let below = within f p i (sym (place-other old new file page count f p puts other) ∙ at) in
      omega (arith, below)
]

-- and is still one page's own
pub apart-push : (old new : ℕ → ℕ → Option ℕ) (count file page : ℕ) → Places old new file page count
    → InRange old count → Apart old → Apart new
apart-push old new count file page puts within apart f p g q i here there =
    let new_one : (f p : ℕ) → f ≡ file → p ≡ page → new f p ≡ Some i → count ≡ i =
    λ f p same_file same_page at.
    let is : Some count ≡ Some i =
    sym (place-at old new file page count f p puts same_file same_page) ∙ at in
    cc in
    let old_one : (f p : ℕ) → (f ≡ file → p ≡ page → ⊥) → new f p ≡ Some i → old f p ≡ Some i =
    λ f p other at. sym (place-other old new file page count f p puts other) ∙ at in
    elim (one_place f p file page) [
      | inl first ↦ elim (one_place g q file page) [
        | inl second ↦ (first.0 ∙ sym second.0, first.1 ∙ sym second.1)
        | inr other ↦
            absurd (let at = new_one f p first.0 first.1 here in
            let below = within g q i (old_one g q other there) in omega (arith, at, below))
      ]
      | inr other_first ↦ elim (one_place g q file page) [
        | inl second ↦
            absurd (let at = new_one g q second.0 second.1 there in
            let below = within f p i (old_one f p other_first here) in omega (arith, at, below))
        | inr other ↦ apart f p g q i (old_one f p other_first here) (old_one g q other there)
      ]
    ]

-- the pages that were written stay below the lengths of their files
pub above-push : (old new : ℕ → ℕ → Option ℕ) (count file page : ℕ) (lengths : List ℕ)
    → Places old new file page count → file < length lengths
    → ((f p : ℕ) → get_or lengths f 0 ≤ p → old f p ≡ None)
    → (f p : ℕ) → get_or (set lengths file (max (get_or lengths file 0) (page + 1))) f 0 ≤ p
    → new f p ≡ None
above-push old new count file page lengths puts fits above f p le = elim (cases_eq f file) [
  | inl same ↦
      let now : get_or (set lengths file (max (get_or lengths file 0) (page + 1))) f 0
      ≡ max (get_or lengths file 0) (page + 1) =
      rw same (get_or-set_same lengths file (max (get_or lengths file 0) (page + 1)) 0
      fits) in
      let before : get_or lengths f 0 ≤ p = rw same (omega (arith, now, le)) in
      place-other old new file page count f p puts (λ _ at. absurd (omega (arith, now, le, at)))
      ∙ above f p before
  | inr other ↦ place-other old new file page count f p puts (λ same _. other same)
      ∙ above f p (rw (get_or-set_other lengths file f (max (get_or lengths file 0) (page + 1)) 0
      other) at le)
]

-- and the last of them is one below
pub last-push : (old new : ℕ → ℕ → Option ℕ) (count file page : ℕ) (lengths : List ℕ)
    → Places old new file page count → file < length lengths
    → ((f p : ℕ) → get_or lengths f 0 ≡ p + 1 → IsSome (old f p))
    → (f p : ℕ) → get_or (set lengths file (max (get_or lengths file 0) (page + 1))) f 0 ≡ p + 1
    → IsSome (new f p)
last-push old new count file page lengths puts fits last f p is =
    let Q : Option ℕ → Type 0 = λ o. IsSome o in
    elim (one_place f p file page) [
      | inl same ↦ subst Q (sym (place-at old new file page count f p puts same.0 same.1)) refl
      | inr other ↦ subst Q (sym (place-other old new file page count f p puts other))
          (last f p (elim (cases_eq f file) [
            | inl same ↦
                let now : get_or (set lengths file (max (get_or lengths file 0) (page + 1))) f 0
                ≡ max (get_or lengths file 0) (page + 1) =
                rw same (get_or-set_same lengths file (max (get_or lengths file 0) (page + 1)) 0
                fits) in
                elim (cases_eq p page) [
                  | inl at ↦ absurd (other same at)
                  | inr past ↦ rw same (elim (cases_lt p page) [
                    | inl below ↦ absurd (omega (arith, now, is, below))
                    | inr above ↦
                        elim (cases_lt page p) [
                          | inl more ↦ omega (arith, now, is, more)
                          | inr less ↦ absurd (past (omega (arith, above, less)))
                        ]
                  ])
                ]
            | inr differs ↦ sym (get_or-set_other lengths file f
                (max (get_or lengths file 0) (page + 1)) 0 differs) ∙ is
          ]))
    ]
