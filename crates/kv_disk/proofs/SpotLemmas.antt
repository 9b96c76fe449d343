-- Lemmas on the places of pages among others.
use Rattle.std.proofs.Common.{◌≡◌, ℕ, ◌≤◌, ◌+◌, suc, List, [], ◌∷◌, ◌++◌, Bool, true, false, cond}
use Rattle.std.proofs.Common.{not, Option, Some, None, length, map, get_or, All, set, ltb, ◌⊎◌, inl}
use Rattle.std.proofs.Common.{inr, refl, ap, sym, ◌∙◌, subst, subst₂, arith, add-one}
use Rattle.std.specs.Prelude.{◌&&◌, ◌==◌, fold, is_some, if◌then◌else◌}
use Rattle.std.specs.List.{position_or_len}
use Rattle.std.specs.Option.{option_map}
use Rattle.std.proofs.lemmas.Bool.{cond-true, cond-false, cases_eq, cases_lt, and_parts, and_left}
use Rattle.std.proofs.lemmas.Bool.{and_right, and_from, eqb-true, eq-eqb, ne_eqb, lt-ltb, le-ltb}
use Rattle.std.proofs.lemmas.List.{get_or_push, length-map, map-set, map_push, set-get_or}
use Rattle.std.proofs.lemmas.List.Elements.{All-push, All-head, All-tail}
use Rattle.std.proofs.lemmas.List.Quantifiers.{position-Some}
use Rattle.kv_base.specs.Image.{with_page, zero_page}
use Rattle.kv_disk.specs.declared.call.Held.{Held}
use Rattle.kv_disk.specs.declared.call.Spot.{Spot}
use Rattle.kv_disk.specs.declared.call.Call.{Call}
use Rattle.kv_disk.specs.declared.call.Call.TheVariants.{Write, Sync, Idle}
use Rattle.kv_disk.specs.Plain.{content_at}
use Rattle.kv_disk.specs.PlainFields.{Places}
use Rattle.kv_disk.specs.Replay.{place_in, spot, spot_of, held_with, start_of, spots_after}
use Rattle.kv_disk.specs.Replay.{length_in, SpotFits, CallFits, put_at}
use Rattle.kv_base.proofs.ImageLemmas.{one_place, same_image, test-at, test-other}
use Rattle.kv_disk.proofs.PlainLemmas.{InRange, Apart, content_at-push_other, content-set}
use Rattle.kv_disk.proofs.PlainLemmas.{content-push}

-- the place of the first that passes, by whether the first does
cons-step : (b : Bool) (n len : ℕ)
    → cond (ltb (cond (not b) (1 + n) 0) (suc len)) (Some (cond (not b) (1 + n) 0)) None
    ≡ cond b (Some 0) (option_map (λ i. i + 1) (cond (ltb n len) (Some n) None))
cons-step true n len = rw (lt-ltb 0 (suc len) (omega arith)) refl
cons-step false n len = elim (cases_lt n len) [
  | inl below ↦ rw (lt-ltb (1 + n) (suc len) (omega arith), lt-ltb n len below)
      (ap Some (let same : 1 + n ≡ n + 1 = omega arith in same))
  | inr above ↦ rw (le-ltb (1 + n) (suc len) (omega arith), le-ltb n len above) refl
]

-- the first page, or one of the others
pub place_in-cons : (s : Spot) (spots : List Spot) (f p : ℕ)
    → place_in (s ∷ spots) f p ≡ cond ((s.file == f) && (s.page == p)) (Some 0)
    (option_map (λ i. i + 1) (place_in spots f p))
place_in-cons s spots f p =
    cons-step ((s.file == f) && (s.page == p)) (position_or_len (λ x. (x.file == f)
    && (x.page == p)) spots) (length spots)

-- a page that isn't among some isn't the first of them, nor among the others
none-step : (b : Bool) (o : Option ℕ) → cond b (Some 0) (option_map (λ i. i + 1) o) ≡ None
    → (b ≡ false) × (o ≡ None)
none-step true o none = absurd (cc)
none-step false None none = (refl, refl)
none-step false (Some i) none = absurd (cc)

-- the same of pages
pub place_in-absent : (s : Spot) (spots : List Spot) (f p : ℕ) → place_in (s ∷ spots) f p ≡ None
    → (((s.file == f) && (s.page == p)) ≡ false) × (place_in spots f p ≡ None)
place_in-absent s spots f p absent = none-step _ _ (sym (place_in-cons s spots f p) ∙ absent)

-- a page that is new has the place behind the others
pub place_in-push : (spots : List Spot) (file page : ℕ) → place_in spots file page ≡ None
    → Places (place_in spots) (place_in (spots ++ spot file page ∷ [])) file page (length spots)
place_in-push [] file page absent f p = place_in-cons (spot file page) [] f p
place_in-push (s ∷ spots) file page absent f p =
    let parts = place_in-absent s spots file page absent in
    let rest : place_in (spots ++ spot file page ∷ []) f p ≡ (if (file == f) && (page == p)
    then Some (length spots) else place_in spots f p) =
    place_in-push spots file page parts.1 f p in
    place_in-cons s (spots ++ spot file page ∷ []) f p ∙ elim (one_place f p file page) [
      | inl same ↦
          let here : ((file == f) && (page == p)) ≡ true =
          test-at file page f p (sym same.0) (sym same.1) in
          let first : ((s.file == f) && (s.page == p)) ≡ false =
          (let Q : ℕ → ℕ → Type 0 = λ m n. ((s.file == m) && (s.page == n)) ≡ false in
          subst₂ Q (sym same.0) (sym same.1) parts.0) in
          cond-false _ _ _ first ∙ ap (option_map (λ i. i + 1)) (rest ∙ cond-true _ _ _ here)
          ∙ ap Some (let same : length spots + 1 ≡ suc (length spots) = omega arith in same)
          ∙ sym (cond-true _ _ _ here)
      | inr other ↦
          let apart : ((file == f) && (page == p)) ≡ false =
          test-other file page f p (λ same_file same_page. other (sym same_file)
          (sym same_page)) in
          ap (λ o. cond ((s.file == f) && (s.page == p)) (Some 0) (option_map (λ i. i + 1) o)) (rest
          ∙ cond-false _ _ _ apart) ∙ sym (place_in-cons s spots f p)
          ∙ sym (cond-false _ _ _ apart)
    ]

-- each place is among the pages
pub place_in-range : (spots : List Spot) → InRange (place_in spots) (length spots)
place_in-range spots f p i at =
    (position-Some (λ s. (s.file == f) && (s.page == p)) spots i (spot 0 0) at).0

-- and is one page's own
pub place_in-apart : (spots : List Spot) → Apart (place_in spots)
place_in-apart spots f p g q i here there =
    let one = and_parts _ _ (position-Some (λ s. (s.file == f) && (s.page == p)) spots i (spot 0 0)
    here).1 in
    let two = and_parts _ _ (position-Some (λ s. (s.file == g) && (s.page == q)) spots i (spot 0 0)
    there).1 in
    (sym (eqb-true _ _ one.0) ∙ eqb-true _ _ two.0, sym (eqb-true _ _ one.1) ∙ eqb-true _ _ two.1)

-- the content at the first place or at one behind it
content-step : (b : Bool) (c : List ℕ) (contents : List (List ℕ)) (o : Option ℕ)
    → content_at (c ∷ contents) (cond b (Some 0) (option_map (λ i. i + 1) o))
    ≡ cond b c (content_at contents o)
content-step true c contents o = refl
content-step false c contents None = refl
content-step false c contents (Some i) = rw add-one refl

-- the content of a page before the first call stands at its place
pub start_of-place : (pages : List Held) (f p : ℕ)
    → content_at (map (λ h. h.content) pages) (place_in (map spot_of pages) f p)
    ≡ start_of pages f p
start_of-place [] f p = refl
start_of-place (held ∷ pages) f p =
    ap (content_at (held.content ∷ map (λ h. h.content) pages)) (place_in-cons (spot_of held)
    (map spot_of pages) f p)
    ∙ content-step ((held.file == f) && (held.page == p)) held.content (map (λ h. h.content) pages)
    (place_in (map spot_of pages) f p)
    ∙ ap (λ c. if (held.file == f) && (held.page == p) then held.content
    else c) (start_of-place pages f p)

-- what a new page reads as: zeros, as before
pub content-new : (spots : List Spot) (contents : List (List ℕ)) (file page f p : ℕ)
    → place_in spots file page ≡ None → length contents ≡ length spots
    → content_at (contents ++ zero_page ∷ []) (place_in (spots ++ spot file page ∷ []) f p)
    ≡ content_at contents (place_in spots f p)
content-new spots contents file page f p absent as_many = elim (one_place f p file page) [
  | inl same ↦
      let none : place_in spots f p ≡ None =
      (let Q : ℕ → ℕ → Type 0 = λ m n. place_in spots m n ≡ None in subst₂ Q (sym same.0)
      (sym same.1) absent) in
      ap (content_at (contents ++ zero_page ∷ [])) (place_in-push spots file page absent f p
      ∙ cond-true _ _ _ (test-at file page f p (sym same.0) (sym same.1)))
      ∙ get_or_push contents zero_page zero_page (length spots) as_many
      ∙ sym (ap (content_at contents) none)
  | inr other ↦
      ap (content_at (contents ++ zero_page ∷ [])) (place_in-push spots file page absent f p
      ∙ cond-false _ _ _ (test-other file page f p (λ same_file same_page. other (sym same_file)
      (sym same_page))))
      ∙ content_at-push_other contents (place_in spots f p) zero_page
      (λ j at. rw as_many (place_in-range spots f p j at))
]

-- the spots of pages that are made for spots
pub spots-held_with : (g : Spot → List ℕ) (spots : List Spot)
    → map spot_of (map (λ s. held_with s (g s)) spots) ≡ spots
spots-held_with g [] = refl
spots-held_with g (s ∷ spots) = ap (λ rest. s ∷ rest) (spots-held_with g spots)

-- the content of a page among pages that are made for spots
pub start_of-held_with : (g : ℕ → ℕ → List ℕ) (spots : List Spot) (f p : ℕ)
    → (start_of (map (λ s. held_with s (g s.file s.page)) spots) f p ≡ g f p)
    ⊎ ((place_in spots f p ≡ None) × (start_of (map (λ s. held_with s (g s.file s.page)) spots) f p
    ≡ zero_page))
start_of-held_with g [] f p = inr (refl, refl)
start_of-held_with g (s ∷ spots) f p = elim (one_place f p s.file s.page) [
  | inl same ↦ inl (cond-true _ _ _ (test-at s.file s.page f p (sym same.0) (sym same.1))
      ∙ sym (let Q : ℕ → ℕ → Type 0 = λ m n. g m n ≡ g s.file s.page in subst₂ Q (sym same.0)
      (sym same.1) refl))
  | inr other ↦
      let apart = test-other s.file s.page f p (λ same_file same_page. other (sym same_file)
      (sym same_page)) in
      elim (start_of-held_with g spots f p) [
        | inl is ↦ inl (cond-false _ _ _ apart ∙ is)
        | inr none ↦ inr (
          place_in-cons s spots f p ∙ cond-false _ _ _ apart
              ∙ ap (option_map (λ i. i + 1)) none.0,
          cond-false _ _ _ apart ∙ none.1,
        )
      ]
]

-- one page less: it isn't the page, and the longest was no more
longest-step : (f p longest : ℕ) (s : Spot) → (if (s.file == f) && ltb longest (s.page + 1)
    then s.page + 1 else longest) ≤ p → (longest ≤ p) × (((s.file == f) && (s.page == p)) ≡ false)
longest-step f p longest s le = elim (cases_eq s.file f) [
  | inr other ↦
      let no_file : (s.file == f) ≡ false = ne_eqb s.file f other in
      (rw (no_file) at le, and_left (s.file == f) (s.page == p) no_file)
  | inl same ↦ elim (cases_lt longest (s.page + 1)) [
    | inl below ↦
        let here : ((s.file == f) && ltb longest (s.page + 1)) ≡ true =
        and_from _ _ (eq-eqb s.file f same) (lt-ltb longest (s.page + 1) below) in
        let next : s.page + 1 ≤ p =
        (let Q : ℕ → Type 0 = λ n. n ≤ p in subst Q (cond-true _ _ _ here) le) in (
          omega (arith, next, below),
          and_right (s.file == f) (s.page == p)
              (ne_eqb s.page p (λ at. absurd (omega (arith, next, at)))),
        )
    | inr above ↦
        let not_here : ((s.file == f) && ltb longest (s.page + 1)) ≡ false =
        and_right (s.file == f) (ltb longest (s.page + 1)) (le-ltb longest (s.page + 1)
        above) in
        let stays : longest ≤ p =
        (let Q : ℕ → Type 0 = λ n. n ≤ p in subst Q (cond-false _ _ _ not_here) le) in (
          stays,
          and_right (s.file == f) (s.page == p)
              (ne_eqb s.page p (λ at. absurd (omega (arith, stays, above, at)))),
        )
  ]
]

-- past a length that counts on from another there is no page of the file
longest-absent : (spots : List Spot) (f p longest : ℕ)
    → fold (λ n s. if (s.file == f) && ltb n (s.page + 1) then s.page + 1 else n) longest spots ≤ p
    → (longest ≤ p) × (place_in spots f p ≡ None)
longest-absent [] f p longest le = (le, refl)
longest-absent (s ∷ spots) f p longest le =
    let rest = longest-absent spots f p (if (s.file == f) && ltb longest (s.page + 1)
    then s.page + 1 else longest) le in
    let parts : (longest ≤ p) × (((s.file == f) && (s.page == p)) ≡ false) =
    longest-step f p longest s rest.0 in (
      parts.0,
      place_in-cons s spots f p ∙ cond-false _ _ _ parts.1
          ∙ ap (option_map (λ i. i + 1)) rest.1,
    )

-- past the length of a file it has no page
pub length-absent : (spots : List Spot) (f p : ℕ) → length_in spots f ≤ p
    → place_in spots f p ≡ None
length-absent spots f p le = (longest-absent spots f p 0 le).1

-- a page of a disk, among the pages that a call leaves
fits-call : (spots : List Spot) (call : Call) → All SpotFits spots → CallFits call
    → All SpotFits (spots_after spots call)
fits-call spots (Write w) all fits =
    elim (is_some (place_in spots w.file w.page)) as (λ b. All SpotFits (if b then spots
    else spots ++ spot w.file w.page ∷ [])) [
      | true ↦ all
      | false ↦ All-push SpotFits spots
          (spot w.file w.page) all fits
    ]
fits-call spots Sync all fits = all
fits-call spots Idle all fits = all

-- the pages of a disk that are held after its calls
pub fits-log : (spots : List Spot) (log : List Call) → All SpotFits spots → All CallFits log
    → All SpotFits (fold spots_after spots log)
fits-log spots [] all fits = all
fits-log spots (call ∷ log) all fits =
    fits-log (spots_after spots call) log (fits-call spots call all (All-head CallFits call log
    fits)) (All-tail CallFits call log fits)

-- a spot with these numbers
spot_is : (s : Spot) (f p : ℕ) → s.file ≡ f → s.page ≡ p → s ≡ spot f p
spot_is s f p same_file same_page = λ i. spot (same_file i) (same_page i)

-- a page that is put at its own place
pub spots-set : (spots : List Spot) (f p i : ℕ) → place_in spots f p ≡ Some i
    → set spots i (spot f p) ≡ spots
spots-set spots f p i at =
    let found = position-Some (λ s. (s.file == f) && (s.page == p)) spots i (spot 0 0) at in
    let both = and_parts ((get_or spots i (spot 0 0)).file == f) ((get_or spots i (spot 0 0)).page
    == p) found.1 in
    let is = spot_is (get_or spots i (spot 0 0)) f p (eqb-true _ _ both.0) (eqb-true _ _ both.1) in
    ap (set spots i) (sym is) ∙ set-get_or spots i (spot 0 0)

-- the content of a page before the first call, where one was put
pub start_of-put : (pages : List Held) (file page : ℕ) (content : List ℕ) (o : Option ℕ) (f p : ℕ)
    → place_in (map spot_of pages) file page ≡ o
    → start_of (put_at pages (held_with (spot file page) content) o) f p
    ≡ with_page (start_of pages) file page content f p
start_of-put pages file page content None f p absent =
    let held = held_with (spot file page) content in
    let spots : map spot_of (pages ++ held ∷ []) ≡ map spot_of pages ++ spot file page ∷ [] =
    map_push spot_of pages held in
    let contents : map (λ h. h.content) (pages ++ held ∷ []) ≡ map (λ h. h.content) pages ++ content
    ∷ [] = map_push (λ h. h.content) pages held in
    let puts : Places (place_in (map spot_of pages)) (place_in (map spot_of pages ++ spot file page
    ∷ [])) file page (length (map (λ h. h.content) pages)) =
    rw (length-map pages (λ h. h.content), ← length-map pages spot_of)
    (place_in-push (map spot_of pages) file page absent) in
    let within : InRange (place_in (map spot_of pages)) (length (map (λ h. h.content) pages)) =
    rw (length-map pages (λ h. h.content), ← length-map pages spot_of)
    (place_in-range (map spot_of pages)) in
    sym (start_of-place (pages ++ held ∷ []) f p)
    ∙ rw (spots, contents) (ap (λ image. image f p) (content-push (place_in (map spot_of pages))
    (place_in (map spot_of pages ++ spot file page ∷ [])) (map (λ h. h.content) pages) file page
    content puts within))
    ∙ ap (λ image. with_page image file page content f p) (same_image _ _ (start_of-place pages))
start_of-put pages file page content (Some i) f p at =
    let held = held_with (spot file page) content in
    let spots : map spot_of (set pages i held) ≡ map spot_of pages = map-set spot_of pages i held
    ∙ spots-set (map spot_of pages) file page i at in
    let contents : map (λ h. h.content) (set pages i held) ≡ set (map (λ h. h.content) pages) i
    content = map-set (λ h. h.content) pages i held in
    let within : InRange (place_in (map spot_of pages)) (length (map (λ h. h.content) pages)) =
    rw (length-map pages (λ h. h.content), ← length-map pages spot_of)
    (place_in-range (map spot_of pages)) in
    sym (start_of-place (set pages i held) f p)
    ∙ rw (spots, contents) (ap (λ image. image f p) (content-set (place_in (map spot_of pages))
    (map (λ h. h.content) pages) file page i content at within
    (place_in-apart (map spot_of pages))))
    ∙ ap (λ image. with_page image file page content f p) (same_image _ _ (start_of-place pages))

-- the spots of pages, where one was put
pub spots-put : (pages : List Held) (file page : ℕ) (content : List ℕ) (o : Option ℕ)
    → place_in (map spot_of pages) file page ≡ o
    → (if is_some o then map spot_of pages else map spot_of pages ++ spot file page ∷ [])
    ≡ map spot_of (put_at pages (held_with (spot file page) content) o)
spots-put pages file page content None absent =
    sym (map_push spot_of pages (held_with (spot file page) content))
spots-put pages file page content (Some i) at =
    sym (map-set spot_of pages i (held_with (spot file page) content)
    ∙ spots-set (map spot_of pages) file page i at)
