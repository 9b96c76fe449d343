-- Pages that are written in another order.
use Rattle.std.proofs.Common.{◌≡◌, inl, inr, ⊎_elim, ◌∙◌, ℕ, zero, suc, ◌+◌, ◌<◌, ◌≤◌, true, false}
use Rattle.std.proofs.Common.{List, [], ◌∷◌, ◌++◌, length, get_or, map, refl, sym, ap, arith}
use Rattle.std.proofs.Common.{length-append}
use Rattle.std.proofs.lemmas.Bool.{cases_lt}
use Rattle.std.proofs.lemmas.List.Elements.{Contains-get_or}
use Rattle.std.proofs.lemmas.List.Sorted.{All-permutation, Contains-permutation}
use Rattle.std.proofs.lemmas.List.{map-append}
use Rattle.std.specs.List.{range_with_len}
use Rattle.kv_slab.proofs.HandOver.{range-more}
use Rattle.std.specs.List.Sorted.{IsPermutation}
use Rattle.kv_base.specs.Image.{Image, with_page}
use Rattle.kv_base.proofs.ImageLemmas.{one_place, with_page-at, with_page-other, same_image}
use Rattle.kv_slab.specs.Pages.{is_at, over, Missing, AreApart, IsOrder, AreWritten}
use Rattle.kv_slab.specs.declared.page.Page.{Page}
use Rattle.kv_slab.proofs.PageLemmas.{at_place, over_at, over_missing, same_default}

-- the numbers at the ends of the keys are those of a run
third_at : (keys : List (ℕ × ℕ × ℕ)) (a n k : ℕ) (d : ℕ × ℕ × ℕ) → map (λ key. key.2) keys
    ≡ range_with_len a n → k < length keys → (get_or keys k d).2 ≡ a + k
third_at [] a n k d is below = absurd (omega arith)
third_at (x ∷ keys) a zero k d is below = absurd (cc)
third_at (x ∷ keys) a (suc n) zero d is below = (let e : x.2 ≡ a = cc in e)
    ∙ (let f : a ≡ a + 0 = omega arith in f)
third_at (x ∷ keys) a (suc n) (suc k) d is below =
    let rest : map (λ key. key.2) keys ≡ range_with_len (a + 1) n = cc in
    third_at keys (a + 1) n k d rest (omega arith) ∙ (let e : a + 1 + k
    ≡ a + suc k = omega arith in e)

-- keys of all pages, in whatever order
pub order_of_keys : (pages : List Page) (keys order : List (ℕ × ℕ × ℕ)) → map (λ key. key.2) keys
    ≡ range_with_len 0 (length pages) → length keys ≡ length pages
    → length order ≡ length keys → IsPermutation keys order → IsOrder pages order
order_of_keys pages keys order are size count moved = record {
  count = count ∙ size;
  within = All-permutation (λ key. key.2 < length pages) keys order moved (λ k d below.
      let e = third_at keys 0 (length pages) k d are below in omega arith);
  covers = λ i below.
      let key = get_or keys i (0, 0, 0) in
      let in_keys : i < length keys = omega arith in (
        key,
        Contains-permutation keys order key moved (Contains-get_or keys i (0, 0, 0) in_keys),
        third_at keys 0 (length pages) i (0, 0, 0) are in_keys
            ∙ (let e : 0 + i ≡ i = omega arith in e),
      );
}

-- nothing was written yet
pub written_none : (old : Image) (pages : List Page) (order : List (ℕ × ℕ × ℕ))
    → AreWritten old pages order 0 old
written_none old pages order f p = inr (refl, λ k d below. absurd (omega arith))

-- one page more was written
pub written_next : (old now : Image) (pages : List Page) (order : List (ℕ × ℕ × ℕ)) (n i : ℕ)
    (page : Page) → AreApart pages → i < length pages → page ≡ get_or pages i page
    → ((d : ℕ × ℕ × ℕ) → (get_or order n d).2 ≡ i) → AreWritten old pages order n now
    → AreWritten old pages order (n + 1) (with_page now page.file page.page page.content)
written_next old now pages order n i page apart below is number so_far f p = elim
    (one_place f p page.file page.page) [
      | inl one ↦ inl (with_page-at now page.file page.page page.content f p one.0 one.1
          ∙ sym (over_at old pages i page apart below is)
          ∙ ap (λ (g : ℕ). over old pages g page.page) (sym one.0)
          ∙ ap (λ (q : ℕ). over old pages f q) (sym one.1))
      | inr far ↦
          let same = with_page-other now page.file page.page page.content f p far in
          elim (so_far f p) [
            | inl done ↦ inl (same ∙ done)
            | inr still ↦ inr (
              same ∙ still.0,
              λ k d less e. elim (cases_lt k n) [
                | inl before ↦ still.1 k d before e
                | inr last ↦
                    let k_is : k ≡ n = omega arith in
                    let here : (get_or order k d).2 ≡ i = ap (λ j. (get_or order j d).2) k_is
                    ∙ number d in
                    ⊎_elim
                    (λ (t : (is_at f p page ≡ true) × (page.file ≡ f) × (page.page ≡ p)). absurd
                    (far (sym t.1) (sym t.2)))
                    (λ (t : (is_at f p page ≡ false) × ((f ≡ page.file) → (p ≡ page.page) → ⊥)).
                    ap (λ j. is_at f p (get_or pages j e)) here ∙ ap (is_at f p)
                    (same_default pages i e page below ∙ sym is) ∙ t.0)
                    (at_place f p page)
              ],
            )
          ]
    ]

missing_all : (f p : ℕ) (pages : List Page) → ((i : ℕ) (d : Page) → i < length pages
    → is_at f p (get_or pages i d) ≡ false) → Missing f p pages
missing_all f p [] none = tt
missing_all f p (x ∷ pages) none = (
  none 0 x (omega arith),
  missing_all f p pages
      (λ i d below. none (suc i) d (omega arith)),
)

-- all pages were written
pub written_all : (old now : Image) (pages : List Page) (order : List (ℕ × ℕ × ℕ)) (n : ℕ)
    → IsOrder pages order → length order ≤ n → AreWritten old pages order n now
    → now ≡ over old pages
written_all old now pages order n is all so_far = same_image now (over old pages)
    (λ f p. elim (so_far f p) [
      | inl done ↦ done
      | inr still ↦ still.0 ∙ sym (over_missing old pages f p (missing_all f p pages (λ i d below.
          let c = is.covers i below in
          let at = c.1 in
          ap (λ j. is_at f p (get_or pages j d)) (sym (ap (λ (key : ℕ × ℕ × ℕ). key.2) at.2 ∙ c.2))
          ∙ still.1 at.0 c.0 (omega (arith, at.1)) d)))
    ])

-- one key more
pub keys_more : (old new : List (ℕ × ℕ × ℕ)) (key : ℕ × ℕ × ℕ) (n : ℕ) → new ≡ old ++ key ∷ []
    → key.2 ≡ n → map (λ k. k.2) old ≡ range_with_len 0 n → length old ≡ n
    → (map (λ k. k.2) new ≡ range_with_len 0 (n + 1)) × (length new ≡ n + 1)
keys_more old new key n is last keys count =
    let start : n ≡ 0 + n = omega arith in (
      ap (map (λ (k : ℕ × ℕ × ℕ). k.2)) is ∙ map-append (λ (k : ℕ × ℕ × ℕ). k.2) old (key ∷ [])
          ∙ ap (λ (l : List ℕ). l ++ key.2 ∷ []) keys ∙ ap (λ (x : ℕ). range_with_len 0 n ++ x ∷ [])
          (last ∙ start) ∙ sym (range-more 0 n),
      ap length is ∙ length-append old (key ∷ []) ∙ ap (λ k. k + 1) count,
    )
