-- A map that has the place of each page.
use Rattle.std.specs.Prelude.{◌==◌, ◌&&◌, MatchOption}
use Rattle.std.specs.HashMap.{get}
use Rattle.std.proofs.Common.{◌≡◌, ◌∙◌, ℕ, zero, suc, ◌<◌, cond, Bool, true, false}
use Rattle.std.proofs.Common.{List, [], ◌∷◌, ◌++◌, length, get_or, set, Option, None, Some}
use Rattle.std.proofs.Common.{refl, sym, ap, subst, arith, length-append}
use Rattle.std.proofs.lemmas.List.{get_or_append_left}
use Rattle.kv_slab.specs.Pages.{is_at, Missing, HasAt, Places, AreLocated, is_same_spot}
use Rattle.kv_slab.proofs.PageLemmas.{at_get, has_push, missing_push, missing_set, same_place}
use Rattle.kv_slab.specs.declared.page.Page.{Page}

-- the place of a page among these
abbrev IsPlaced : List Page → ℕ → ℕ → Option ℕ → Type 0
IsPlaced pages f p o = MatchOption o (Missing f p pages) (λ at. HasAt pages at f p)

-- one page more
pub located-push : (old new : Places) (pages : List Page) (held : Page) (number : ℕ)
    → number ≡ length pages
    → ((spot : ℕ × ℕ) → get is_same_spot new spot
    ≡ cond (is_same_spot (held.file, held.page) spot) (Some number) (get is_same_spot old spot))
    → AreLocated old pages → AreLocated new (pages ++ held ∷ [])
located-push old new pages held number last updates located f p =
    subst (IsPlaced (pages ++ held ∷ []) f p) (sym (updates (f, p)))
    (by_test (is_at f p held) refl (get is_same_spot old (f, p)) (located f p))
  where
    by_test : (b : Bool) → is_at f p held ≡ b → (o : Option ℕ) → IsPlaced pages f p o
        → IsPlaced (pages ++ held ∷ []) f p (cond b (Some number) o)
    by_test true here o placed =
        let spot = at_get f p held here in
        subst (λ n. HasAt (pages ++ held ∷ []) n f p) (sym last)
        (has_push f p pages held spot.0 spot.1)
    by_test false other None placed = missing_push f p pages held placed other
    by_test false other (Some at) placed = record {
      below = omega (arith, placed.below, length-append pages (held ∷ []));
      here = λ d. ap (is_at f p) (get_or_append_left pages (held ∷ []) d at placed.below)
          ∙ placed.here d;
    }

has_set : (f p : ℕ) (pages : List Page) (i : ℕ) (new : Page)
    → ((d : Page) → is_at f p new ≡ is_at f p (get_or pages i d)) → (at : ℕ) → HasAt pages at f p
    → HasAt (set pages i new) at f p
has_set f p [] i new same at has = has
has_set f p (x ∷ xs) zero new same zero has = record {
  below = has.below;
  here = λ d. same d ∙ has.here d;
}
has_set f p (x ∷ xs) zero new same (suc at) has = record { below = has.below; here = has.here }
has_set f p (x ∷ xs) (suc i) new same zero has = record { below = omega arith; here = has.here }
has_set f p (x ∷ xs) (suc i) new same (suc at) has =
    let rest = has_set f p xs i new same at (record {
      below = let b = has.below in omega arith;
      here = has.here;
    }) in
    record { below = let b = rest.below in omega arith; here = rest.here }

-- a page gets another content
pub located-set : (places : Places) (pages : List Page) (i : ℕ) (was new : Page) → i < length pages
    → was ≡ get_or pages i was → new.file ≡ was.file → new.page ≡ was.page
    → AreLocated places pages → AreLocated places (set pages i new)
located-set places pages i was new below is file page located f p =
    by_place (get is_same_spot places (f, p)) (located f p)
  where
    same : (d : Page) → is_at f p new ≡ is_at f p (get_or pages i d)
    same d =
        let both = same_place pages i was new below is file page d in
        ap (λ (g : ℕ). (g == f) && (new.page == p)) both.0
        ∙ ap (λ (q : ℕ). ((get_or pages i d).file == f) && (q == p)) both.1

    by_place : (o : Option ℕ) → IsPlaced pages f p o → IsPlaced (set pages i new) f p o
    by_place None placed = missing_set f p pages i new same placed
    by_place (Some at) placed = has_set f p pages i new same at placed
