-- Pages over an image.
use Rattle.std.specs.Prelude.{if◌then◌else◌, ◌==◌, ◌&&◌, Result, OnOk, Ok, Err}
use Rattle.std.proofs.Common.{◌≡◌, ◌⊎◌, inr, ⊎_elim, ℕ, zero, suc, ◌<◌, ◌+◌, ◌/◌, ◌*◌, ◌^◌, Bool}
use Rattle.std.proofs.Common.{true, false, List, [], ◌∷◌, ◌++◌, length, get_or, set, take, position}
use Rattle.std.proofs.Common.{Option, None, Some, ◌≤◌, MatchOption, slice_index_or, refl, sym, ap}
use Rattle.std.proofs.Common.{◌∙◌, subst, arith}
use Rattle.std.proofs.lemmas.List.{take_more}
use Rattle.std.proofs.lemmas.Bool.{false≢true, eq-eqb}
use Rattle.std.proofs.lemmas.Bool.Decides.{nat_tests}
use Rattle.std.proofs.lemmas.List.Quantifiers.{position-Some}
use Rattle.std.specs.List.{position_or_len}
use Rattle.kv_base.specs.Image.{Image, with_page}
use Rattle.kv_base.proofs.ImageLemmas.{one_place, with_page-at, with_page-other, same_image}
use Rattle.kv_model.specs.Layout.{slot_size, pages_in_slot}
use Rattle.kv_model.specs.Reading.{page_of, offset_of}
use Rattle.kv_model.specs.Recovery.{most_pages}
use Rattle.kv_slot.specs.Overwrite.{overwritten}
use Rattle.kv_slab.specs.Images.{Mix, Sets}
use Rattle.kv_slab.proofs.SlotLemmas.{sets_slot}
use Rattle.kv_slab.specs.Pages.{is_at, over, Missing, AreApart, AreOfSlabs, ArePages, written}
use Rattle.kv_slab.specs.Pages.{HasAt}
use Rattle.kv_slab.specs.declared.page.Page.{Page}

pub at_place : (f p : ℕ) (held : Page) → ((is_at f p held ≡ true) × (held.file ≡ f)
    × (held.page ≡ p)) ⊎ ((is_at f p held ≡ false) × ((f ≡ held.file) → (p ≡ held.page) → ⊥))
at_place f p held = grind (arith, nat_tests)

pub over_missing : (image : Image) (pages : List Page) (f p : ℕ) → Missing f p pages
    → over image pages f p ≡ image f p
over_missing image [] f p m = refl
over_missing image (held ∷ rest) f p m = rw m.0 (over_missing image rest f p m.1)

pub over_base : (a b : Image) (pages : List Page) (f p : ℕ) → a f p ≡ b f p → over a pages f p
    ≡ over b pages f p
over_base a b [] f p e = e
over_base a b (held ∷ rest) f p e = ap (λ (r : List ℕ). if is_at f p held then held.content else r)
    (over_base a b rest f p e)

pub written_over : (image : Image) (pages : List Page) → AreApart pages → written image pages
    ≡ over image pages
written_over image [] apart = same_image image (over image []) (λ f p. refl)
written_over image (held ∷ rest) apart =
    written_over (with_page image held.file held.page held.content) rest apart.1
    ∙ same_image (over (with_page image held.file held.page held.content) rest)
    (over image (held ∷ rest)) (λ f p.
    ⊎_elim
    (λ (t : (is_at f p held ≡ true) × (held.file ≡ f) × (held.page ≡ p)).
    let missing : Missing f p rest = subst (λ (g : ℕ). Missing g p rest) t.1
    (subst (λ (q : ℕ). Missing held.file q rest) t.2 apart.0) in
    rw t.0 (over_missing (with_page image held.file held.page held.content) rest f p missing
    ∙ with_page-at image held.file held.page held.content f p (sym t.1) (sym t.2)))
    (λ (t : (is_at f p held ≡ false) × ((f ≡ held.file) → (p ≡ held.page) → ⊥)).
    rw t.0 (over_base (with_page image held.file held.page held.content) image rest f p
    (with_page-other image held.file held.page held.content f p t.1)))
    (at_place f p held))

written_push : (image : Image) (pages : List Page) (page : Page)
    → written image (pages ++ page ∷ []) ≡ with_page (written image pages) page.file page.page
    page.content
written_push image [] page = refl
written_push image (first ∷ pages) page = written_push (with_page image first.file first.page
    first.content) pages page

pub written_more : (image : Image) (pages : List Page) (i : ℕ) (page : Page) → i < length pages
    → page ≡ get_or pages i page
    → written image (take (i + 1) pages) ≡ with_page (written image (take i pages)) page.file
    page.page page.content
written_more image pages i page below is =
    ap (λ (ps : List Page). written image ps) (take_more pages i page below
    ∙ ap (λ (p : Page). take i pages ++ p ∷ []) (sym is))
    ∙ written_push image (take i pages) page

missing_at : (pages : List Page) (i : ℕ) (page : Page) (f p : ℕ) → i < length pages → page
    ≡ get_or pages i page → Missing f p pages → is_at f p page ≡ false
missing_at [] i page f p below is m = absurd (omega arith)
missing_at (held ∷ rest) zero page f p below is m = ap (is_at f p) is ∙ m.0
missing_at (held ∷ rest) (suc i) page f p below is m = missing_at rest i page f p (omega arith) is
    m.1

pub missing_get : (pages : List Page) (i f p : ℕ) (d : Page) → i < length pages → Missing f p pages
    → is_at f p (get_or pages i d) ≡ false
missing_get [] i f p d below m = absurd (omega arith)
missing_get (held ∷ rest) zero f p d below m = m.0
missing_get (held ∷ rest) (suc i) f p d below m = missing_get rest i f p d (omega arith) m.1

-- a page at one place is at no other
elsewhere : (f p g q : ℕ) (x : Page) → is_at f p x ≡ true → ((g ≡ f) → (q ≡ p) → ⊥) → is_at g q x
    ≡ false
elsewhere f p g q x e far =
    ⊎_elim
    (λ (t : (is_at f p x ≡ true) × (x.file ≡ f) × (x.page ≡ p)).
    ⊎_elim
    (λ (u : (is_at g q x ≡ true) × (x.file ≡ g) × (x.page ≡ q)). absurd
    (far (sym u.1 ∙ t.1) (sym u.2 ∙ t.2)))
    (λ (u : (is_at g q x ≡ false) × ((g ≡ x.file) → (q ≡ x.page) → ⊥)). u.0)
    (at_place g q x))
    (λ (t : (is_at f p x ≡ false) × ((f ≡ x.file) → (p ≡ x.page) → ⊥)). absurd
    (false≢true (sym t.0 ∙ e)))
    (at_place f p x)

-- a page of the list is what the image has there under the list
pub over_at : (image : Image) (pages : List Page) (i : ℕ) (page : Page) → AreApart pages
    → i < length pages → page ≡ get_or pages i page → over image pages page.file page.page
    ≡ page.content
over_at image [] i page apart below is = absurd (omega arith)
over_at image (held ∷ rest) zero page apart below is =
    ⊎_elim
    (λ (t : (is_at page.file page.page held ≡ true) × (held.file ≡ page.file) × (held.page
    ≡ page.page)). rw t.0 (ap (λ (q : Page). q.content) (sym is)))
    (λ (t : (is_at page.file page.page held ≡ false) × ((page.file ≡ held.file) → (page.page
    ≡ held.page) → ⊥)). absurd (t.1 (ap (λ (q : Page). q.file) is) (ap (λ (q : Page). q.page)
    is)))
    (at_place page.file page.page held)
over_at image (held ∷ rest) (suc i) page apart below is =
    ⊎_elim
    (λ (t : (is_at page.file page.page held ≡ true) × (held.file ≡ page.file) × (held.page
    ≡ page.page)).
    let miss : is_at held.file held.page page ≡ false = missing_at rest i page held.file held.page
    (omega arith) is apart.0 in
    ⊎_elim
    (λ (u : (is_at held.file held.page page ≡ true) × (page.file ≡ held.file) × (page.page
    ≡ held.page)). absurd (false≢true (sym miss ∙ u.0)))
    (λ (u : (is_at held.file held.page page ≡ false) × ((held.file ≡ page.file) → (held.page
    ≡ page.page) → ⊥)). absurd (u.1 t.1 t.2))
    (at_place held.file held.page page))
    (λ (t : (is_at page.file page.page held ≡ false) × ((page.file ≡ held.file) → (page.page
    ≡ held.page) → ⊥)). rw t.0 (over_at image rest i page apart.1 (omega arith) is))
    (at_place page.file page.page held)

pub still : (old : Image) (pages : List Page) (i : ℕ) (page : Page) → AreApart pages
    → i < length pages → page ≡ get_or pages i page → (was : Image) → Mix old (over old pages) was
    → Mix old (over old pages) (with_page was page.file page.page page.content)
still old pages i page apart below is was mix f p =
    ⊎_elim
    (λ (one : (f ≡ page.file) × (p ≡ page.page)).
    inr (with_page-at was page.file page.page page.content f p one.0 one.1
    ∙ sym (over_at old pages i page apart below is)
    ∙ ap (λ (g : ℕ). over old pages g page.page) (sym one.0)
    ∙ ap (λ (q : ℕ). over old pages f q) (sym one.1)))
    (λ (apart : (f ≡ page.file) → (p ≡ page.page) → ⊥).
    subst (λ (c : List ℕ). (c ≡ old f p) ⊎ (c ≡ over old pages f p))
    (sym (with_page-other was page.file page.page page.content f p apart)) (mix f p))
    (one_place f p page.file page.page)

-- what holds anyhow
pub on_ok : {T E : Type 0} {P : Type 0} (r : Result T E) → P → OnOk r P
on_ok (Ok x) p = p
on_ok (Err e) p = tt

pub position_none : {X : Type 0} (p : X → Bool) (xs : List X) → position p xs ≡ None
    → length xs ≤ position_or_len p xs
position_none p xs h = grind (arith, nat_tests)

missing_here : (f p : ℕ) (xs : List Page) → length xs ≤ position_or_len (is_at f p) xs
    → Missing f p xs
missing_here f p [] h = tt
missing_here f p (x ∷ xs) h =
    ⊎_elim
    (λ (t : (is_at f p x ≡ true) × (x.file ≡ f) × (x.page ≡ p)). let h2 = rw t.0 at h in absurd
    (omega arith))
    (λ (t : (is_at f p x ≡ false) × ((f ≡ x.file) → (p ≡ x.page) → ⊥)). let h2 = rw t.0 at h in
    (t.0, missing_here f p xs (omega arith)))
    (at_place f p x)

pub missing_of : (f p : ℕ) (xs : List Page) → position (is_at f p) xs ≡ None → Missing f p xs
missing_of f p xs e = missing_here f p xs (position_none (is_at f p) xs e)

-- the same page twice would not be apart
first_not : (f p : ℕ) (x : Page) (xs : List Page) (i : ℕ) → Missing x.file x.page xs → i < length xs
    → ((d : Page) → is_at f p (get_or xs i d) ≡ true) → is_at f p x ≡ false
first_not f p x xs i missing below here =
    ⊎_elim
    (λ (t : (is_at f p x ≡ true) × (x.file ≡ f) × (x.page ≡ p)).
    let m : Missing f p xs = subst (λ (g : ℕ). Missing g p xs) t.1
    (subst (λ (q : ℕ). Missing x.file q xs) t.2 missing) in
    absurd (false≢true (sym (missing_get xs i f p x below m) ∙ here x)))
    (λ (t : (is_at f p x ≡ false) × ((f ≡ x.file) → (p ≡ x.page) → ⊥)). t.0)
    (at_place f p x)

set_here : (image : Image) (f p : ℕ) (xs : List Page) (i : ℕ) (new : Page) → AreApart xs
    → i < length xs → ((d : Page) → is_at f p (get_or xs i d) ≡ true) → is_at f p new ≡ true
    → over image (set xs i new) f p ≡ new.content
set_here image f p [] i new apart below here e = absurd (omega arith)
set_here image f p (x ∷ xs) zero new apart below here e = rw e
set_here image f p (x ∷ xs) (suc i) new apart below here e =
    rw (first_not f p x xs i apart.0 (omega arith) here) (set_here image f p xs i new apart.1
    (omega arith) here e)

set_other : (image : Image) (f p : ℕ) (xs : List Page) (i : ℕ) (new : Page) (g q : ℕ)
    → i < length xs → ((d : Page) → is_at f p (get_or xs i d) ≡ true) → is_at f p new ≡ true
    → ((g ≡ f) → (q ≡ p) → ⊥) → over image (set xs i new) g q ≡ over image xs g q
set_other image f p [] i new g q below here e apart = absurd (omega arith)
set_other image f p (x ∷ xs) zero new g q below here e apart = rw
    (elsewhere f p g q new e apart, elsewhere f p g q x (here x) apart)
set_other image f p (x ∷ xs) (suc i) new g q below here e apart = ap
    (λ (r : List ℕ). if is_at g q x then x.content else r) (set_other image f p xs i new g q
    (omega arith) here e apart)

pub over_set : (image : Image) (f p : ℕ) (xs : List Page) (i : ℕ) (new : Page) → AreApart xs
    → HasAt xs i f p → new.file ≡ f → new.page ≡ p
    → over image (set xs i new) ≡ with_page (over image xs) f p new.content
over_set image f p xs i new apart has e d =
    let at : is_at f p new ≡ true = rw (eq-eqb new.file f e, eq-eqb new.page p d) in
    same_image (over image (set xs i new)) (with_page (over image xs) f p new.content) (λ g q.
    ⊎_elim
    (λ (one : (g ≡ f) × (q ≡ p)).
    ap (λ (h : ℕ). over image (set xs i new) h q) one.0 ∙ ap
    (λ (r : ℕ). over image (set xs i new) f r) one.1
    ∙ set_here image f p xs i new apart has.below has.here at
    ∙ sym (with_page-at (over image xs) f p new.content g q one.0 one.1))
    (λ (far : (g ≡ f) → (q ≡ p) → ⊥). set_other image f p xs i new g q has.below has.here at far
    ∙ sym (with_page-other (over image xs) f p new.content g q far))
    (one_place g q f p))

pub over_there : (image : Image) (f p : ℕ) (xs : List Page) (i : ℕ) (d : Page) → AreApart xs
    → HasAt xs i f p → (get_or xs i d).content ≡ over image xs f p
over_there image f p [] i d apart has = absurd (let h = has.below in omega arith)
over_there image f p (x ∷ xs) zero d apart has = rw (has.here d)
over_there image f p (x ∷ xs) (suc i) d apart has =
    rw (first_not f p x xs i apart.0 (let h = has.below in omega arith) has.here)
    (over_there image f p xs i d apart.1 (record {
      below = let h = has.below in omega arith;
      here = has.here;
    }))

pub missing_set : (f p : ℕ) (xs : List Page) (i : ℕ) (new : Page)
    → ((d : Page) → is_at f p new ≡ is_at f p (get_or xs i d)) → Missing f p xs
    → Missing f p (set xs i new)
missing_set f p [] i new same m = m
missing_set f p (x ∷ xs) zero new same m = (same x ∙ m.0, m.1)
missing_set f p (x ∷ xs) (suc i) new same m = (m.0, missing_set f p xs i new same m.1)

pub apart_set : (xs : List Page) (i : ℕ) (new : Page) → ((d : Page)
    → (new.file ≡ (get_or xs i d).file) × (new.page ≡ (get_or xs i d).page)) → AreApart xs
    → AreApart (set xs i new)
apart_set [] i new same apart = apart
apart_set (x ∷ xs) zero new same apart = (
  subst (λ (g : ℕ). Missing g new.page xs) (sym (same x).0)
      (subst (λ (q : ℕ). Missing x.file q xs) (sym (same x).1) apart.0),
  apart.1,
)
apart_set (x ∷ xs) (suc i) new same apart = (
  missing_set x.file x.page xs i new (λ d. ap (λ (g : ℕ). (g == x.file) && (new.page == x.page))
      (same d).0 ∙ ap (λ (q : ℕ). ((get_or xs i d).file == x.file) && (q == x.page)) (same d).1)
      apart.0,
  apart_set xs i new same apart.1,
)

push_other : (image : Image) (f p : ℕ) (xs : List Page) (new : Page) (g q : ℕ) → is_at g q new
    ≡ false → over image (xs ++ new ∷ []) g q ≡ over image xs g q
push_other image f p [] new g q e = rw e
push_other image f p (x ∷ xs) new g q e = ap (λ (r : List ℕ). if is_at g q x then x.content else r)
    (push_other image f p xs new g q e)

push_here : (image : Image) (f p : ℕ) (xs : List Page) (new : Page) → is_at f p new ≡ true
    → Missing f p xs → over image (xs ++ new ∷ []) f p ≡ new.content
push_here image f p [] new e m = rw e
push_here image f p (x ∷ xs) new e m = rw m.0 (push_here image f p xs new e m.1)

-- a page more that is as the image has it
pub over_push : (image : Image) (f p : ℕ) (xs : List Page) (new : Page) → Missing f p xs → new.file
    ≡ f → new.page ≡ p → new.content ≡ over image xs f p → over image (xs ++ new ∷ [])
    ≡ over image xs
over_push image f p xs new missing e d same =
    let at : is_at f p new ≡ true = rw (eq-eqb new.file f e, eq-eqb new.page p d) in
    same_image (over image (xs ++ new ∷ [])) (over image xs) (λ g q.
    ⊎_elim
    (λ (one : (g ≡ f) × (q ≡ p)).
    ap (λ (h : ℕ). over image (xs ++ new ∷ []) h q) one.0 ∙ ap
    (λ (r : ℕ). over image (xs ++ new ∷ []) f r) one.1
    ∙ push_here image f p xs new at missing ∙ same
    ∙ ap (λ (h : ℕ). over image xs h p) (sym one.0) ∙ ap (λ (r : ℕ). over image xs g r) (sym one.1))
    (λ (far : (g ≡ f) → (q ≡ p) → ⊥). push_other image f p xs new g q
    (elsewhere f p g q new at far))
    (one_place g q f p))

-- a page more that is another than the image has
pub over_push_set : (image : Image) (f p : ℕ) (xs : List Page) (new : Page) → Missing f p xs
    → new.file ≡ f → new.page ≡ p
    → over image (xs ++ new ∷ []) ≡ with_page (over image xs) f p new.content
over_push_set image f p xs new missing e d =
    let at : is_at f p new ≡ true = rw (eq-eqb new.file f e, eq-eqb new.page p d) in
    same_image (over image (xs ++ new ∷ [])) (with_page (over image xs) f p new.content) (λ g q.
    ⊎_elim
    (λ (one : (g ≡ f) × (q ≡ p)).
    ap (λ (h : ℕ). over image (xs ++ new ∷ []) h q) one.0 ∙ ap
    (λ (r : ℕ). over image (xs ++ new ∷ []) f r) one.1
    ∙ push_here image f p xs new at missing
    ∙ sym (with_page-at (over image xs) f p new.content g q one.0 one.1))
    (λ (far : (g ≡ f) → (q ≡ p) → ⊥). push_other image f p xs new g q (elsewhere f p g q new at far)
    ∙ sym (with_page-other (over image xs) f p new.content g q far))
    (one_place g q f p))

pub missing_push : (f p : ℕ) (xs : List Page) (new : Page) → Missing f p xs → is_at f p new ≡ false
    → Missing f p (xs ++ new ∷ [])
missing_push f p [] new m e = (e, tt)
missing_push f p (x ∷ xs) new m e = (m.0, missing_push f p xs new m.1 e)

pub apart_push : (f p : ℕ) (xs : List Page) (new : Page) → Missing f p xs → new.file ≡ f → new.page
    ≡ p → AreApart xs → AreApart (xs ++ new ∷ [])
apart_push f p [] new m e d apart = (tt, tt)
apart_push f p (x ∷ xs) new m e d apart =
    let at : is_at f p new ≡ true = rw (eq-eqb new.file f e, eq-eqb new.page p d) in
    let far : (x.file ≡ f) → (x.page ≡ p) → ⊥ = λ a b. false≢true
    (sym m.0 ∙ (rw (eq-eqb x.file f a, eq-eqb x.page p b) refl)) in (
      missing_push x.file x.page xs new apart.0 (elsewhere f p x.file x.page new at far),
      apart_push
          f p xs new m.1 e d apart.1,
    )

-- the last is the new one
pub has_push : (f p : ℕ) (xs : List Page) (new : Page) → new.file ≡ f → new.page ≡ p
    → HasAt (xs ++ new ∷ []) (length xs) f p
has_push f p [] new e d = record {
  below = omega arith;
  here = λ _. rw
      (eq-eqb new.file f e, eq-eqb new.page p d);
}
has_push f p (x ∷ xs) new e d =
    let r = has_push f p xs new e d in
    record { below = let b = r.below in omega arith; here = r.here }

pub over_pushed : (image : Image) (f p : ℕ) (xs ys : List Page) (ok : Bool) (new : Page) → ok ≡ true
    → ys ≡ (if ok then xs ++ new ∷ [] else xs) → Missing f p xs → new.file ≡ f → new.page ≡ p
    → new.content ≡ over image xs f p → over image ys ≡ over image xs
over_pushed image f p xs ys ok new done is missing e d same =
    let longer : ys ≡ xs ++ new ∷ [] = rw done at is in
    ap (λ (zs : List Page). over image zs) longer ∙ over_push image f p xs new missing e d same

pub over_pushed_set : (image : Image) (f p : ℕ) (xs ys : List Page) (ok : Bool) (new : Page) → ok
    ≡ true → ys ≡ (if ok then xs ++ new ∷ [] else xs) → Missing f p xs → new.file ≡ f → new.page ≡ p
    → over image ys ≡ with_page (over image xs) f p new.content
over_pushed_set image f p xs ys ok new done is missing e d =
    let longer : ys ≡ xs ++ new ∷ [] = rw done at is in
    ap (λ (zs : List Page). over image zs) longer ∙ over_push_set image f p xs new missing e d

pub apart_pushed : (f p : ℕ) (xs ys : List Page) (ok : Bool) (new : Page) → ok ≡ true → ys
    ≡ (if ok then xs ++ new ∷ [] else xs) → Missing f p xs → new.file ≡ f → new.page ≡ p
    → AreApart xs → AreApart ys
apart_pushed f p xs ys ok new done is missing e d apart =
    let longer : ys ≡ xs ++ new ∷ [] = rw done at is in
    subst AreApart (sym longer) (apart_push f p xs new missing e d apart)

found_some : (f p : ℕ) (xs : List Page) (i : ℕ) → position (is_at f p) xs ≡ Some i → HasAt xs i f p
found_some f p [] i e = absurd (cc)
found_some f p (x ∷ xs) i e = record {
  below = (position-Some (is_at f p) (x ∷ xs) i x e).0;
  here = λ d. (position-Some (is_at f p) (x ∷ xs) i d e).1;
}

pub found_of : (f p : ℕ) (xs : List Page) (r : Option ℕ) → r ≡ position (is_at f p) xs
    → MatchOption r (Missing f p xs) (λ i. HasAt xs i f p)
found_of f p xs None e = missing_of f p xs (sym e)
found_of f p xs (Some i) e = found_some f p xs i (sym e)

pub content_at : (image : Image) (f p : ℕ) (xs : List Page) (i : ℕ) (d : Page) → AreApart xs
    → HasAt xs i f p → (slice_index_or xs i d).content ≡ over image xs f p
content_at image f p xs i d apart has = over_there image f p xs i d apart has

pub same_place : (ys : List Page) (i : ℕ) (was new : Page) → i < length ys → was ≡ get_or ys i was
    → new.file ≡ was.file → new.page ≡ was.page → (d : Page) → (new.file ≡ (get_or ys i d).file)
    × (new.page ≡ (get_or ys i d).page)
same_place [] i was new below is e d other = absurd (omega arith)
same_place (y ∷ ys) zero was new below is e d other = (
  e ∙ ap (λ (q : Page). q.file) is,
  d
      ∙ ap (λ (q : Page). q.page) is,
)
same_place (y ∷ ys) (suc i) was new below is e d other = same_place ys i was new (omega arith) is e
    d other

pub at_get : (f p : ℕ) (x : Page) → is_at f p x ≡ true → (x.file ≡ f) × (x.page ≡ p)
at_get f p x e =
    ⊎_elim
    (λ (t : (is_at f p x ≡ true) × (x.file ≡ f) × (x.page ≡ p)). (t.1, t.2))
    (λ (t : (is_at f p x ≡ false) × ((f ≡ x.file) → (p ≡ x.page) → ⊥)). absurd
    (false≢true (sym t.0 ∙ e)))
    (at_place f p x)

pub set_slot : (base : Image) (xs ys : List Page) (i class slot page : ℕ) (bytes : List ℕ)
    (was new : Page) → class ≤ 7 → AreApart ys → HasAt ys i class page → page ≡ page_of class slot
    → was ≡ get_or ys i was → new.file ≡ was.file → new.page ≡ was.page → length was.content ≡ 4096
    → length bytes ≡ slot_size class
    → new.content ≡ overwritten was.content (offset_of class slot) bytes → over base ys
    ≡ over base xs
    → Sets class slot bytes (over base xs) (over base (set ys i new))
set_slot base xs ys i class slot page bytes was new high apart has is value e d size fits puts same
    =
    let place = at_get class page (get_or ys i was) (has.here was) in
    let file : new.file ≡ class = e ∙ ap (λ (q : Page). q.file) value ∙ place.0 in
    let number : new.page ≡ page = d ∙ ap (λ (q : Page). q.page) value ∙ place.1 in
    let content : was.content ≡ over base ys class (page_of class slot) =
    ap (λ (q : Page). q.content) value ∙ over_there base class page ys i was apart has
    ∙ ap (λ (q : ℕ). over base ys class q) is in
    let sets = sets_slot (over base ys) class slot bytes new.content high
    (ap length (sym content) ∙ size) fits
    (puts ∙ ap (λ (c : List ℕ). overwritten c (offset_of class slot) bytes) content) in
    let image : over base (set ys i new) ≡ with_page (over base ys) class (page_of class slot)
    new.content =
    over_set base class page ys i new apart has file number ∙ ap
    (λ (q : ℕ). with_page (over base ys) class q new.content) is in
    subst (λ (im : Image). Sets class slot bytes im (over base (set ys i new))) same
    (subst (λ (im : Image). Sets class slot bytes (over base ys) im) (sym image) sets)

pub apart_renewed : (ys : List Page) (i f p : ℕ) (was new : Page) → HasAt ys i f p → was
    ≡ get_or ys i was → new.file ≡ was.file → new.page ≡ was.page → AreApart ys
    → AreApart (set ys i new)
apart_renewed ys i f p was new has is e d apart = apart_set ys i new
    (same_place ys i was new has.below is e d) apart

abbrev IsOfSlab : Page → Type 0
IsOfSlab page = (1 ≤ page.file) × (page.file ≤ 11) × (page.page < most_pages page.file)

pub of_slabs_set : (xs : List Page) (i : ℕ) (was new : Page) → i < length xs → was ≡ get_or xs i was
    → new.file ≡ was.file → new.page ≡ was.page → AreOfSlabs xs → AreOfSlabs (set xs i new)
of_slabs_set [] i was new below is e d of = of
of_slabs_set (x ∷ xs) zero was new below is e d of =
    let file : x.file ≡ new.file = sym (e ∙ ap (λ (q : Page). q.file) is) in
    let page : x.page ≡ new.page = sym (d ∙ ap (λ (q : Page). q.page) is) in (
      subst (λ (f : ℕ). (1 ≤ f) × (f ≤ 11) × (new.page < most_pages f)) file
          (subst (λ (p : ℕ). (1 ≤ x.file) × (x.file ≤ 11) × (p < most_pages x.file)) page of.0),
      of.1,
    )
of_slabs_set (x ∷ xs) (suc i) was new below is e d of = (
  of.0,
  of_slabs_set xs i was new
      (omega arith) is e d of.1,
)

of_slabs_push : (xs : List Page) (new : Page) → IsOfSlab new → AreOfSlabs xs
    → AreOfSlabs (xs ++ new ∷ [])
of_slabs_push [] new is of = (is, tt)
of_slabs_push (x ∷ xs) new is of = (of.0, of_slabs_push xs new is of.1)

pub pages_pushed : (f p : ℕ) (xs ys : List Page) (ok : Bool) (new : Page) → ok ≡ true → ys
    ≡ (if ok then xs ++ new ∷ [] else xs) → Missing f p xs → new.file ≡ f → new.page ≡ p
    → 1 ≤ f → f ≤ 11 → p < most_pages f → ArePages xs → ArePages ys
pages_pushed f p xs ys ok new done is missing e d low high small pages =
    let longer : ys ≡ xs ++ new ∷ [] = rw done at is in
    let of : IsOfSlab new = subst (λ (g : ℕ). (1 ≤ g) × (g ≤ 11) × (new.page < most_pages g))
    (sym e)
    (subst (λ (q : ℕ). (1 ≤ f) × (f ≤ 11) × (q < most_pages f)) (sym d) (low, high, small)) in
    record {
      apart = apart_pushed f p xs ys ok new done is missing e d pages.apart;
      of_slabs = subst AreOfSlabs (sym longer) (of_slabs_push xs new of pages.of_slabs);
    }

pub pages_renewed : (ys : List Page) (i f p : ℕ) (was new : Page) → HasAt ys i f p → was
    ≡ get_or ys i was → new.file ≡ was.file → new.page ≡ was.page → ArePages ys
    → ArePages (set ys i new)
pages_renewed ys i f p was new has is e d pages = record {
  apart = apart_renewed ys i f p was new has is e d pages.apart;
  of_slabs = of_slabs_set ys i was new has.below is e d pages.of_slabs;
}

-- pages of slabs leave all others as they are
pub over_beside : (image : Image) (pages : List Page) (f p : ℕ) → AreOfSlabs pages
    → (1 ≤ f → f ≤ 11 → p < most_pages f → ⊥) → over image pages f p ≡ image f p
over_beside image [] f p of out = refl
over_beside image (held ∷ rest) f p of out =
    ⊎_elim
    (λ (t : (is_at f p held ≡ true) × (held.file ≡ f) × (held.page ≡ p)).
    let here : (1 ≤ f) × (f ≤ 11) × (p < most_pages f) = subst
    (λ (g : ℕ). (1 ≤ g) × (g ≤ 11) × (p < most_pages g)) t.1
    (subst (λ (q : ℕ). (1 ≤ held.file) × (held.file ≤ 11) × (q < most_pages held.file)) t.2 of.0) in
    absurd (out here.0 here.1 here.2))
    (λ (t : (is_at f p held ≡ false) × ((f ≡ held.file) → (p ≡ held.page) → ⊥)). rw t.0
    (over_beside image rest f p of.1 out))
    (at_place f p held)

-- the pages of the slots below 2^24
pub page_small : (class slot : ℕ) → 1 ≤ class → class ≤ 11 → slot < 2 ^ 24
    → page_of class slot < most_pages class
page_small zero slot low high below = absurd (omega arith)
page_small (suc zero) slot low high below = let e : slot / 64 < 262144 = omega arith in e
page_small (suc (suc zero)) slot low high below = let e : slot / 32 < 524288 = omega arith in e
page_small (suc (suc (suc zero))) slot low high below = let e : slot / 16 < 1048576 = omega arith in
    e
page_small (suc (suc (suc (suc zero)))) slot low high below = let e : slot / 8 < 2097152 = omega
    arith in e
page_small (suc (suc (suc (suc (suc zero))))) slot low high below = let e : slot / 4 < 4194304 =
    omega arith in e
page_small (suc (suc (suc (suc (suc (suc zero)))))) slot low high below = let e : slot / 2 < 8388608
    = omega arith in e
page_small (suc (suc (suc (suc (suc (suc (suc zero))))))) slot low high below = let e : slot / 1 <
    16777216 = omega arith in e
page_small (suc (suc (suc (suc (suc (suc (suc (suc zero)))))))) slot low high below = let e : slot *
    2 < 33554432 = omega arith in e
page_small (suc (suc (suc (suc (suc (suc (suc (suc (suc zero))))))))) slot low high below = let e :
    slot * 4 < 67108864 = omega arith in e
page_small (suc (suc (suc (suc (suc (suc (suc (suc (suc (suc zero)))))))))) slot low high below =
    let e : slot * 8 < 134217728 = omega arith in e
page_small (suc (suc (suc (suc (suc (suc (suc (suc (suc (suc (suc zero))))))))))) slot low high
    below = let e : slot * 16 < 268435456 = omega arith in e
page_small (suc (suc (suc (suc (suc (suc (suc (suc (suc (suc (suc (suc n)))))))))))) slot low high
    below = absurd (omega arith)

-- all pages of these slots
pub pages_small : (class slot : ℕ) → 8 ≤ class → class ≤ 11 → slot < 2 ^ 24
    → page_of class slot + pages_in_slot class ≤ most_pages class
pages_small zero slot low high below = absurd (omega arith)
pages_small (suc zero) slot low high below = absurd (omega arith)
pages_small (suc (suc zero)) slot low high below = absurd (omega arith)
pages_small (suc (suc (suc zero))) slot low high below = absurd (omega arith)
pages_small (suc (suc (suc (suc zero)))) slot low high below = absurd (omega arith)
pages_small (suc (suc (suc (suc (suc zero))))) slot low high below = absurd (omega arith)
pages_small (suc (suc (suc (suc (suc (suc zero)))))) slot low high below = absurd (omega arith)
pages_small (suc (suc (suc (suc (suc (suc (suc zero))))))) slot low high below = absurd
    (omega arith)
pages_small (suc (suc (suc (suc (suc (suc (suc (suc zero)))))))) slot low high below = let e : slot
    * 2 + 2 ≤ 33554432 = omega arith in e
pages_small (suc (suc (suc (suc (suc (suc (suc (suc (suc zero))))))))) slot low high below = let e :
    slot * 4 + 4 ≤ 67108864 = omega arith in e
pages_small (suc (suc (suc (suc (suc (suc (suc (suc (suc (suc zero)))))))))) slot low high below =
    let e : slot * 8 + 8 ≤ 134217728 = omega arith in e
pages_small (suc (suc (suc (suc (suc (suc (suc (suc (suc (suc (suc zero))))))))))) slot low high
    below = let e : slot * 16 + 16 ≤ 268435456 = omega arith in e
pages_small (suc (suc (suc (suc (suc (suc (suc (suc (suc (suc (suc (suc n)))))))))))) slot low high
    below = absurd (omega arith)

-- a slot of these classes has 2 to 16 pages
pub pages_few : (class : ℕ) → 8 ≤ class → class ≤ 11 → (2 ≤ pages_in_slot class)
    × (pages_in_slot class ≤ 16)
pages_few zero low high = absurd (omega arith)
pages_few (suc zero) low high = absurd (omega arith)
pages_few (suc (suc zero)) low high = absurd (omega arith)
pages_few (suc (suc (suc zero))) low high = absurd (omega arith)
pages_few (suc (suc (suc (suc zero)))) low high = absurd (omega arith)
pages_few (suc (suc (suc (suc (suc zero))))) low high = absurd (omega arith)
pages_few (suc (suc (suc (suc (suc (suc zero)))))) low high = absurd (omega arith)
pages_few (suc (suc (suc (suc (suc (suc (suc zero))))))) low high = absurd (omega arith)
pages_few (suc (suc (suc (suc (suc (suc (suc (suc zero)))))))) low high = (omega arith, omega arith)
pages_few (suc (suc (suc (suc (suc (suc (suc (suc (suc zero))))))))) low high =
    (omega arith, omega arith)
pages_few (suc (suc (suc (suc (suc (suc (suc (suc (suc (suc zero)))))))))) low high =
    (omega arith, omega arith)
pages_few (suc (suc (suc (suc (suc (suc (suc (suc (suc (suc (suc zero))))))))))) low high =
    (omega arith, omega arith)
pages_few (suc (suc (suc (suc (suc (suc (suc (suc (suc (suc (suc (suc n)))))))))))) low high =
    absurd (omega arith)

most_small : (class : ℕ) → 1 ≤ class → class ≤ 11 → most_pages class ≤ 268435456
most_small zero low high = absurd (omega arith)
most_small (suc zero) low high = omega arith
most_small (suc (suc zero)) low high = omega arith
most_small (suc (suc (suc zero))) low high = omega arith
most_small (suc (suc (suc (suc zero)))) low high = omega arith
most_small (suc (suc (suc (suc (suc zero))))) low high = omega arith
most_small (suc (suc (suc (suc (suc (suc zero)))))) low high = omega arith
most_small (suc (suc (suc (suc (suc (suc (suc zero))))))) low high = omega arith
most_small (suc (suc (suc (suc (suc (suc (suc (suc zero)))))))) low high = omega arith
most_small (suc (suc (suc (suc (suc (suc (suc (suc (suc zero))))))))) low high = omega arith
most_small (suc (suc (suc (suc (suc (suc (suc (suc (suc (suc zero)))))))))) low high = omega arith
most_small (suc (suc (suc (suc (suc (suc (suc (suc (suc (suc (suc zero))))))))))) low high = omega
    arith
most_small (suc (suc (suc (suc (suc (suc (suc (suc (suc (suc (suc (suc n)))))))))))) low high =
    absurd (omega arith)

-- a page of slabs is a page of a disk
pub of_slab_at : (pages : List Page) (i : ℕ) (page : Page) → AreOfSlabs pages → i < length pages
    → page ≡ get_or pages i page
    → (page.file ≤ 13) × (page.page < 4294967295)
of_slab_at [] i page of below is = absurd (omega arith)
of_slab_at (x ∷ xs) zero page of below is =
    let small = most_small x.file of.0.0 of.0.1 in
    let file : page.file ≡ x.file = ap (λ (q : Page). q.file) is in
    let number : page.page ≡ x.page = ap (λ (q : Page). q.page) is in
    let a = of.0.1 in
    let b = of.0.2 in
    (omega arith, omega arith)
of_slab_at (x ∷ xs) (suc i) page of below is = of_slab_at xs i page of.1 (omega arith) is

-- an element of a list is the same whatever stands for none
pub same_default : {X : Type 0} (xs : List X) (i : ℕ) (d e : X) → i < length xs → get_or xs i d
    ≡ get_or xs i e
same_default [] i d e below = absurd (omega arith)
same_default (x ∷ xs) zero d e below = refl
same_default (x ∷ xs) (suc i) d e below = same_default xs i d e (omega arith)
