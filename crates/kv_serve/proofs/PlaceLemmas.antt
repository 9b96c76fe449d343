-- Places of lists that are taken and given one by one.
use Rattle.std.proofs.Common.{◌≡◌, ◌⊎◌, inl, inr, ℕ, zero, suc, ◌<◌, ◌≤◌, List, [], ◌∷◌}
use Rattle.std.proofs.Common.{◌++◌, length, take, drop, map, reverse, slice_get, Option, None, Some}
use Rattle.std.proofs.Common.{refl, sym, ap, ◌∙◌, arith, append_assoc, append-nil, option_to_list}
use Rattle.std.specs.List.{cons_option}
use Rattle.std.specs.Prelude.{filter_map}
use mathlib.Core.List.{reverse-cons}
use Rattle.std.specs.Str.{bytes_eq}
use Rattle.std.proofs.lemmas.Bool.{cases_Bool, false≢true}
use Rattle.std.proofs.lemmas.Option.{same_Some}
use Rattle.std.proofs.lemmas.Slice.Eq.{bytes_eq-Decides}
use Rattle.kv_mesh.specs.Places.{IsAt}

-- an element of a list with one more at its end stands before, or is that one
pub get-more : {A : Type 0} (xs : List A) (x y : A) (i : ℕ) → slice_get (xs ++ x ∷ []) i ≡ Some y
    → (slice_get xs i ≡ Some y) ⊎ ((i ≡ length xs) × (x ≡ y))
get-more [] x y zero at = inr (refl, same_Some x y at)
get-more [] x y (suc i) at = absurd (cc)
get-more (z ∷ zs) x y zero at = inl at
get-more (z ∷ zs) x y (suc i) at = elim (get-more zs x y i at) [
  | inl here ↦ inl here
  | inr last ↦ inr (ap suc last.0, last.1)
]

-- the one more, with others behind it
pub get-there : {A : Type 0} (xs ys : List A) (x y : A)
    → slice_get ((xs ++ x ∷ []) ++ ys) (length xs) ≡ Some y → x ≡ y
get-there [] ys x y at = same_Some x y at
get-there (z ∷ zs) ys x y at = get-there zs ys x y at

-- the one before a list goes to its front
pub one-more : {A : Type 0} (all left given : List A) (x : A) → all ≡ (left ++ x ∷ []) ++ given
    → all ≡ left ++ x ∷ given
one-more all left given x is = is ∙ append_assoc left (x ∷ []) given

-- a list that was lent whole, with what was written
pub lent-back : {A : Type 0} (olds news : List A) → length news ≡ length olds
    → take (length olds) (news ++ drop (length news) olds) ≡ news
lent-back [] [] same = refl
lent-back [] (y ∷ ys) same = absurd (omega (arith, same))
lent-back (x ∷ xs) [] same = absurd (omega (arith, same))
lent-back (x ∷ xs) (y ∷ ys) same = ap (λ l. y ∷ l) (lent-back xs ys (omega (arith, same)))

-- a list of no element
pub none-left : {A : Type 0} (xs : List A) → (0 < length xs → ⊥) → xs ≡ []
none-left [] none = refl
none-left (x ∷ xs) none = absurd (none (omega arith))

-- an element stands there, or the list ends before
pub at-or-past : {A : Type 0} (xs : List A) (i : ℕ) → ((x : A) × (slice_get xs i ≡ Some x))
    ⊎ (length xs ≤ i)
at-or-past [] i = inr (omega arith)
at-or-past (x ∷ xs) zero = inl (x, refl)
at-or-past (x ∷ xs) (suc i) = elim (at-or-past xs i) [
  | inl at ↦ inl at
  | inr past ↦ inr (omega (arith, past))
]

-- it is this folder, or another
pub is_folder : (f folder : List ℕ) → (f ≡ folder) ⊎ (f ≡ folder → ⊥)
is_folder f folder = elim (cases_Bool (bytes_eq f folder)) [
  | inl same ↦ inl ((bytes_eq-Decides f folder).0 same)
  | inr other ↦ inr (λ same. false≢true (sym other ∙ (bytes_eq-Decides f folder).1 same))
]

-- what stands at a place of a list that was made of another
pub get-map : {A B : Type 0} (f : A → B) (xs : List A) (i : ℕ) (y : B)
    → slice_get (map f xs) i ≡ Some y → (x : A) × (slice_get xs i ≡ Some x) × (y ≡ f x)
get-map f [] i y at = absurd (cc)
get-map f (x ∷ xs) zero y at = (x, refl, sym (same_Some (f x) y at))
get-map f (x ∷ xs) (suc i) y at = get-map f xs i y at

-- and the other way round
pub map-get : {A B : Type 0} (f : A → B) (xs : List A) (i : ℕ) (x : A) → slice_get xs i ≡ Some x
    → slice_get (map f xs) i ≡ Some (f x)
map-get f [] i x at = absurd (cc)
map-get f (y ∷ xs) zero x at = ap (λ z. Some (f z)) (same_Some y x at)
map-get f (y ∷ xs) (suc i) x at = map-get f xs i x at

-- something stands at each place before the end
pub get-within : {A : Type 0} (xs : List A) (i : ℕ) → i < length xs
    → (x : A) × (slice_get xs i ≡ Some x)
get-within [] i below = absurd (omega (arith, below))
get-within (x ∷ xs) zero below = (x, refl)
get-within (x ∷ xs) (suc i) below = get-within xs i (omega (arith, below))

-- the place of one more is the length
pub get-last : {A : Type 0} (xs : List A) (x : A) → slice_get (xs ++ x ∷ []) (length xs) ≡ Some x
get-last [] x = refl
get-last (y ∷ xs) x = get-last xs x

-- what stands in a list stands there with one more behind it
pub get-before : {A : Type 0} (xs : List A) (x y : A) (i : ℕ) → slice_get xs i ≡ Some y
    → slice_get (xs ++ x ∷ []) i ≡ Some y
get-before [] x y i at = absurd (cc)
get-before (z ∷ xs) x y zero at = at
get-before (z ∷ xs) x y (suc i) at = get-before xs x y i at

-- it stands there also in other words
pub at-is : {A : Type 0} (xs : List A) (i : ℕ) (x : A) → slice_get xs i ≡ Some x → IsAt xs i x
at-is [] i x at = absurd (cc)
at-is (y ∷ xs) zero x at = (omega arith, sym (same_Some y x at))
at-is (y ∷ xs) (suc i) x at =
    let p = at-is xs i x at in (omega (arith, p.0), p.1)

-- and back
pub get-at : {A : Type 0} (xs : List A) (i : ℕ) (x : A) → IsAt xs i x → slice_get xs i ≡ Some x
get-at [] i x at = absurd (omega (arith, at.0))
get-at (y ∷ xs) zero x at = ap Some (sym at.1)
get-at (y ∷ xs) (suc i) x at = get-at xs i x (omega (arith, at.0), at.1)

-- where there is one for each number below a bound, there is one for each number
module _ {X : Type 0} (n : ℕ) (P : ℕ → X → Type 0) (some : 1 ≤ n)
    (all : (k : ℕ) → k < n → (x : X) × P k x) where
  abbrev by : (k : ℕ) → (k < n) ⊎ (n ≤ k) → X
  by k (inl lt) = (all k lt).0
  by k (inr le) = (all 0 some).0

  by-is : (k : ℕ) (o : (k < n) ⊎ (n ≤ k)) → k < n → P k (by k o)
  by-is k (inl lt) less = (all k lt).1
  by-is k (inr le) less = absurd (omega (arith, le, less))

  decide : (k : ℕ) → (k < n) ⊎ (n ≤ k)
  decide k = grind arith

  pub chosen : (f : ℕ → X) × ((k : ℕ) → k < n → P k (f k))
  chosen = (λ k. by k (decide k), λ k lt. by-is k (decide k) lt)

-- one more at the front of what was given, where it gives something
pub reversed-more : {A B : Type 0} (f : A → Option B) (x : A) (given : List A) (back : List B)
    → back ≡ reverse (filter_map f given) → back ++ option_to_list (f x)
    ≡ reverse (filter_map f (x ∷ given))
reversed-more {B = B} f x given back is = more (f x)
  where
    more : (o : Option B) → back ++ option_to_list o ≡ reverse (cons_option o (filter_map f given))
    more None = append-nil back ∙ is
    more (Some y) = ap (λ l. l ++ y ∷ []) is ∙ sym (reverse-cons y (filter_map f given))
