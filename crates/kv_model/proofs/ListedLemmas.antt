-- Lemmas on what lists have that a map, a range or a filter made.
use Rattle.std.proofs.Common.{◌≡◌, ℕ, zero, suc, ◌+◌, ◌-◌, ◌<◌, ◌≤◌, ◌⊎◌, inl, inr, Bool, true, false}
use Rattle.std.proofs.Common.{cond, not, ◌&&◌, ◌||◌, List, [], ◌∷◌, ◌++◌, map, length, refl, sym, ap}
use Rattle.std.proofs.Common.{◌∙◌, subst, arith, Contains}
use Rattle.std.proofs.lemmas.Bool.{false≢true}
use Rattle.std.specs.List.{AllByRecursion, filter, flat_map, list_all, list_any, range_with_len}
use Rattle.std.proofs.lemmas.List.Elements.{Contains-append_left, Contains-append_right}
use Rattle.std.proofs.lemmas.List.Elements.{Contains-append_cases}
use Rattle.std.proofs.lemmas.List.FromFn.{length-range_with_len, get_or-range_with_len}
use Rattle.std.proofs.Common.{max, take, get_or}
use Rattle.std.proofs.lemmas.Bool.{cases_lt}
use Rattle.std.proofs.lemmas.List.{append-nil, map-id, take_more}
use Rattle.std.proofs.lemmas.List.Concat.{flat_map-append}
use Rattle.std.proofs.lemmas.List.Elements.{filter-append, Contains-push, Contains-push_cases}
use Rattle.std.proofs.lemmas.List.FromFn.{map-range_with_len_more}
use Rattle.kv_model.specs.Pairwise.{Pairwise}
use Rattle.kv_model.specs.Plain.{IsGreatest}
use Rattle.kv_model.proofs.ContainsLemmas.{Contains-cons, Contains-first, Contains-behind}

pub and-both : (a b : Bool) → (a && b) ≡ true → (a ≡ true) × (b ≡ true)
and-both true b e = (refl, e)
and-both false b e = absurd (false≢true e)

pub and-join : (a b : Bool) → a ≡ true → b ≡ true → (a && b) ≡ true
and-join true b first second = second
and-join false b first second = first

-- no list without an element has one
pub none : {X : Type 0} (x : X) → Contains [] x → ⊥
none x has = let below : has.0 < 0 = has.1 in omega arith

pub only : {X : Type 0} (first x : X) → Contains (first ∷ []) x → first ≡ x
only first x has = by (Contains-cons first [] x has)
  where
    by : (first ≡ x) ⊎ Contains [] x → first ≡ x
    by (inl same) = same
    by (inr later) = absurd (none x later)

pub range-has : (a n x : ℕ) → a ≤ x → x < a + n → Contains (range_with_len a n) x
range-has a n x low high = (
  x - a,
  omega (arith, length-range_with_len a n),
  get_or-range_with_len a n (x - a) x (omega arith) ∙ omega arith,
)

pub in-range : (a n x : ℕ) → Contains (range_with_len a n) x → (a ≤ x) × (x < a + n)
in-range a n x has =
    let below : has.0 < n = omega (arith, has.1, length-range_with_len a n) in
    let is : a + has.0 ≡ x = sym (get_or-range_with_len a n has.0 x below) ∙ has.2 in
    (omega arith, omega arith)

pub map-has : {X Y : Type 0} (f : X → Y) (xs : List X) (x : X) → Contains xs x
    → Contains (map f xs) (f x)
map-has f [] x has = absurd (none x has)
map-has f (first ∷ xs) x has = by (Contains-cons first xs x has) (λ later. map-has f xs x later)
  where
    by : (first ≡ x) ⊎ Contains xs x → (Contains xs x → Contains (map f xs) (f x))
        → Contains (f first ∷ map f xs) (f x)
    by (inl same) more = (0, omega arith, ap f same)
    by (inr later) more = Contains-behind (f first) (map f xs) (f x) (more later)

pub in-map : {X Y : Type 0} (f : X → Y) (xs : List X) (y : Y) → Contains (map f xs) y
    → (x : X) × Contains xs x × (f x ≡ y)
in-map f [] y has = absurd (none y has)
in-map f (first ∷ xs) y has = by (Contains-cons (f first) (map f xs) y has)
    (λ later. in-map f xs y later)
  where
    by : (f first ≡ y) ⊎ Contains (map f xs) y
        → (Contains (map f xs) y → (x : _) × Contains xs x × (f x ≡ y))
        → (x : _) × Contains (first ∷ xs) x × (f x ≡ y)
    by (inl same) more = (first, Contains-first first xs, same)
    by (inr later) more = let h = more later in (h.0, Contains-behind first xs h.0 h.1, h.2)

pub flat_map-has : {X Y : Type 0} (f : X → List Y) (xs : List X) (x : X) (y : Y) → Contains xs x
    → Contains (f x) y → Contains (flat_map f xs) y
flat_map-has f [] x y has inner = absurd (none x has)
flat_map-has f (first ∷ xs) x y has inner = by (Contains-cons first xs x has)
    (λ later. flat_map-has f xs x y later inner)
  where
    by : (first ≡ x) ⊎ Contains xs x → (Contains xs x → Contains (flat_map f xs) y)
        → Contains (f first ++ flat_map f xs) y
    by (inl same) more = Contains-append_left (f first) (flat_map f xs) y
        (subst (λ z. Contains (f z) y) (sym same) inner)
    by (inr later) more = Contains-append_right (f first) (flat_map f xs) y (more later)

pub in-flat_map : {X Y : Type 0} (f : X → List Y) (xs : List X) (y : Y)
    → Contains (flat_map f xs) y → (x : X) × Contains xs x × Contains (f x) y
in-flat_map f [] y has = absurd (none y has)
in-flat_map f (first ∷ xs) y has = by (Contains-append_cases (f first) (flat_map f xs) y has)
    (λ later. in-flat_map f xs y later)
  where
    by : Contains (f first) y ⊎ Contains (flat_map f xs) y
        → (Contains (flat_map f xs) y → (x : _) × Contains xs x × Contains (f x) y)
        → (x : _) × Contains (first ∷ xs) x × Contains (f x) y
    by (inl here) more = (first, Contains-first first xs, here)
    by (inr later) more = let h = more later in (h.0, Contains-behind first xs h.0 h.1, h.2)

pub filter-has : {X : Type 0} (p : X → Bool) (xs : List X) (x : X) → Contains xs x → p x ≡ true
    → Contains (filter p xs) x
filter-has p [] x has passes = absurd (none x has)
filter-has p (first ∷ xs) x has passes = by (p first) refl (Contains-cons first xs x has)
    (λ later. filter-has p xs x later passes)
  where
    by : (b : Bool) → p first ≡ b → (first ≡ x) ⊎ Contains xs x
        → (Contains xs x → Contains (filter p xs) x)
        → Contains (cond b (first ∷ filter p xs) (filter p xs)) x
    by true is (inl same) more = (0, omega arith, same)
    by true is (inr later) more = Contains-behind first (filter p xs) x (more later)
    by false is (inl same) more = absurd (false≢true (sym is ∙ ap p same ∙ passes))
    by false is (inr later) more = more later

pub in-filter : {X : Type 0} (p : X → Bool) (xs : List X) (x : X) → Contains (filter p xs) x
    → Contains xs x × (p x ≡ true)
in-filter p [] x has = absurd (none x has)
in-filter p (first ∷ xs) x has = by (p first) refl has (λ later. in-filter p xs x later)
  where
    behind : Contains xs x × (p x ≡ true) → Contains (first ∷ xs) x × (p x ≡ true)
    behind h = (Contains-behind first xs x h.0, h.1)

    here : p first ≡ true → (first ≡ x) ⊎ Contains (filter p xs) x
        → (Contains (filter p xs) x → Contains xs x × (p x ≡ true))
        → Contains (first ∷ xs) x × (p x ≡ true)
    here is (inl same) more = ((0, omega arith, same), ap p (sym same) ∙ is)
    here is (inr later) more = behind (more later)

    by : (b : Bool) → p first ≡ b → Contains (cond b (first ∷ filter p xs) (filter p xs)) x
        → (Contains (filter p xs) x → Contains xs x × (p x ≡ true))
        → Contains (first ∷ xs) x × (p x ≡ true)
    by true is has more = here is (Contains-cons first (filter p xs) x has) more
    by false is has more = behind (more has)

pub all-each : {X : Type 0} (p : X → Bool) (xs : List X) (x : X) → list_all p xs ≡ true
    → Contains xs x → p x ≡ true
all-each p [] x all has = absurd (none x has)
all-each p (first ∷ xs) x all has =
    let both = and-both (p first) (list_all p xs) all in
    by (Contains-cons first xs x has) both.0 (λ later. all-each p xs x both.1 later)
  where
    by : (first ≡ x) ⊎ Contains xs x → p first ≡ true → (Contains xs x → p x ≡ true) → p x ≡ true
    by (inl same) is more = ap p (sym same) ∙ is
    by (inr later) is more = more later

pub each-all : {X : Type 0} (p : X → Bool) (xs : List X)
    → ((x : X) → Contains xs x → p x ≡ true) → list_all p xs ≡ true
each-all p [] each = refl
each-all p (first ∷ xs) each = and-join (p first) (list_all p xs)
    (each first (Contains-first first xs))
    (each-all p xs (λ x has. each x (Contains-behind first xs x has)))

-- where no element passes, not any does, and the other way round
pub none-any : {X : Type 0} (p : X → Bool) (xs : List X)
    → ((x : X) → Contains xs x → p x ≡ true → ⊥) → not (list_any p xs) ≡ true
none-any p [] each = refl
none-any p (first ∷ xs) each = by (p first) refl
    (none-any p xs (λ x has. each x (Contains-behind first xs x has)))
  where
    by : (b : Bool) → p first ≡ b → not (list_any p xs) ≡ true
        → not (b || list_any p xs) ≡ true
    by true is rest = absurd (each first (Contains-first first xs) is)
    by false is rest = rest

pub any-none : {X : Type 0} (p : X → Bool) (xs : List X) (x : X) → not (list_any p xs) ≡ true
    → Contains xs x → p x ≡ true → ⊥
any-none p [] x lacks has passes = none x has
any-none p (first ∷ xs) x lacks has passes = by (p first) refl lacks (Contains-cons first xs x has)
    (λ rest later. any-none p xs x rest later passes)
  where
    by : (b : Bool) → p first ≡ b → not (b || list_any p xs) ≡ true
        → (first ≡ x) ⊎ Contains xs x → (not (list_any p xs) ≡ true → Contains xs x → ⊥) → ⊥
    by true is lacks cases more = false≢true lacks
    by false is lacks (inl same) more = false≢true (sym is ∙ ap p same ∙ passes)
    by false is lacks (inr later) more = more lacks later

-- what a range has left after a filter rises
filter-from : (p : ℕ → Bool) (low a n : ℕ) → low < a
    → AllByRecursion (λ x. low < x) (filter p (range_with_len a n))
filter-from p low a zero less = tt
filter-from p low a (suc n) less = by (p a) (filter-from p low (a + 1) n (omega arith))
  where
    by : (b : Bool) → AllByRecursion (λ x. low < x) (filter p (range_with_len (a + 1) n))
        → AllByRecursion (λ x. low < x) (cond b (a ∷ filter p (range_with_len (a + 1) n))
        (filter p (range_with_len (a + 1) n)))
    by true rest = (less, rest)
    by false rest = rest

pub filter-rises : (p : ℕ → Bool) (a n : ℕ)
    → Pairwise (λ x next. x < next) (filter p (range_with_len a n))
filter-rises p a zero = tt
filter-rises p a (suc n) = by (p a) (filter-rises p (a + 1) n)
  where
    by : (b : Bool) → Pairwise (λ x next. x < next) (filter p (range_with_len (a + 1) n))
        → Pairwise (λ x next. x < next) (cond b (a ∷ filter p (range_with_len (a + 1) n))
        (filter p (range_with_len (a + 1) n)))
    by true rest = (filter-from p a (a + 1) n (omega arith), rest)
    by false rest = rest

-- one more of a range, and of a list
pub range-more : (a n j : ℕ) → a + n ≡ j
    → range_with_len a (n + 1) ≡ range_with_len a n ++ j ∷ []
range-more a n j is = sym (map-id (range_with_len a (n + 1)))
    ∙ map-range_with_len_more (λ (x : ℕ). x) a n j is
    ∙ ap (λ xs. xs ++ j ∷ []) (map-id (range_with_len a n))

pub filter-range-more : (p : ℕ → Bool) (n : ℕ) → filter p (range_with_len 0 (n + 1))
    ≡ filter p (range_with_len 0 n) ++ filter p (n ∷ [])
filter-range-more p n = ap (filter p) (range-more 0 n n (omega arith))
    ∙ filter-append p (range_with_len 0 n) (n ∷ [])

pub flat_map-more : {X Y : Type 0} (f : X → List Y) (xs : List X) (x : X)
    → flat_map f (xs ++ x ∷ []) ≡ flat_map f xs ++ f x
flat_map-more f xs x = flat_map-append f xs (x ∷ [])
    ∙ ap (λ ys. flat_map f xs ++ ys) (append-nil (f x))

pub flat_map-take : {X Y : Type 0} (f : X → List Y) (xs : List X) (i : ℕ) (d : X)
    → i < length xs → flat_map f (take (i + 1) xs) ≡ flat_map f (take i xs) ++ f (get_or xs i d)
flat_map-take f xs i d within =
    ap (flat_map f) (take_more xs i d within) ∙ flat_map-more f (take i xs) (get_or xs i d)

pub flat_map-step : {X Y : Type 0} (f : X → List Y) (xs : List X) (i : ℕ) (d : X)
    (before now : List Y) → i < length xs → now ≡ before ++ f (get_or xs i d)
    → before ≡ flat_map f (take i xs) → now ≡ flat_map f (take (i + 1) xs)
flat_map-step f xs i d before now within now_is before_is =
    now_is ∙ ap (λ list. list ++ f (get_or xs i d)) before_is ∙ sym (flat_map-take f xs i d within)

pub greatest-more : (xs : List ℕ) (i most : ℕ) → i < length xs → IsGreatest (take i xs) most
    → IsGreatest (take (i + 1) xs) (max most (get_or xs i 0))
greatest-more xs i most within before =
    subst (λ list. IsGreatest list (max most (get_or xs i 0))) (sym (take_more xs i 0 within))
    (record {
      above = λ number has. elim (Contains-push_cases (take i xs) (get_or xs i 0) number has) [
        | inl first ↦ omega (arith, before.above number first)
        | inr last ↦ omega arith
      ];
      one = elim (cases_lt most (get_or xs i 0)) [
        | inl less ↦ inr (subst (λ x. Contains (take i xs ++ get_or xs i 0 ∷ []) x)
            (let e : get_or xs i 0 ≡ max most (get_or xs i 0) = omega arith in e)
            (Contains-push (take i xs) (get_or xs i 0)))
        | inr more ↦
            let e : max most (get_or xs i 0) ≡ most = omega arith in
            elim before.one [
              | inl nothing ↦ inl (e ∙ nothing)
              | inr has ↦ inr (subst (λ x. Contains (take i xs ++ get_or xs i 0 ∷ []) x) (sym e)
                  (Contains-append_left (take i xs) (get_or xs i 0 ∷ []) most has))
            ]
      ];
    })
