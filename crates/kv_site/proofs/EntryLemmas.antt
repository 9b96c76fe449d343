-- Lemmas on places in a list, the first of which counts.
use Rattle.std.proofs.Common.{◌≡◌, ◌≢◌, ℕ, ◌<◌, ◌+◌, zero, suc, Bool, true, false, ◌&&◌, List, []}
use Rattle.std.proofs.Common.{◌∷◌, ◌++◌, Option, Some, None, length, get_or, set, map, take, drop}
use Rattle.std.proofs.Common.{inl, inr, refl, ap, sym, ◌∙◌, subst, arith, cond, eqb}
use Rattle.std.specs.Prelude.{⊤}
use Rattle.std.specs.List.{position, position_from}
use Rattle.std.specs.Str.{bytes_eq}
use Rattle.std.proofs.lemmas.Bool.{cond-true, cond-false, cases_Bool, cases_eq, and_parts, and_from}
use Rattle.std.proofs.lemmas.Bool.{and_left, and_right, eqb-true, eq-eqb, ne_eqb, both_ways}
use Rattle.std.proofs.lemmas.Iterator.Adapters.{position_from-zero}
use Rattle.std.proofs.lemmas.List.Quantifiers.{position-Some}
use Rattle.std.proofs.lemmas.Slice.Eq.{bytes_eq-Decides}
use Rattle.kv_site.specs.declared.entry.Entry.{Entry}
use Rattle.kv_site.specs.Entries.{is_at, is_home, homed, thing_at, home_of, Puts, Takes, Gives}

-- the first element that passes stands at this index and is this one
abbrev pub IsFirst : {X : Type 0} → (X → Bool) → List X → ℕ → X → Type 0
IsFirst p [] i s = ⊥
IsFirst p (x ∷ xs) zero s = (x ≡ s) × (p s ≡ true)
IsFirst p (x ∷ xs) (suc i) s = (p x ≡ false) × IsFirst p xs i s

-- no element passes
abbrev pub NonePass : {X : Type 0} → (X → Bool) → List X → Type 0
NonePass p [] = ⊤
NonePass p (x ∷ xs) = (p x ≡ false) × NonePass p xs

-- the first that passes, by its index
is_first-from : {X : Type 0} (p : X → Bool) (xs : List X) (i : ℕ) (s : X) → i < length xs
    → p (get_or xs i s) ≡ true → ((k : ℕ) → k < i → p (get_or xs k s) ≡ false) → s ≡ get_or xs i s
    → IsFirst p xs i s
is_first-from p [] i s within passes before is = absurd (omega (arith, within))
is_first-from p (x ∷ xs) zero s within passes before is =
    (sym is, subst (λ y. p y ≡ true) (sym is) passes)
is_first-from p (x ∷ xs) (suc i) s within passes before is = (
  before 0 (omega arith),
  is_first-from p xs i s (omega (arith, within)) passes
      (λ k below. before (suc k) (omega (arith, below))) is,
)

-- what a search by index finds
pub is_first : {X : Type 0} (p : X → Bool) (xs : List X) (i : ℕ) (s : X) → position p xs ≡ Some i
    → s ≡ get_or xs i s → IsFirst p xs i s
is_first p xs i s found is = let facts = position-Some p xs i s found in
    is_first-from p xs i s facts.0 facts.1 facts.2 is

none_pass-from : {X : Type 0} (p : X → Bool) (k : ℕ) (xs : List X) → position_from p k xs ≡ None
    → NonePass p xs
none_pass-from p k [] found = tt
none_pass-from p k (x ∷ xs) found = elim (cases_Bool (p x)) [
  | inl passes ↦
      let some : Some k ≡ None =
      sym (cond-true (p x) (Some k) (position_from p (k + 1) xs) passes) ∙ found in
      absurd cc
  | inr fails ↦ (
    fails,
    none_pass-from p (k + 1) xs
        (sym (cond-false (p x) (Some k) (position_from p (k + 1) xs) fails) ∙ found),
  )
]

-- where a search by index finds nothing
pub none_pass : {X : Type 0} (p : X → Bool) (xs : List X) → position p xs ≡ None → NonePass p xs
none_pass p xs found = none_pass-from p 0 xs (sym (position_from-zero p xs) ∙ found)

-- what the place of a number in a folder has
pub is_at-parts : {T : Type 0} (folder : List ℕ) (n : ℕ) (s : Entry T) → is_at folder n s ≡ true
    → (s.folder ≡ folder) × (s.number ≡ n)
is_at-parts folder n s at =
    let parts = and_parts (bytes_eq s.folder folder) (eqb s.number n) at in
    ((bytes_eq-Decides s.folder folder).0 parts.0, eqb-true s.number n parts.1)

-- it isn't the place of another number or in another folder
pub is_at-other : {T : Type 0} (folder f : List ℕ) (n m : ℕ) (s : Entry T) → is_at folder n s ≡ true
    → (f ≡ folder → m ≡ n → ⊥) → is_at f m s ≡ false
is_at-other folder f n m s at other = elim (cases_Bool (is_at f m s)) [
  | inl passes ↦ let here = is_at-parts folder n s at in let there = is_at-parts f m s passes in
      absurd (other (sym there.0 ∙ here.0) (sym there.1 ∙ here.1))
  | inr fails ↦ fails
]

-- the folder and the number make the test true
pub is_at-here : {T : Type 0} (folder : List ℕ) (n : ℕ) (s : Entry T) → s.folder ≡ folder
    → s.number ≡ n → is_at folder n s ≡ true
is_at-here folder n s same_folder same_number = and_from (bytes_eq s.folder folder) (eqb s.number n)
    ((bytes_eq-Decides s.folder folder).1 same_folder) (eq-eqb s.number n same_number)

-- what the first place of a number in a folder holds
pub thing_at-first : {T : Type 0} (folder : List ℕ) (n : ℕ) (xs : List (Entry T)) (i : ℕ)
    (s : Entry T) → IsFirst (is_at folder n) xs i s → thing_at xs folder n ≡ s.thing
thing_at-first folder n [] i s first = absurd first
thing_at-first folder n (x ∷ xs) zero s first = rw first.0 (cond-true _ _ _ first.1)
thing_at-first folder n (x ∷ xs) (suc i) s first = cond-false _ _ _ first.0
    ∙ thing_at-first folder n xs i s first.1

-- where there is no such place
pub thing_at-none : {T : Type 0} (folder : List ℕ) (n : ℕ) (xs : List (Entry T))
    → NonePass (is_at folder n) xs → thing_at xs folder n ≡ None
thing_at-none folder n [] none = refl
thing_at-none folder n (x ∷ xs) none = cond-false _ _ _ none.0 ∙ thing_at-none folder n xs none.1

-- another thing in that place is held there
pub thing_at-set : {T : Type 0} (folder : List ℕ) (n : ℕ) (xs : List (Entry T)) (i : ℕ)
    (s : Entry T) (thing : Option T) → IsFirst (is_at folder n) xs i s
    → thing_at (set xs i (record s { thing = thing })) folder n ≡ thing
thing_at-set folder n [] i s thing first = absurd first
thing_at-set folder n (x ∷ xs) zero s thing first = cond-true _ _ _ first.1
thing_at-set folder n (x ∷ xs) (suc i) s thing first = cond-false _ _ _ first.0
    ∙ thing_at-set folder n xs i s thing first.1

-- and nothing else changes
pub thing_at-set_other : {T : Type 0} (folder f : List ℕ) (n m : ℕ) (xs : List (Entry T)) (i : ℕ)
    (s : Entry T) (thing : Option T) → IsFirst (is_at folder n) xs i s → (f ≡ folder → m ≡ n → ⊥)
    → thing_at (set xs i (record s { thing = thing })) f m ≡ thing_at xs f m
thing_at-set_other folder f n m [] i s thing first other = absurd first
thing_at-set_other folder f n m (x ∷ xs) zero s thing first other =
    let elsewhere = is_at-other folder f n m s first.1 other in
    rw first.0 (cond-false _ _ _ elsewhere ∙ sym (cond-false _ _ _ elsewhere))
thing_at-set_other folder f n m (x ∷ xs) (suc i) s thing first other =
    ap (cond (is_at f m x) x.thing) (thing_at-set_other folder f n m xs i s thing first.1 other)

-- nor where things were taken from
pub home_of-set : {T : Type 0} (p : Entry T → Bool) (m : ℕ) (xs : List (Entry T)) (i : ℕ)
    (s : Entry T) (thing : Option T) → IsFirst p xs i s
    → home_of (set xs i (record s { thing = thing })) m ≡ home_of xs m
home_of-set p m [] i s thing first = absurd first
home_of-set p m (x ∷ xs) zero s thing first = rw first.0 refl
home_of-set p m (x ∷ xs) (suc i) s thing first =
    ap (cond (is_home m x) (Some x.folder)) (home_of-set p m xs i s thing first.1)

-- the place is still the first
pub is_first-set : {T : Type 0} (folder : List ℕ) (n : ℕ) (xs : List (Entry T)) (i : ℕ)
    (s : Entry T) (thing : Option T) → IsFirst (is_at folder n) xs i s
    → IsFirst (is_at folder n) (set xs i (record s { thing = thing })) i
    (record s { thing = thing })
is_first-set folder n [] i s thing first = absurd first
is_first-set folder n (x ∷ xs) zero s thing first = (refl, first.1)
is_first-set folder n (x ∷ xs) (suc i) s thing first =
    (first.0, is_first-set folder n xs i s thing first.1)

-- a place behind the others holds its thing where no other is of its number and folder
pub thing_at-push : {T : Type 0} (folder : List ℕ) (n : ℕ) (xs : List (Entry T)) (s : Entry T)
    → NonePass (is_at folder n) xs → is_at folder n s ≡ true → thing_at (xs ++ s ∷ []) folder n
    ≡ s.thing
thing_at-push folder n [] s none at = cond-true _ _ _ at
thing_at-push folder n (x ∷ xs) s none at = cond-false _ _ _ none.0
    ∙ thing_at-push folder n xs s none.1 at

-- and changes nothing else
pub thing_at-push_other : {T : Type 0} (f : List ℕ) (m : ℕ) (xs : List (Entry T)) (s : Entry T)
    → is_at f m s ≡ false → thing_at (xs ++ s ∷ []) f m ≡ thing_at xs f m
thing_at-push_other f m [] s other = cond-false _ _ _ other
thing_at-push_other f m (x ∷ xs) s other =
    ap (cond (is_at f m x) x.thing) (thing_at-push_other f m xs s other)

-- nor where things were taken from, as none was from it
pub home_of-push : {T : Type 0} (m : ℕ) (xs : List (Entry T)) (s : Entry T) → s.home ≡ false
    → home_of (xs ++ s ∷ []) m ≡ home_of xs m
home_of-push m [] s never = cond-false _ _ _ (and_left s.home (eqb s.number m) never)
home_of-push m (x ∷ xs) s never =
    ap (cond (is_home m x) (Some x.folder)) (home_of-push m xs s never)

-- the first place that is a home has the folder
pub home_of-first : {T : Type 0} (n : ℕ) (xs : List (Entry T)) (i : ℕ) (s : Entry T)
    → IsFirst (is_home n) xs i s → home_of xs n ≡ Some s.folder
home_of-first n [] i s first = absurd first
home_of-first n (x ∷ xs) zero s first = rw first.0 (cond-true _ _ _ first.1)
home_of-first n (x ∷ xs) (suc i) s first = cond-false _ _ _ first.0 ∙ home_of-first n xs i s first.1

-- and without one nothing was taken
pub home_of-none : {T : Type 0} (n : ℕ) (xs : List (Entry T)) → NonePass (is_home n) xs
    → home_of xs n ≡ None
home_of-none n [] none = refl
home_of-none n (x ∷ xs) none = cond-false _ _ _ none.0 ∙ home_of-none n xs none.1

-- what stands first stands there for every test that it passes
pub some_pass : {X : Type 0} (p q : X → Bool) (xs : List X) (i : ℕ) (s : X) → IsFirst p xs i s
    → q s ≡ true → NonePass q xs → ⊥
some_pass p q [] i s first passes none = first
some_pass p q (x ∷ xs) zero s first passes none = both_ways (q x) none.0 (rw first.0 passes)
some_pass p q (x ∷ xs) (suc i) s first passes none = some_pass p q xs i s first.1 passes none.1

-- what stands first passes
pub first_passes : {X : Type 0} (p : X → Bool) (xs : List X) (i : ℕ) (s : X) → IsFirst p xs i s
    → p s ≡ true
first_passes p [] i s first = absurd first
first_passes p (x ∷ xs) zero s first = first.1
first_passes p (x ∷ xs) (suc i) s first = first_passes p xs i s first.1

-- the home of a number is a place of that number in its folder
pub is_at-home : {T : Type 0} (n : ℕ) (s : Entry T) → is_home n s ≡ true → is_at s.folder n s ≡ true
is_at-home n s home =
    is_at-here s.folder n s refl (eqb-true s.number n (and_parts s.home (eqb s.number n) home).1)

-- what noting a take leaves of a place
homed-folder : {T : Type 0} (folder : List ℕ) (n : ℕ) (s : Entry T)
    → (homed folder n s).folder ≡ s.folder
homed-folder folder n s =
    elim (eqb s.number n) as (λ b. (cond b (record s { home = bytes_eq s.folder folder }) s).folder
    ≡ s.folder) [ true ↦ refl | false ↦ refl ]

homed-number : {T : Type 0} (folder : List ℕ) (n : ℕ) (s : Entry T)
    → (homed folder n s).number ≡ s.number
homed-number folder n s =
    elim (eqb s.number n) as (λ b. (cond b (record s { home = bytes_eq s.folder folder }) s).number
    ≡ s.number) [ true ↦ refl | false ↦ refl ]

homed-thing : {T : Type 0} (folder : List ℕ) (n : ℕ) (s : Entry T)
    → (homed folder n s).thing ≡ s.thing
homed-thing folder n s =
    elim (eqb s.number n) as (λ b. (cond b (record s { home = bytes_eq s.folder folder }) s).thing
    ≡ s.thing) [ true ↦ refl | false ↦ refl ]

homed-home : {T : Type 0} (folder : List ℕ) (n : ℕ) (s : Entry T)
    → (homed folder n s).home ≡ cond (eqb s.number n) (bytes_eq s.folder folder) s.home
homed-home folder n s =
    elim (eqb s.number n) as (λ b. (cond b (record s { home = bytes_eq s.folder folder }) s).home
    ≡ cond b (bytes_eq s.folder folder) s.home) [ true ↦ refl | false ↦ refl ]

-- noting a take changes nothing that is held
pub thing_at-homed : {T : Type 0} (folder f : List ℕ) (n m : ℕ) (xs : List (Entry T))
    → thing_at (map (homed folder n) xs) f m ≡ thing_at xs f m
thing_at-homed folder f n m [] = refl
thing_at-homed folder f n m (x ∷ xs) =
    cc (
      homed-folder folder n x,
      homed-number folder n x,
      homed-thing folder n x,
      thing_at-homed folder f n m xs,
    )

-- once a take is noted a place of the number is its home where it is in the folder
is_home-homed : {T : Type 0} (folder : List ℕ) (n : ℕ) (s : Entry T) → is_home n (homed folder n s)
    ≡ is_at folder n s
is_home-homed folder n s =
    let by_cases : (b e h : Bool) → (cond b e h && b) ≡ (e && b) =
    λ b e h. elim b as (λ v. (cond v e h && v) ≡ (e && v)) [
      | true ↦ refl
      | false ↦ and_right
          h false refl ∙ sym (and_right e false refl)
    ] in
    let number_is = homed-number folder n s in
    let home_is = homed-home folder n s in
    let same : (cond (eqb s.number n) (bytes_eq s.folder folder) s.home && eqb s.number n)
    ≡ (bytes_eq s.folder folder && eqb s.number n) =
    by_cases (eqb s.number n) (bytes_eq s.folder folder) s.home in
    cc

-- and for another number nothing changes
is_home-homed_other : {T : Type 0} (folder : List ℕ) (n m : ℕ) (s : Entry T) → m ≢ n
    → is_home m (homed folder n s) ≡ is_home m s
is_home-homed_other folder n m s other =
    let number_is = homed-number folder n s in
    let home_is = homed-home folder n s in
    elim (cases_eq s.number n) [
      | inl same ↦
          let apart : eqb s.number m ≡ false = ne_eqb s.number m (λ is. other (sym is ∙ same)) in
          let left : (homed folder n s).home && eqb (homed folder n s).number m ≡ false =
          and_right (homed folder n s).home (eqb (homed folder n s).number m)
          (ap (λ (k : ℕ). eqb k m) number_is ∙ apart) in
          left ∙ sym (and_right s.home (eqb s.number m) apart)
      | inr differ ↦
          let kept : cond (eqb s.number n) (bytes_eq s.folder folder) s.home ≡ s.home =
          cond-false _ _ _ (ne_eqb s.number n differ) in
          cc
    ]

-- noting a take makes the folder the home of the number
pub home_of-homed : {T : Type 0} (folder : List ℕ) (n : ℕ) (xs : List (Entry T)) (i : ℕ)
    (s : Entry T) → IsFirst (is_at folder n) xs i s → home_of (map (homed folder n) xs) n
    ≡ Some folder
home_of-homed folder n [] i s first = absurd first
home_of-homed folder n (x ∷ xs) zero s first =
    let home : is_home n (homed folder n s) ≡ true = is_home-homed folder n s ∙ first.1 in
    rw first.0 (cond-true _ _ _ home ∙ ap Some (homed-folder folder n s
    ∙ (is_at-parts folder n s first.1).0))
home_of-homed folder n (x ∷ xs) (suc i) s first =
    let home : is_home n (homed folder n x) ≡ false = is_home-homed folder n x ∙ first.0 in
    cond-false _ _ _ home ∙ home_of-homed folder n xs i s first.1

-- and leaves the homes of other numbers
pub home_of-homed_other : {T : Type 0} (folder : List ℕ) (n m : ℕ) (xs : List (Entry T)) → m ≢ n
    → home_of (map (homed folder n) xs) m ≡ home_of xs m
home_of-homed_other folder n m [] other = refl
home_of-homed_other folder n m (x ∷ xs) other =
    cc (
      homed-folder folder n x,
      is_home-homed_other folder n m x other,
      home_of-homed_other folder
          n m xs other,
    )

-- a thing is put in the first place of its number and folder
pub puts-set : {T : Type 0} (folder : List ℕ) (n : ℕ) (xs : List (Entry T)) (i : ℕ) (s : Entry T)
    (thing : T) → IsFirst (is_at folder n) xs i s
    → Puts xs (set xs i (record s { thing = Some thing })) folder n thing
puts-set folder n xs i s thing first = record {
  put = thing_at-set folder n xs i s (Some thing) first;
  others = λ f m other. thing_at-set_other folder f n m xs i s (Some thing) first other;
  homes = λ m. home_of-set (is_at folder n) m xs i s (Some thing) first;
}

-- and behind the others where there is none
pub puts-push : {T : Type 0} (folder : List ℕ) (n : ℕ) (xs : List (Entry T)) (s : Entry T)
    (thing : T) → NonePass (is_at folder n) xs → s.folder ≡ folder → s.number ≡ n
    → s.thing ≡ Some thing → s.home ≡ false
    → Puts xs (xs ++ s ∷ []) folder n thing
puts-push folder n xs s thing none in_folder of_number holds never =
    let at = is_at-here folder n s in_folder of_number in
    record {
      put = thing_at-push folder n xs s none at ∙ holds;
      others = λ f m other. thing_at-push_other f m xs s (is_at-other folder f n m s at other);
      homes = λ m. home_of-push m xs s never;
    }

-- a thing is taken from the first place of its number and folder
pub takes-set : {T : Type 0} (folder : List ℕ) (n : ℕ) (xs : List (Entry T)) (i : ℕ) (s : Entry T)
    (thing : T) → IsFirst (is_at folder n) xs i s → s.thing ≡ Some thing
    → Takes xs (map (homed folder n) (set xs i (record s { thing = None }))) folder n thing
takes-set folder n xs i s thing first holds =
    let left = set xs i (record s { thing = None }) in
    record {
      was = thing_at-first folder n xs i s first ∙ holds;
      gone = thing_at-homed folder folder n n left ∙ thing_at-set folder n xs i s None first;
      home = home_of-homed folder n left i (record s { thing = None }) (is_first-set folder n xs i s
          None first);
      others = λ f m other. thing_at-homed folder f n m left
          ∙ thing_at-set_other folder f n m xs i s None first other;
      other_homes = λ m other. home_of-homed_other folder n m left other
          ∙ home_of-set (is_at folder n) m xs i s None first;
    }

-- a thing is given back to the first place of its number in the folder from which it was taken
pub gives-set : {T : Type 0} (n : ℕ) (folder : List ℕ) (xs : List (Entry T)) (i : ℕ) (s : Entry T)
    (thing : T) → home_of xs n ≡ Some folder → IsFirst (is_at folder n) xs i s
    → Gives xs (set xs i (record s { thing = Some thing })) n thing
gives-set n folder xs i s thing home first = record {
  back = λ f is. (let both : Some f ≡ Some folder = sym is ∙ home in let same : f ≡ folder = cc in
      rw same (thing_at-set folder n xs i s (Some thing) first));
  others = λ f m other. thing_at-set_other folder f n m xs i s (Some thing) first
      (λ same number. other (home ∙ ap Some (sym same)) number);
  homes = λ m. home_of-set (is_at folder n) m xs i s (Some thing) first;
}

-- and dropped where it was taken from nowhere
pub gives-none : {T : Type 0} (n : ℕ) (xs : List (Entry T)) (thing : T) → home_of xs n ≡ None
    → Gives xs xs n thing
gives-none n xs thing none = record {
  back = λ f is. absurd (let both : Some f ≡ None = sym is ∙ none in cc);
  others = λ f m other. refl;
  homes = λ m. refl;
}

-- one element more of a list is changed
pub map-step : {X : Type 0} (f : X → X) (xs : List X) (i : ℕ) (s : X) → i < length xs
    → s ≡ get_or (map f (take i xs) ++ drop i xs) i s
    → set (map f (take i xs) ++ drop i xs) i (f s) ≡ map f (take (suc i) xs) ++ drop (suc i) xs
map-step f [] i s within is = absurd (omega (arith, within))
map-step f (x ∷ xs) zero s within is = ap (λ y. f y ∷ xs) is
map-step f (x ∷ xs) (suc i) s within is =
    ap (λ ys. f x ∷ ys) (map-step f xs i s (omega (arith, within)) is)
