-- What the lanes that were joined by `or` say of all bytes under them.
use Rattle.std.proofs.Common.{◌≡◌, ℕ, zero, suc, ◌+◌, ◌-◌, ◌≤◌, ◌↔◌, Bool, true, false, ◌&&◌, eqb}
use Rattle.std.proofs.Common.{IsTrue, List, [], ◌∷◌, ◌++◌, length, take, drop, length-drop}
use Rattle.std.proofs.Common.{replicate, bit_or, bit_xor, refl, sym, ap, ◌∙◌, subst, arith}
use lib.Bits.{xor_assoc, xor_self, xor_zero_r}
use Rattle.std.specs.List.{list_all}
use Rattle.std.proofs.Math.Seq.{take-add}
use Rattle.std.specs.Simd.Lanes.{zip2, fold_l, chunk}
use Rattle.std.proofs.lemmas.Bool.{false≢true, ne_eqb, eqb-true, eq-eqb}
use Rattle.std.proofs.lemmas.List.{take-append-drop, take_all}
use Rattle.std.proofs.lemmas.List.Folds.{list_all-append}
use Rattle.std.proofs.lemmas.Nat.{le_or_l}
use Rattle.std.proofs.lemmas.Simd.{length-zip2, length-chunk}

-- whether each byte is 0
abbrev pub all_zero : List ℕ → Bool
all_zero = list_all (λ byte. eqb byte 0)

or_zero : (a b : ℕ) → eqb (bit_or a b) 0 ≡ (eqb a 0 && eqb b 0)
or_zero zero b = refl
or_zero (suc a) b =
    ne_eqb (bit_or (suc a) b) 0 (omega (arith, le_or_l (suc a) b))
    ∙ sym (ap (λ t. t && eqb b 0) (ne_eqb (suc a) 0 (omega arith)))

xor_zero : (a b : ℕ) → bit_xor a b ≡ 0 → a ≡ b
xor_zero a b is =
    sym (xor_zero_r a) ∙ ap (bit_xor a) (sym (xor_self b)) ∙ sym (xor_assoc a b b)
    ∙ ap (λ n. bit_xor n b) is

regrouped : (a b c d : Bool) → ((a && b) && (c && d)) ≡ ((a && c) && (b && d))
regrouped true true c d = refl
regrouped true false true d = refl
regrouped true false false d = refl
regrouped false b c d = refl

associated : (a b c : Bool) → ((a && b) && c) ≡ (a && (b && c))
associated true b c = refl
associated false b c = refl

with_true : (b : Bool) → b ≡ (b && true)
with_true true = refl
with_true false = refl

first : (a b : Bool) → (a && b) ≡ true → a ≡ true
first true b is = refl
first false b is = is

second : (a b : Bool) → (a && b) ≡ true → b ≡ true
second true b is = is
second false b is = absurd (false≢true is)

-- where lanes are joined, all are 0 exactly where all were on both sides
all_zero-zip2 : (xs ys : List ℕ) → length xs ≡ length ys
    → all_zero (zip2 bit_or xs ys) ≡ (all_zero xs && all_zero ys)
all_zero-zip2 [] [] long = refl
all_zero-zip2 [] (y ∷ ys) long = absurd (omega arith)
all_zero-zip2 (x ∷ xs) [] long = absurd (omega arith)
all_zero-zip2 (x ∷ xs) (y ∷ ys) long =
    ap (λ b. b && all_zero (zip2 bit_or xs ys)) (or_zero x y)
    ∙ ap (λ b. (eqb x 0 && eqb y 0) && b) (all_zero-zip2 xs ys (omega arith))
    ∙ regrouped (eqb x 0) (eqb y 0) (all_zero xs) (all_zero ys)

-- the lanes, joined to one number
joined_from : (start : ℕ) (xs : List ℕ)
    → eqb (fold_l bit_or start xs) 0 ≡ (eqb start 0 && all_zero xs)
joined_from start [] = with_true (eqb start 0)
joined_from start (x ∷ xs) =
    joined_from (bit_or start x) xs
    ∙ ap (λ b. b && all_zero xs) (or_zero start x)
    ∙ associated (eqb start 0) (eqb x 0) (all_zero xs)

pub all_zero_joined : (xs : List ℕ) → eqb (fold_l bit_or 0 xs) 0 ≡ all_zero xs
all_zero_joined xs = joined_from 0 xs

-- one more block of n lanes
pub one_more_block : (seen bytes : List ℕ) (at n : ℕ) → at + n ≤ length bytes → length seen ≡ n
    → all_zero seen ≡ all_zero (take at bytes)
    → (length (zip2 bit_or seen (chunk at n bytes)) ≡ n)
    × (all_zero (zip2 bit_or seen (chunk at n bytes)) ≡ all_zero (take (at + n) bytes))
one_more_block seen bytes at n within lanes same =
    let long = length-chunk at n bytes within in
    let front : take (at + n) bytes ≡ take at bytes ++ take n (drop at bytes) =
    take-add at n bytes in (
      length-zip2 bit_or seen (chunk at n bytes) (lanes ∙ sym long) ∙ lanes,
      all_zero-zip2 seen (chunk at n bytes) (lanes ∙ sym long)
          ∙ ap (λ b. b && all_zero (chunk at n bytes)) same
          ∙ sym
          (ap all_zero front
          ∙ list_all-append (λ byte. eqb byte 0) (take at bytes) (chunk at n bytes)),
    )

-- the front and the rest are all
pub all_zero_parts : (bytes : List ℕ) (at : ℕ)
    → all_zero bytes ≡ (all_zero (take at bytes) && all_zero (drop at bytes))
all_zero_parts bytes at =
    sym (ap all_zero (take-append-drop at bytes))
    ∙ list_all-append (λ byte. eqb byte 0) (take at bytes) (drop at bytes)

-- a slice from a place on
pub rest_is : (at : ℕ) (xs : List ℕ) → take (length xs - at) (drop at xs) ≡ drop at xs
rest_is at xs = take_all (length xs - at) (drop at xs) (omega (arith, length-drop at xs))

-- what a test of the lanes, and then of the rest, answers
pub all_zero_then : (seen bytes : List ℕ) (at : ℕ) (rest : Bool) → fold_l bit_or 0 seen ≡ 0
    → all_zero seen ≡ all_zero (take at bytes)
    → rest ≡ all_zero (take (length bytes - at) (drop at bytes)) → rest ≡ all_zero bytes
all_zero_then seen bytes at rest is same left =
    let front : all_zero (take at bytes) ≡ true =
    sym same ∙ sym (all_zero_joined seen) ∙ eq-eqb _ 0 is in
    left ∙ ap all_zero (rest_is at bytes)
    ∙ sym (all_zero_parts bytes at ∙ ap (λ b. b && all_zero (drop at bytes)) front)

pub all_zero_else : (seen bytes : List ℕ) (at : ℕ) → (fold_l bit_or 0 seen ≡ 0 → ⊥)
    → all_zero seen ≡ all_zero (take at bytes) → eqb (fold_l bit_or 0 seen) 0 ≡ all_zero bytes
all_zero_else seen bytes at differs same =
    let none : eqb (fold_l bit_or 0 seen) 0 ≡ false = ne_eqb _ 0 differs in
    let front : all_zero (take at bytes) ≡ false = sym same ∙ sym (all_zero_joined seen) ∙ none in
    none ∙ sym (all_zero_parts bytes at ∙ ap (λ b. b && all_zero (drop at bytes)) front)

zeros_from : (bytes : List ℕ) → all_zero bytes ≡ true → bytes ≡ replicate (length bytes) 0
zeros_from [] is = refl
zeros_from (x ∷ bytes) is =
    let here : x ≡ 0 = eqb-true x 0 (first (eqb x 0) (all_zero bytes) is) in
    λ i. here i ∷ zeros_from bytes (second (eqb x 0) (all_zero bytes) is) i

all_zero-replicate : (n : ℕ) → all_zero (replicate n 0) ≡ true
all_zero-replicate zero = refl
all_zero-replicate (suc n) = all_zero-replicate n

-- all bytes are 0 exactly where the list is that many zeros
pub zeros : (answer : Bool) (bytes : List ℕ) → answer ≡ all_zero bytes
    → (IsTrue answer ↔ (bytes ≡ replicate (length bytes) 0))
zeros answer bytes is = (
  λ yes. zeros_from bytes (sym is ∙ yes),
  λ same. is ∙ ap all_zero same
      ∙ all_zero-replicate (length bytes),
)

-- a part of two lists that were joined
pub take-zip2 : (f : ℕ → ℕ → ℕ) (n : ℕ) (xs ys : List ℕ)
    → take n (zip2 f xs ys) ≡ zip2 f (take n xs) (take n ys)
take-zip2 f zero xs ys = refl
take-zip2 f (suc n) [] ys = refl
take-zip2 f (suc n) (x ∷ xs) [] = refl
take-zip2 f (suc n) (x ∷ xs) (y ∷ ys) = ap (λ rest. f x y ∷ rest) (take-zip2 f n xs ys)

zip2-nil : (f : ℕ → ℕ → ℕ) (xs : List ℕ) → zip2 f xs [] ≡ []
zip2-nil f [] = refl
zip2-nil f (x ∷ xs) = refl

pub drop-zip2 : (f : ℕ → ℕ → ℕ) (n : ℕ) (xs ys : List ℕ)
    → drop n (zip2 f xs ys) ≡ zip2 f (drop n xs) (drop n ys)
drop-zip2 f zero xs ys = refl
drop-zip2 f (suc n) [] ys = refl
drop-zip2 f (suc n) (x ∷ xs) [] = sym (zip2-nil f (drop n xs))
drop-zip2 f (suc n) (x ∷ xs) (y ∷ ys) = drop-zip2 f n xs ys

-- lists of one length are the same exactly where no place differs
same_from : (a b : List ℕ) → length a ≡ length b → all_zero (zip2 bit_xor a b) ≡ true → a ≡ b
same_from [] [] long is = refl
same_from [] (y ∷ b) long is = absurd (omega arith)
same_from (x ∷ a) [] long is = absurd (omega arith)
same_from (x ∷ a) (y ∷ b) long is =
    let here : x ≡ y =
    xor_zero x y
    (eqb-true _ 0 (first (eqb (bit_xor x y) 0) (all_zero (zip2 bit_xor a b)) is)) in
    λ i. here i ∷ same_from a b (omega arith)
    (second (eqb (bit_xor x y) 0) (all_zero (zip2 bit_xor a b)) is) i

all_zero_same : (a : List ℕ) → all_zero (zip2 bit_xor a a) ≡ true
all_zero_same [] = refl
all_zero_same (x ∷ a) =
    ap (λ n. eqb n 0 && all_zero (zip2 bit_xor a a)) (xor_self x) ∙ all_zero_same a

pub same : (a b : List ℕ) → length a ≡ length b → (answer : Bool)
    → answer ≡ all_zero (zip2 bit_xor a b) → (IsTrue answer ↔ (a ≡ b))
same a b long answer is = (
  λ yes. same_from a b long (sym is ∙ yes),
  λ e. is
      ∙ ap (λ c. all_zero (zip2 bit_xor a c)) (sym e) ∙ all_zero_same a,
)

-- the other way round: a test that answers where two lists are the same
pub same_is : (a b : List ℕ) → length a ≡ length b → (answer : Bool) → (IsTrue answer ↔ (a ≡ b))
    → answer ≡ all_zero (zip2 bit_xor a b)
same_is a b long true is = sym ((same a b long _ refl).1 (is.0 refl))
same_is a b long false is =
    elim (all_zero (zip2 bit_xor a b)) as (λ t. all_zero (zip2 bit_xor a b) ≡ t → false ≡ t) [
      | true ↦ λ e. is.1 ((same a b long _ refl).0 e)
      | false ↦ λ e. refl
    ] refl

-- one more block of n lanes of two lists
pub one_more_pair : (apart a b : List ℕ) (at n : ℕ) → at + n ≤ length a → length a ≡ length b
    → length apart ≡ n
    → all_zero apart ≡ all_zero (take at (zip2 bit_xor a b))
    → (length (zip2 bit_or apart (zip2 bit_xor (chunk at n a) (chunk at n b))) ≡ n)
    ×
    (all_zero (zip2 bit_or apart (zip2 bit_xor (chunk at n a) (chunk at n b))) ≡ all_zero
    (take (at + n) (zip2 bit_xor a b)))
one_more_pair apart a b at n within long lanes is =
    let part : chunk at n (zip2 bit_xor a b) ≡ zip2 bit_xor (chunk at n a) (chunk at n b) =
    ap (take n) (drop-zip2 bit_xor at a b) ∙ take-zip2 bit_xor n (drop at a) (drop at b) in
    let more =
    one_more_block apart (zip2 bit_xor a b) at n
    (omega (arith, length-zip2 bit_xor a b long)) lanes is in (
      ap (λ z. length (zip2 bit_or apart z)) (sym part)
          ∙ more.0,
      ap (λ z. all_zero (zip2 bit_or apart z)) (sym part) ∙ more.1,
    )

-- what a test of the lanes, and then of the rests, answers
pub same_then : (apart a b : List ℕ) (at : ℕ) (rest : Bool) → length a ≡ length b
    → fold_l bit_or 0 apart ≡ 0 → all_zero apart ≡ all_zero (take at (zip2 bit_xor a b))
    → (IsTrue rest ↔ (take (length a - at) (drop at a) ≡ take (length b - at) (drop at b)))
    → (IsTrue rest ↔ (a ≡ b))
same_then apart a b at rest long none is left =
    let joined = zip2 bit_xor a b in
    let half : IsTrue rest ↔ (take (length a - at) (drop at a) ≡ drop at b) =
    subst (λ l. IsTrue rest ↔ (take (length a - at) (drop at a) ≡ l)) (rest_is at b) left in
    let rests : IsTrue rest ↔ (drop at a ≡ drop at b) =
    subst (λ l. IsTrue rest ↔ (l ≡ drop at b)) (rest_is at a) half in
    let lengths : length (drop at a) ≡ length (drop at b) =
    omega (arith, length-drop at a, length-drop at b) in
    let tested : rest ≡ all_zero (drop at joined) =
    same_is (drop at a) (drop at b) lengths rest rests
    ∙ ap all_zero (sym (drop-zip2 bit_xor at a b)) in
    let whole = tested ∙ ap all_zero (sym (rest_is at joined)) in
    same a b long rest (all_zero_then apart joined at rest none is whole)

pub same_else : (apart a b : List ℕ) (at : ℕ) → length a ≡ length b
    → (fold_l bit_or 0 apart ≡ 0 → ⊥) → all_zero apart ≡ all_zero (take at (zip2 bit_xor a b))
    → (IsTrue (eqb (fold_l bit_or 0 apart) 0) ↔ (a ≡ b))
same_else apart a b at long differs is =
    same a b long _ (all_zero_else apart (zip2 bit_xor a b) at differs is)
