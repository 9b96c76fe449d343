-- Words name sessions two by two.
use Rattle.std.proofs.Common.{◌≡◌, ◌*◌, ◌+◌, ◌-◌, ◌≤◌, Bool, List, [], ◌∷◌, ◌++◌}
use Rattle.std.proofs.Common.{length, map, get_or, take, drop, refl, sym, ap, ap₂, ◌∙◌, arith, cond}
use Rattle.std.proofs.Common.{append_assoc, length-append}
use Rattle.std.specs.Prelude.{count_by}
use Rattle.std.proofs.lemmas.List.{take_all}
use Rattle.std.proofs.lemmas.List.Sums.{sum_by-cons}
use Rattle.std.specs.Borrow.{Bor}
use Rattle.kv_words.specs.Words.{Text, Ends, words_of}

-- words name the sessions of one list only
pub sessions-one : (a b : List Ends) → words_of a ≡ words_of b → a ≡ b
sessions-one [] [] same = refl
sessions-one [] (y ∷ ys) same = absurd (cc)
sessions-one (x ∷ xs) [] same = absurd (cc)
sessions-one (x ∷ xs) (y ∷ ys) same =
    let input : x.input ≡ y.input = cc in
    let output : x.output ≡ y.output = cc in
    let others : words_of xs ≡ words_of ys = cc in
    ap₂ (λ ends sessions. ends ∷ sessions) (same-ends x y input output) (sessions-one xs ys others)
  where
    same-ends : (a b : Ends) → a.input ≡ b.input → a.output ≡ b.output → a ≡ b
    same-ends a b input output = rw (input, output) refl

pub words_of-append : (a b : List Ends) → words_of (a ++ b) ≡ words_of a ++ words_of b
words_of-append [] b = refl
words_of-append (x ∷ xs) b = ap (λ words. x.input ∷ x.output ∷ words) (words_of-append xs b)

pub length-words_of : (a : List Ends) → length (words_of a) ≡ 2 * length a
length-words_of [] = refl
length-words_of (x ∷ xs) = omega (arith, length-words_of xs)

-- a count over what a list becomes
pub count-map : {A B : Type 0} (f : A → B) (p : B → Bool) (xs : List A)
    → count_by p (map f xs) ≡ count_by (λ x. p (f x)) xs
count-map f p [] = refl
count-map f p (x ∷ xs) = sum_by-cons (λ y. cond (p y) 1 0) (f x) (map f xs)
    ∙ ap (λ n. cond (p (f x)) 1 0 + n) (count-map f p xs)
    ∙ sym (sum_by-cons (λ y. cond (p (f y)) 1 0) x xs)

-- the two first words, and those behind them
pub first-two : (words : List (Bor Text)) (x : Bor Text) → 2 ≤ length words
    → map (λ word. word.now) words ≡ (get_or words 0 x).now ∷ (get_or words 1 x).now
    ∷ map (λ word. word.now) (take (length words - 2) (drop 2 words))
first-two [] x some = absurd (omega (arith, some))
first-two (a ∷ []) x some = absurd (omega (arith, some))
first-two (a ∷ b ∷ words) x some =
    let all : take (length (a ∷ b ∷ words) - 2) words ≡ words = take_all _ words (omega arith) in
    ap (λ l. a.now ∷ b.now ∷ map (λ word. word.now) l) (sym all)

-- one pair of words more
pub one-pair : (done : List Ends) (ends : Ends) (all rest others : List Text)
    → words_of done ++ rest ≡ all → rest ≡ ends.input ∷ ends.output ∷ others
    → words_of (done ++ ends ∷ []) ++ others ≡ all
one-pair done ends all rest others so_far pair =
    ap (λ words. words ++ others) (words_of-append done (ends ∷ []))
    ∙ append_assoc (words_of done) (ends.input ∷ ends.output ∷ []) others
    ∙ ap (λ words. words_of done ++ words) (sym pair) ∙ so_far

-- an odd number of words names no sessions
pub odd-none : (done sessions : List Ends) (all rest : List Text) → words_of done ++ rest ≡ all
    → length rest ≡ 1 → words_of sessions ≡ all → ⊥
odd-none done sessions all rest so_far odd is =
    let left = ap length so_far in
    let right = ap length is in
    omega (
      arith,
      left,
      right,
      length-append (words_of done) rest,
      length-words_of done,
      length-words_of sessions,
      odd,
    )
