-- Words are read one by one.
use Rattle.std.proofs.Common.{◌≡◌, ℕ, ◌≤◌, ◌<◌, ◌-◌, ◌^◌, List, [], ◌∷◌}
use Rattle.std.proofs.Common.{length, map, get_or, take, drop}
use Rattle.std.proofs.Common.{refl, sym, ap, ◌∙◌, arith}
use Rattle.std.proofs.lemmas.List.{length-map}
use Rattle.std.specs.Borrow.{Bor}
use Rattle.kv_base.specs.Limits.{AreLimits}
use Rattle.kv_base.specs.declared.limits.Limits.{Limits}
use Rattle.kv_words.specs.Words.{Text, Line, AreLimitsOf, IsLimit, Serving, SaysServe, words_of}
use Rattle.kv_words.proofs.SessionLemmas.{first-two}

limit-low : (most otherwise : ℕ) (texts : List Text) (number : ℕ) → 1 ≤ otherwise
    → IsLimit most otherwise texts number → 1 ≤ number
limit-low most otherwise [] number low is = omega (arith, is, low)
limit-low most otherwise (text ∷ []) number low is = is.low
limit-low most otherwise (text ∷ other ∷ texts) number low is = absurd is

limit-high : (most otherwise : ℕ) (texts : List Text) (number : ℕ) → otherwise ≤ most
    → IsLimit most otherwise texts number → number ≤ most
limit-high most otherwise [] number high is = omega (arith, is, high)
limit-high most otherwise (text ∷ []) number high is = is.high
limit-high most otherwise (text ∷ other ∷ texts) number high is = absurd is

-- limits that words name are limits that a store can be opened with
pub limits-good : (line : Line) (limits : Limits) → AreLimitsOf line limits → AreLimits limits
limits-good line limits are = record {
  some_slots = limit-low (2 ^ 24) (2 ^ 20) line.slots limits.slots (omega arith) are.slots;
  slots = limit-high (2 ^ 24) (2 ^ 20) line.slots limits.slots (omega arith) are.slots;
  some_pages = limit-low 1024 256 line.cache limits.cache (omega arith) are.cache;
  pages = limit-high 1024 256 line.cache limits.cache (omega arith) are.cache;
}

-- a list of so many words has those that stand at its places
pub two-words : (words : List (Bor Text)) (x : Bor Text) → length words ≡ 2
    → map (λ word. word.now) words ≡ (get_or words 0 x).now ∷ (get_or words 1 x).now ∷ []
two-words [] x count = absurd (omega (arith, count))
two-words (a ∷ []) x count = absurd (omega (arith, count))
two-words (a ∷ b ∷ []) x count = refl
two-words (a ∷ b ∷ c ∷ words) x count = absurd (omega (arith, count))

-- the second of two words
pub second-of : (a b c d : Text) → a ∷ b ∷ [] ≡ c ∷ d ∷ [] → b ≡ d
second-of a b c d same = cc

-- the words behind two
behind : (a b c d : Text) (xs ys : List Text) → a ∷ b ∷ xs ≡ c ∷ d ∷ ys → xs ≡ ys
behind a b c d xs ys same = cc

-- what stands at the places of the words of sessions
pub serve-places : (line : Line) (serving : Serving) (words : List (Bor Text)) (x : Bor Text)
    → 2 ≤ length words → line.plain ≡ map (λ word. word.now) words → (says : SaysServe line serving)
    → ((get_or words 1 x).now ≡ says.number) × (words_of serving.sessions
    ≡ map (λ word. word.now) (take (length words - 2) (drop 2 words)))
serve-places line serving words x some plain says = by says.number says.plain
  where
    by : (number : Text) → line.plain ≡ serving.folder ∷ number ∷ words_of serving.sessions
        → ((get_or words 1 x).now ≡ number) × (words_of serving.sessions
        ≡ map (λ word. word.now) (take (length words - 2) (drop 2 words)))
    by number is =
        let both : (get_or words 0 x).now ∷ (get_or words 1 x).now
        ∷ map (λ word. word.now) (take (length words - 2) (drop 2 words))
        ≡ serving.folder ∷ number ∷ words_of serving.sessions =
        sym (first-two words x some) ∙ sym plain ∙ is in
        (cc, sym (behind _ _ _ _ _ _ both))

-- fewer words than two are not those of sessions
pub serve-two : (line : Line) (serving : Serving) (words : List (Bor Text)) → length words < 2
    → line.plain ≡ map (λ word. word.now) words → SaysServe line serving → ⊥
serve-two line serving words few plain says =
    let count = ap length (sym says.plain ∙ plain) in
    omega (arith, count, few, length-map words (λ word. word.now))
