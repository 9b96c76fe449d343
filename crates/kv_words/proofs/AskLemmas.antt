-- Words ask one command at most.
use Rattle.std.proofs.Common.{◌≡◌, ℕ, List, [], ◌∷◌, codes, get_or, refl, sym, ap, ◌∙◌, subst}
use Rattle.std.proofs.Common.{arith, ◌<◌, lit<}
use Rattle.std.proofs.lemmas.Option.{same_Some}
use Rattle.std.specs.Str.Parse.{digits_value, without_leading_plus}
use Rattle.kv_base.specs.declared.limits.Limits.{Limits}
use Rattle.kv_words.specs.Words.{Text, Line, Tells, line_of, AreLimitsOf, IsLimit, SaysServe, SaysReport, Serving}
use Rattle.kv_words.specs.Words.{Reporting, Asked, serve, check, dump, Says, first_word, Asks, all_said}
use Rattle.kv_words.specs.Words.{nothing_said, words_of}
use Rattle.kv_words.proofs.SessionLemmas.{sessions-one}

limit-one : (most otherwise : ℕ) (texts : List Text) (m n : ℕ) → IsLimit most otherwise texts m
    → IsLimit most otherwise texts n → m ≡ n
limit-one most otherwise [] m n first second = first ∙ sym second
limit-one most otherwise (text ∷ []) m n first second = first.is.value ∙ sym second.is.value
limit-one most otherwise (text ∷ other ∷ texts) m n first second = absurd first

same-limits : (a b : Limits) → a.slots ≡ b.slots → a.cache ≡ b.cache → a ≡ b
same-limits a b slots cache = rw (slots, cache) refl

limits-one : (line : Line) (a b : Limits) → AreLimitsOf line a → AreLimitsOf line b → a ≡ b
limits-one line a b first second = same-limits a b
    (limit-one _ _ line.slots a.slots b.slots first.slots second.slots)
    (limit-one _ _ line.cache a.cache b.cache first.cache second.cache)

same-serving : (a b : Serving) → a.folder ≡ b.folder → a.workers ≡ b.workers → a.limits ≡ b.limits
    → a.sessions ≡ b.sessions → a ≡ b
same-serving a b folder workers limits sessions = rw (folder, workers, limits, sessions) refl

same-reporting : (a b : Reporting) → a.folder ≡ b.folder → a.workers ≡ b.workers → a ≡ b
same-reporting a b folder workers = rw (folder, workers) refl

two : (a b c d : Text) → a ∷ b ∷ [] ≡ c ∷ d ∷ [] → (a ≡ c) × (b ≡ d)
two a b c d same = (cc, cc)

-- the two first words, and the others
two-first : (a b c d : Text) (xs ys : List Text) → a ∷ b ∷ xs ≡ c ∷ d ∷ ys
    → (a ≡ c) × (b ≡ d) × (xs ≡ ys)
two-first a b c d xs ys same = (cc, cc, cc)

serve-one : (line : Line) (a b : Serving) → SaysServe line a → SaysServe line b → a ≡ b
serve-one line a b first second =
    let places = two-first a.folder first.number b.folder second.number (words_of a.sessions)
    (words_of b.sessions) (sym first.plain ∙ second.plain) in
    same-serving a b places.0
    (first.workers.is.value ∙ ap (λ text. digits_value 10 (without_leading_plus text)) places.1
    ∙ sym second.workers.is.value)
    (limits-one line a.limits b.limits first.limits second.limits)
    (sessions-one a.sessions b.sessions places.2)

report-one : (line : Line) (a b : Reporting) → SaysReport line a → SaysReport line b → a ≡ b
report-one line a b first second =
    let places = two a.folder first.workers b.folder second.workers (sym first.plain ∙ second.plain) in
    same-reporting a b places.0 (first.number.is.value ∙ rw (places.1) refl ∙ sym second.number.is.value)

-- first words that begin otherwise
other : (a b : Text) → a ≡ b → get_or a 0 0 < get_or b 0 0 → ⊥
other a b same below = let first : get_or a 0 0 ≡ get_or b 0 0 = ap (λ text. get_or text 0 0) same in
    omega (arith, below, first)

same-says : (line : Line) (a b : Asked) → first_word a ≡ first_word b → Says line a → Says line b
    → a ≡ b
same-says line (serve a) (serve b) first is too = ap serve (serve-one line a b is too)
same-says line (serve a) (check b) first is too =
    absurd (other (codes "check") (codes "serve") (sym first) (lit< tt))
same-says line (serve a) (dump b) first is too =
    absurd (other (codes "dump") (codes "serve") (sym first) (lit< tt))
same-says line (check a) (serve b) first is too =
    absurd (other (codes "check") (codes "serve") first (lit< tt))
same-says line (check a) (check b) first is too = ap check (report-one line a b is too)
same-says line (check a) (dump b) first is too =
    absurd (other (codes "check") (codes "dump") first (lit< tt))
same-says line (dump a) (serve b) first is too =
    absurd (other (codes "dump") (codes "serve") first (lit< tt))
same-says line (dump a) (check b) first is too =
    absurd (other (codes "check") (codes "dump") (sym first) (lit< tt))
same-says line (dump a) (dump b) first is too = ap dump (report-one line a b is too)

heads : (x y : Text) (xs ys : List Text) → x ∷ xs ≡ y ∷ ys → (x ≡ y) × (xs ≡ ys)
heads x y xs ys same = (cc, cc)

-- two commands that words ask are one
pub asks-one : (words : List Text) (a b : Asked) → Asks words a → Asks words b → a ≡ b
asks-one words a b first second =
    let words_same = heads (first_word a) (first_word b) first.rest second.rest
    (sym first.words_are ∙ second.words_are) in
    let said_same : first.said ≡ second.said = same_Some first.said second.said
    (sym first.all ∙ ap (all_said nothing_said) words_same.1 ∙ second.all) in
    same-says (line_of first.said) a b words_same.0 first.says
    (subst (λ said. Says (line_of said) b) (sym said_same) second.says)

-- what the words behind the first one say, where all ask a command
pub tells-rest : (words rest : List Text) (first : Text) (asked : Asked) → words ≡ first ∷ rest
    → Asks words asked → (line : Line) × Tells rest line
tells-rest words rest first asked is asks =
    let same = heads first (first_word asked) rest asks.rest (sym is ∙ asks.words_are) in (
      line_of asks.said,
      record {
        said = asks.said;
        all = ap (all_said nothing_said) same.1 ∙ asks.all;
        none_waits = asks.none_waits;
        line_is = refl;
      },
    )

-- what the first word asks with what those behind it say is what all words ask
pub asks-told : (words rest : List Text) (first : Text) (line : Line) (asked : Asked)
    → words ≡ first ∷ rest → Tells rest line → first ≡ first_word asked → Says line asked
    → Asks words asked
asks-told words rest first line asked is tells named says = record {
  rest = rest;
  said = tells.said;
  words_are = is ∙ ap (λ word. word ∷ rest) named;
  all = tells.all;
  none_waits = tells.none_waits;
  says = subst (λ told. Says told asked) tells.line_is says;
}
