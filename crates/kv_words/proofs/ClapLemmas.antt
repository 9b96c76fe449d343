-- What clap makes of words is what they say of a command.
use Rattle.std.proofs.Common.{◌≡◌, inl, inr, ℕ, Bool, true, false, List, [], ◌∷◌}
use Rattle.std.proofs.Common.{length, Option, Some, None, codes, refl, sym}
use Rattle.std.proofs.Common.{ap, ◌∙◌, subst, map, String, string_bytes}
use Rattle.std.specs.Prelude.{◌==◌, ◌||◌, if◌then◌else◌, fold, is_some}
use Rattle.std.specs.Prelude.{option_and_then}
use Rattle.std.specs.List.{AllByRecursion, list_any}
use Rattle.std.proofs.lemmas.Option.{none-some}
use Rattle.std.proofs.lemmas.Bool.{cases_Bool, false≢true}
use Rattle.std.proofs.lemmas.Str.{IsUtf8-string_bytes}
use Rattle.clap.specs.Walk.{Row, Walk}
use Rattle.clap.specs.Walk.{settled_rows, walked, with_default, finished, settled, has_row}
use Rattle.clap.specs.Walk.{walk_from, nothing_held, rows_of}
use Rattle.clap.specs.Simple.{App, entered}
use Rattle.clap.specs.Simple.{matches_of}
use Rattle.clap.specs.Faults.{walk_fault, turn_fault, settle_fault, defaults_fault}
use Rattle.clap.specs.Faults.{fault_of, default_fault, entered_fault, check_fault}
use Rattle.clap.specs.Kinds.{HasKind, Kinds, or_else}
use Rattle.clap.specs.Matches.{found_of}
use Rattle.clap.specs.Values.{kind_of}
use Rattle.clap.specs.declared.error.Error.{Error}
use Rattle.clap.specs.declared.parser.matches.ArgMatches.{ArgMatches}
use Rattle.clap.specs.declared.error.kind.ErrorKind.TheVariants as kind
use Rattle.kv_words.specs.Words.{Text, Said, OptionName, Slots, Cache, all_said, one_more, nothing_said}
use Rattle.kv_words.specs.Parsed.{asked_app, values_at, found_in}
use Rattle.kv_words.specs.Words.{Line, line_of, Tells}
use Rattle.kv_words.proofs.ClapState.{Follows, IsLost, Place, Stands, Whole, at, cache_rule}
use Rattle.kv_words.proofs.ClapState.{fault-whole, fault-without, free, id_of}
use Rattle.kv_words.proofs.ClapState.{named, nothing, pending_by, rule, rules}
use Rattle.kv_words.proofs.ClapState.{said_of, shape, slots_rule, waits_for}
use Rattle.kv_words.proofs.ClapState.{without_value, words}
use Rattle.kv_words.proofs.ClapTurns.{IsWord, Turns, fails, turn}

-- ---- all words

or-first : (a b : Kinds) → or_else a b ≡ [] → a ≡ []
or-first [] b none = refl
or-first (k ∷ ks) b none = none

or-second : (a b : Kinds) → or_else a b ≡ [] → b ≡ []
or-second [] b none = none
or-second (k ∷ ks) b none = absurd (cc)

-- the walk over words, which say this or may not stand there
abbrev Runs : Option Said → Walk → List Text → Type 0
Runs None w texts = walk_fault shape [] w texts ≡ []
    → settle_fault rules false (fold (walked rules []) w texts).held ≡ [] → ⊥
Runs (Some said) w texts = (walk_fault shape [] w texts ≡ [])
    × Stands (fold (walked rules []) w texts) said

lost-fault : (rows : List Row) (name : OptionName) (word : Text)
    → turn_fault shape [] (at rows (without_value name) (waits_for name) true) word
    ≡ kind.InvalidValue ∷ []
lost-fault rows Slots word = refl
lost-fault rows Cache word = refl

lost : (texts : List Text) (w : Walk) → IsLost w → Runs None w texts
unfolding walk_fault
lost [] w is fault settle = fails _ _ (ap (λ v. settle_fault rules false v.held) is.is
    ∙ fault-without is.rows is.name) settle
lost (text ∷ texts) w is fault settle = fails _ _ (ap (λ v. turn_fault shape [] v text) is.is
    ∙ lost-fault is.rows is.name text) (or-first _ _ fault)

run-next : (o : Option Said) (w : Walk) (text : Text) (texts : List Text)
    → turn_fault shape [] w text ≡ [] → Runs o (walked rules [] w text) texts → Runs o w (text ∷ texts)
unfolding walk_fault
run-next None w text texts clean rest = λ fault settle. rest (or-second _ _ fault) settle
run-next (Some said) w text texts clean rest =
    (ap (λ k. or_else k (walk_fault shape [] (walked rules [] w text) texts)) clean ∙ rest.0, rest.1)

run-by : (o : Option Said) (texts : List Text) (w : Walk) (text : Text) → Turns o w text
    → ((more : Said) → Stands (walked rules [] w text) more
    → Runs (all_said more texts) (walked rules [] w text) texts)
    → Runs (option_and_then (λ more. all_said more texts) o) w (text ∷ texts)
unfolding walk_fault
run-by None texts w text (inl bad) next = λ fault settle. bad (or-first _ _ fault)
run-by None texts w text (inr is_lost) next = λ fault settle.
    lost texts (walked rules [] w text) is_lost (or-second _ _ fault) settle
run-by (Some more) texts w text turns next =
    run-next (all_said more texts) w text texts turns.0 (next more turns.1)

run : (texts : List Text) (w : Walk) (said : Said) → AllByRecursion IsWord texts → Stands w said
    → Runs (all_said said texts) w texts
unfolding walk_fault
run [] w said good stands = (refl, stands)
run (text ∷ texts) w said good stands = run-by (one_more said text) texts w text
    (turn text good.0 w said stands)
    (λ more there. run texts (walked rules [] w text) more good.1 there)

-- before the first word
begins : Stands (walk_from nothing_held) nothing_said
begins = inl (record {
  rows = [];
  pending = nothing;
  waiting = false;
  is = refl;
  follows = nowhere;
  none = refl;
})
  where
    nowhere : Follows [] None nothing_said
    nowhere words = refl
    nowhere (named Slots) = refl
    nowhere (named Cache) = refl

-- ---- behind the words

when-or : (b : Bool) (x : Kinds) → (if b || true then [] else x) ≡ []
when-or true x = refl
when-or false x = refl

when-same : (b : Bool) (rows : List Row) → (if b then rows else rows) ≡ rows
when-same true rows = refl
when-same false rows = refl

no-default : (id : Text) (long : Option Text) (index : Option ℕ) (rows : List Row)
    → with_default rows (rule id long index) ≡ rows
no-default id long index rows = when-same (has_row id rows) rows

no-default-fault : (id : Text) (long : Option Text) (index : Option ℕ) (rows : List Row)
    → default_fault rows (rule id long index) ≡ []
no-default-fault id long index rows = when-or (has_row id rows) _

-- what building and the walk leave
last-rows : (rows : List Row) → fold with_default rows rules ≡ rows
last-rows rows =
    ap (λ r. with_default (with_default r slots_rule) cache_rule)
    (no-default (codes "words") None (Some 1) rows)
    ∙ ap (λ r. with_default r cache_rule) (no-default (codes "slots") (Some (codes "slots")) None rows)
    ∙ no-default (codes "cache") (Some (codes "cache")) None rows

last-defaults : (rows : List Row) → defaults_fault rows rules ≡ []
unfolding defaults_fault
last-defaults rows = rw (
  no-default-fault (codes "words") None (Some 1) rows,
  no-default (codes "words") None (Some 1) rows,
  no-default-fault (codes "slots") (Some (codes "slots")) None rows,
  no-default (codes "slots") (Some (codes "slots")) None rows,
  no-default-fault (codes "cache") (Some (codes "cache")) None rows,
) refl

abbrev whole_app : App
whole_app = record { top = shape; subs = [] }

-- what may fail behind the words
abbrev rest_fault : Walk → Kinds
rest_fault w = or_else (entered_fault whole_app w.stopped)
    (or_else (settle_fault rules false w.held)
    (or_else (defaults_fault (settled rules w.held).rows rules)
    (check_fault shape (finished rules w.held) (is_some (entered whole_app w.stopped)))))

abbrev end_of : List Text → Walk
end_of texts = fold (walked rules []) (walk_from nothing_held) texts

whole-fault : (texts : List Text) → fault_of asked_app texts
    ≡ or_else (walk_fault shape [] (walk_from nothing_held) texts) (rest_fault (end_of texts))
whole-fault texts = refl

rest-free : (rows : List Row) (pending : Whole) (waiting trailing : Bool)
    → rest_fault (at rows (pending_by pending) (free waiting) trailing) ≡ []
rest-free rows pending waiting trailing = rw (
  fault-whole rows pending,
  last-defaults (settled_rows rules (pending_by pending) rows),
) refl

-- a free walk isn't a waiting one
not-both : (o : Option OptionName) (name : OptionName) → o ≡ None → o ≡ Some name → ⊥
not-both o name none some = none-some name (sym none ∙ some)

-- words that say a command's words have no fault
pub no-fault : (texts : List Text) (said : Said) → AllByRecursion IsWord texts
    → all_said nothing_said texts ≡ Some said → said.waits ≡ None → fault_of asked_app texts ≡ []
no-fault texts said good is none =
    let runs = subst (λ o. Runs o (walk_from nothing_held) texts) is
    (run texts (walk_from nothing_held) nothing_said good begins) in
    elim runs.1 [
      | inl is_free ↦ whole-fault texts
          ∙ ap (λ k. or_else k (rest_fault (end_of texts))) runs.0
          ∙ ap rest_fault is_free.is
          ∙ rest-free is_free.rows is_free.pending is_free.waiting said.trailing
      | inr waits ↦ absurd (not-both said.waits waits.name none waits.some)
    ]

-- the words say something, with no option that waits
abbrev IsSaid : Option Said → Type 0
IsSaid None = ⊥
IsSaid (Some said) = said.waits ≡ None

-- words without a fault say something
pub said-of : (texts : List Text) → AllByRecursion IsWord texts → fault_of asked_app texts ≡ []
    → (said : Said) × (all_said nothing_said texts ≡ Some said) × (said.waits ≡ None)
    × ((place : Place) → values_at (id_of place) (matches_of asked_app texts) ≡ said_of place said)
said-of texts good clean = by (all_said nothing_said texts) refl
    (run texts (walk_from nothing_held) nothing_said good begins)
  where
    by : (o : Option Said) → all_said nothing_said texts ≡ o → Runs o (walk_from nothing_held) texts
        → (said : Said) × (all_said nothing_said texts ≡ Some said) × (said.waits ≡ None)
        × ((place : Place) → values_at (id_of place) (matches_of asked_app texts) ≡ said_of place said)
    by None is runs = absurd (runs (or-first _ _ clean)
        (or-first _ _ (or-second _ _ (or-second _ _ clean))))
    by (Some said) is (fault, inl free_) = (
      said,
      is,
      free_.none,
      λ place.
          ap (λ w. values_at (id_of place) (finished rules w.held)) free_.is
          ∙ ap (values_at (id_of place)) (last-rows (settled_rows rules (pending_by free_.pending) free_.rows))
          ∙ free_.follows place,
    )
    by (Some said) is (fault, inr waits) = absurd (fails _ _
        (ap (λ w. settle_fault rules false w.held) waits.is ∙ fault-without waits.rows waits.name)
        (or-first _ _ (or-second _ _ (or-second _ _ clean))))

-- an empty word may not stand anywhere
pub empty-none : (texts : List Text) (said : Said)
    → list_any (λ text. length text == 0) texts ≡ true → all_said said texts ≡ None
unfolding one_more
empty-none [] said empty = absurd (false≢true empty)
empty-none (text ∷ texts) said empty = elim (cases_Bool (length text == 0)) [
  | inl none ↦ rw none refl
  | inr some ↦ by (one_more said text) (λ more. empty-none texts more (rw some at empty))
]
  where
    by : (o : Option Said) → ((more : Said) → all_said more texts ≡ None)
        → option_and_then (λ more. all_said more texts) o ≡ None
    by None next = refl
    by (Some more) next = next more

neither-or : (a b : Bool) → (a || b) ≡ false → (a ≡ false) × (b ≡ false)
neither-or true b is = absurd (false≢true (sym is))
neither-or false b is = (refl, is)

-- strings without an empty one are words
pub are-words : {Z : Type 0} (strings : List (String Z))
    → list_any (λ text. length text == 0) (map (λ string. string_bytes string) strings) ≡ false
    → AllByRecursion IsWord (map (λ string. string_bytes string) strings)
are-words [] none = tt
are-words (string ∷ strings) none =
    let parts = neither-or (length (string_bytes string) == 0)
    (list_any (λ text. length text == 0) (map (λ s. string_bytes s) strings)) none in
    ((parts.0, IsUtf8-string_bytes string), are-words strings parts.1)

-- what clap finds in words without a fault is what they say
pub tells : (texts : List Text) (matches : ArgMatches) → AllByRecursion IsWord texts
    → fault_of asked_app texts ≡ [] → rows_of (found_of matches) ≡ matches_of asked_app texts
    → Tells texts (found_in matches)
tells texts matches good clean rows =
    let is = said-of texts good clean in record {
      said = is.0;
      all = is.1;
      none_waits = is.2;
      line_is = same-line (found_in matches) (line_of is.0)
          (ap (values_at (codes "words")) rows ∙ is.3 words)
          (ap (values_at (codes "slots")) rows ∙ is.3 (named Slots))
          (ap (values_at (codes "cache")) rows ∙ is.3 (named Cache));
    }
  where
    same-line : (a b : Line) → a.plain ≡ b.plain → a.slots ≡ b.slots → a.cache ≡ b.cache → a ≡ b
    same-line a b plain slots cache = rw (plain, slots, cache) refl

-- words with a fault say nothing
pub tells-none : (texts : List Text) → AllByRecursion IsWord texts → (fault_of asked_app texts ≡ [] → ⊥)
    → (line : Line) → Tells texts line → ⊥
tells-none texts good faulty line is = faulty (no-fault texts is.said good is.all is.none_waits)

-- nor do words with an empty one
pub tells-not-empty : (texts : List Text) → list_any (λ text. length text == 0) texts ≡ true
    → (line : Line) → Tells texts line → ⊥
tells-not-empty texts empty line is =
    none-some is.said (sym (empty-none texts nothing_said empty) ∙ is.all)

-- an error of some kind other than want of memory comes of a fault
pub faulty : (kinds : Kinds) (e : Error) → HasKind kinds e → (kind_of e ≡ kind.OutOfMemory → ⊥)
    → kinds ≡ [] → ⊥
faulty kinds e (inl out) other none = other out
faulty [] e (inr among) other none = among
faulty (k ∷ ks) e (inr among) other none = absurd (cc)
