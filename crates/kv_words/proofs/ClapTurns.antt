-- What one word more comes to.
use Rattle.std.proofs.Common.{◌≡◌, ◌⊎◌, inl, inr, ℕ, Bool, true, false, List, [], ◌∷◌}
use Rattle.std.proofs.Common.{length, slice_get, Option, Some, None, codes, refl, sym}
use Rattle.std.proofs.Common.{ap, ◌∙◌, subst, arith}
use Rattle.std.specs.Prelude.{◌==◌, ◌||◌, not}
use Rattle.std.specs.List.{before_first}
use Rattle.std.specs.Str.{bytes_eq, chars, IsUtf8}
use Rattle.std.proofs.lemmas.Bool.{cases_Bool, eqb-true, false≢true}
use Rattle.clap.specs.Lexer.{long_of, short_of}
use Rattle.std.proofs.lemmas.Slice.Eq.{bytes_eq-Decides}
use Rattle.std.proofs.lemmas.Str.{chars_past_char, encodes-chars}
use lib.Utf8.{encode, encodes}
use Rattle.clap.specs.Walk.{Row, Walk, Waiting, idle, option, positional}
use Rattle.clap.specs.Walk.{settled_rows, walked}
use Rattle.clap.specs.Faults.{turn_fault, settle_fault, flags_fault}
use Rattle.clap.specs.Kinds.{Kinds, or_else}
use Rattle.clap.specs.declared.error.kind.ErrorKind.{ErrorKind}
use Rattle.clap.specs.declared.error.kind.ErrorKind.TheVariants as kind
use Rattle.kv_words.specs.Words.{Text, Said, OptionName, Slots, Cache, one_more}
use Rattle.kv_words.specs.Words.{option_said, is_plain, value_in}
use Rattle.kv_words.specs.Words.{named_said, dashed_said, word_said}
use Rattle.kv_words.proofs.ClapState.{Follows, IsLost, Stands, Whole, at, bare, fault-whole}
use Rattle.kv_words.proofs.ClapState.{follows-name, follows-plain, follows-value, free, held_at}
use Rattle.kv_words.proofs.ClapState.{named, nothing, pending_by}
use Rattle.kv_words.proofs.ClapState.{rules, shape, used_once, waits_for, whole}
use Rattle.kv_words.proofs.ClapState.{without_value, words}

-- ---- what a word looks like

-- the word is no flag, nor --
abbrev pub IsNoFlag : Text → Type 0
IsNoFlag word = (bytes_eq word (45 ∷ 45 ∷ []) ≡ false) × (long_of word ≡ None) × (short_of word ≡ None)

pub or-right : (a b : Bool) → a ≡ true → (not a || b) ≡ true → b ≡ true
or-right true b first is = is
or-right false b first is = absurd (false≢true first)

pub neither : (a b : Bool) → (not a || b) ≡ false → (a ≡ true) × (b ≡ false)
neither true b is = (refl, is)
neither false b is = absurd (false≢true (sym is))

pub no-flag : (word : Text) → is_plain word ≡ true → IsNoFlag word
no-flag [] is = (refl, refl, refl)
no-flag (c ∷ rest) is = elim (cases_Bool (c == 45)) [
  | inr other ↦ (rw other refl, rw other refl, rw other refl)
  | inl dash ↦
      let alone : c ∷ rest ≡ codes "-" = (bytes_eq-Decides (c ∷ rest) (codes "-")).0
      (or-right (c == 45) (bytes_eq (c ∷ rest) (codes "-")) dash is) in
      subst IsNoFlag (sym alone) (refl, refl, refl)
]

-- a word that isn't plain begins with - and has more behind it
pub dashed : (word : Text) → is_plain word ≡ false → (x : ℕ) × (rest : Text) × (word ≡ 45 ∷ x ∷ rest)
dashed [] is = absurd (false≢true (sym is))
dashed (c ∷ []) is =
    let parts = neither (c == 45) (bytes_eq (c ∷ []) (codes "-")) is in
    let plain : bytes_eq (c ∷ []) (codes "-") ≡ true =
    (bytes_eq-Decides (c ∷ []) (codes "-")).1 (ap (λ d. d ∷ []) (eqb-true c 45 parts.0)) in
    absurd (false≢true (sym parts.1 ∙ plain))
dashed (c ∷ x ∷ rest) is =
    let parts = neither (c == 45) (bytes_eq (c ∷ x ∷ rest) (codes "-")) is in
    (x, rest, ap (λ d. d ∷ x ∷ rest) (eqb-true c 45 parts.0))

-- the flags of a word have a first character
pub first-char : (x : ℕ) (rest : Text) → IsUtf8 (45 ∷ x ∷ rest)
    → (y : ℕ) × (slice_get (chars (x ∷ rest)) 0 ≡ Some y)
unfolding encode
first-char x rest good = by (chars (x ∷ rest)) refl
  where
    by : (cs : List ℕ) → chars (x ∷ rest) ≡ cs → (y : ℕ) × (slice_get (chars (x ∷ rest)) 0 ≡ Some y)
    by [] is =
        let cs : chars (45 ∷ x ∷ rest) ≡ 45 ∷ [] = chars_past_char (45 ∷ x ∷ rest) (x ∷ rest) 45 good refl
        ∙ ap (λ l. 45 ∷ l) is in
        let all : encodes (45 ∷ []) ≡ 45 ∷ x ∷ rest = ap encodes (sym cs)
        ∙ encodes-chars (45 ∷ x ∷ rest) good in
        let short : encodes (45 ∷ []) ≡ 45 ∷ [] = refl in
        let count : length {A = ℕ} (45 ∷ []) ≡ length (45 ∷ x ∷ rest) = ap length (sym short ∙ all) in
        absurd (omega (arith, count))
    by (y ∷ ys) is = (y, ap (λ l. slice_get l 0) is)

-- ---- one word more

pub or-nothing : (kinds : Kinds) → or_else kinds [] ≡ kinds
or-nothing [] = refl
or-nothing (k ∷ ks) = refl

pub trailing-walk : (rows : List Row) (pending : Whole) (waiting : Bool) (word : Text)
    → walked rules [] (at rows (pending_by pending) (free waiting) true) word
    ≡ at (settled_rows rules (pending_by pending) rows) (pending_by (whole words word)) (free true) true
unfolding walked
trailing-walk rows nothing waiting word = refl
trailing-walk rows (whole words value) waiting word = refl
trailing-walk rows (whole (named Slots) value) waiting word = refl
trailing-walk rows (whole (named Cache) value) waiting word = refl

pub trailing-fault : (rows : List Row) (pending : Whole) (waiting : Bool) (word : Text)
    → turn_fault shape [] (at rows (pending_by pending) (free waiting) true) word ≡ []
trailing-fault rows nothing waiting word = refl
trailing-fault rows (whole words value) waiting word = refl
trailing-fault rows (whole (named Slots) value) waiting word = refl
trailing-fault rows (whole (named Cache) value) waiting word = refl

pub plain-walk : (rows : List Row) (pending : Whole) (waiting : Bool) (word : Text) → IsNoFlag word
    → walked rules [] (at rows (pending_by pending) (free waiting) false) word
    ≡ at (settled_rows rules (pending_by pending) rows) (pending_by (whole words word)) (free true) false
unfolding walked
plain-walk rows nothing true word flagless = rw (flagless.0, flagless.1, flagless.2) refl
plain-walk rows nothing false word flagless = rw (flagless.0, flagless.1, flagless.2) refl
plain-walk rows (whole words value) true word flagless = rw (flagless.0, flagless.1, flagless.2) refl
plain-walk rows (whole words value) false word flagless = rw (flagless.0, flagless.1, flagless.2) refl
plain-walk rows (whole (named Slots) value) true word flagless = rw (flagless.0, flagless.1, flagless.2) refl
plain-walk rows (whole (named Slots) value) false word flagless = rw (flagless.0, flagless.1, flagless.2) refl
plain-walk rows (whole (named Cache) value) true word flagless = rw (flagless.0, flagless.1, flagless.2) refl
plain-walk rows (whole (named Cache) value) false word flagless = rw (flagless.0, flagless.1, flagless.2) refl

pub plain-fault : (rows : List Row) (pending : Whole) (waiting : Bool) (word : Text) → IsNoFlag word
    → turn_fault shape [] (at rows (pending_by pending) (free waiting) false) word ≡ []
plain-fault rows nothing true word flagless = rw (flagless.0, flagless.1, flagless.2) refl
plain-fault rows nothing false word flagless = rw (flagless.0, flagless.1, flagless.2) refl
plain-fault rows (whole words value) true word flagless = rw (flagless.0, flagless.1, flagless.2) refl
plain-fault rows (whole words value) false word flagless = rw (flagless.0, flagless.1, flagless.2) refl
plain-fault rows (whole (named Slots) value) true word flagless = rw (flagless.0, flagless.1, flagless.2) refl
plain-fault rows (whole (named Slots) value) false word flagless = rw (flagless.0, flagless.1, flagless.2) refl
plain-fault rows (whole (named Cache) value) true word flagless = rw (flagless.0, flagless.1, flagless.2) refl
plain-fault rows (whole (named Cache) value) false word flagless = rw (flagless.0, flagless.1, flagless.2) refl

-- the value of an option that waited
pub value-walk : (rows : List Row) (name : OptionName) (word : Text) → IsNoFlag word
    → walked rules [] (at rows (without_value name) (waits_for name) false) word
    ≡ at rows (pending_by (whole (named name) word)) (free false) false
unfolding walked
value-walk rows Slots word flagless = rw (flagless.0, flagless.1, flagless.2) refl
value-walk rows Cache word flagless = rw (flagless.0, flagless.1, flagless.2) refl

pub value-fault : (rows : List Row) (name : OptionName) (word : Text) → IsNoFlag word
    → turn_fault shape [] (at rows (without_value name) (waits_for name) false) word ≡ []
value-fault rows Slots word flagless = rw (flagless.0, flagless.1, flagless.2) refl
value-fault rows Cache word flagless = rw (flagless.0, flagless.1, flagless.2) refl

-- the word --
pub dashes-walk : (rows : List Row) (pending : Option (Text × List Text)) (waiting : Waiting)
    → walked rules [] (at rows pending waiting false) (codes "--") ≡ at rows pending waiting true
unfolding walked
dashes-walk rows pending idle = refl
dashes-walk rows pending positional = refl
dashes-walk rows pending (option id) = refl

pub dashes-fault : (rows : List Row) (pending : Option (Text × List Text)) (waiting : Waiting)
    → turn_fault shape [] (at rows pending waiting false) (codes "--") ≡ []
dashes-fault rows pending idle = refl
dashes-fault rows pending positional = refl
dashes-fault rows pending (option id) = refl

-- a word of one - and more: no option has a short name
abbrev pub IsShort : Text → Text → Type 0
IsShort word flags = (bytes_eq word (45 ∷ 45 ∷ []) ≡ false) × (long_of word ≡ None)
    × (short_of word ≡ Some flags)

pub short-fault : (rows : List Row) (pending : Option (Text × List Text)) (waiting : Waiting) (word : Text)
    (x y : ℕ) (rest : Text) → IsShort word (x ∷ rest) → slice_get (chars (x ∷ rest)) 0 ≡ Some y
    → turn_fault shape [] (at rows pending waiting false) word ≡ kind.UnknownArgument ∷ []
unfolding flags_fault
short-fault rows pending idle word x y rest is first = rw (is.0, is.1, is.2, first) refl
short-fault rows pending positional word x y rest is first = rw (is.0, is.1, is.2, first) refl
short-fault rows pending (option id) word x y rest is first = rw (is.0, is.1, is.2, first) refl

-- a word of -- and more: a name, and maybe a value
abbrev pub IsLong : Text → Text → Option Text → Type 0
IsLong word name value = (bytes_eq word (45 ∷ 45 ∷ []) ≡ false) × (long_of word ≡ Some (name, value))

-- a name that no option has
pub unknown-fault : (rows : List Row) (pending : Option (Text × List Text)) (waiting : Waiting)
    (word name : Text) (value : Option Text) → IsLong word name value
    → bytes_eq (codes "slots") name ≡ false → bytes_eq (codes "cache") name ≡ false
    → turn_fault shape [] (at rows pending waiting false) word ≡ kind.UnknownArgument ∷ []
unknown-fault rows pending idle word name value is slots cache = rw (is.0, is.1, slots, cache) refl
unknown-fault rows pending positional word name value is slots cache = rw (is.0, is.1, slots, cache) refl
unknown-fault rows pending (option id) word name value is slots cache = rw (is.0, is.1, slots, cache) refl

-- the option has this name
abbrev pub IsName : OptionName → Text → Type 0
IsName Slots name = bytes_eq (codes "slots") name ≡ true
IsName Cache name = (bytes_eq (codes "slots") name ≡ false) × (bytes_eq (codes "cache") name ≡ true)

-- an option met while another one waits
pub late-fault : (rows : List Row) (waits : OptionName) (name : OptionName) (word text : Text)
    (value : Option Text) → IsLong word text value → IsName name text
    → turn_fault shape [] (at rows (without_value waits) (waits_for waits) false) word ≡ kind.InvalidValue ∷ []
late-fault rows Slots Slots word text None is at_ = rw (is.0, is.1, at_) refl
late-fault rows Slots Slots word text (Some value) is at_ = rw (is.0, is.1, at_) refl
late-fault rows Cache Slots word text None is at_ = rw (is.0, is.1, at_) refl
late-fault rows Cache Slots word text (Some value) is at_ = rw (is.0, is.1, at_) refl
late-fault rows Slots Cache word text None is at_ = rw (is.0, is.1, at_.0, at_.1) refl
late-fault rows Slots Cache word text (Some value) is at_ = rw (is.0, is.1, at_.0, at_.1) refl
late-fault rows Cache Cache word text None is at_ = rw (is.0, is.1, at_.0, at_.1) refl
late-fault rows Cache Cache word text (Some value) is at_ = rw (is.0, is.1, at_.0, at_.1) refl

-- an option without its value
abbrev pub NameMet : List Row → Option (Text × List Text) → Bool → OptionName → Text → Type 0
NameMet rows pending waiting name word =
    (walked rules [] (at rows pending (free waiting) false) word
    ≡ at (settled_rows rules pending rows) (without_value name) (waits_for name) false)
    × (turn_fault shape [] (at rows pending (free waiting) false) word
    ≡ settle_fault rules false (held_at rows pending))

pub name-walk : (rows : List Row) (pending : Option (Text × List Text)) (waiting : Bool)
    (name : OptionName) (word text : Text) → IsLong word text None → IsName name text
    → NameMet rows pending waiting name word
unfolding walked
name-walk rows pending true Slots word text is at_ =
    (rw (is.0, is.1, at_) refl, rw (is.0, is.1, at_) (or-nothing _))
name-walk rows pending false Slots word text is at_ =
    (rw (is.0, is.1, at_) refl, rw (is.0, is.1, at_) (or-nothing _))
name-walk rows pending true Cache word text is at_ =
    (rw (is.0, is.1, at_.0, at_.1) refl, rw (is.0, is.1, at_.0, at_.1) (or-nothing _))
name-walk rows pending false Cache word text is at_ =
    (rw (is.0, is.1, at_.0, at_.1) refl, rw (is.0, is.1, at_.0, at_.1) (or-nothing _))

-- an option with its value
abbrev pub ValueMet : List Row → Option (Text × List Text) → Bool → OptionName → Text → Text → Type 0
ValueMet rows pending waiting name value word =
    (walked rules [] (at rows pending (free waiting) false) word
    ≡ at (used_once name value (settled_rows rules pending rows)) None (free false) false)
    × (turn_fault shape [] (at rows pending (free waiting) false) word
    ≡ settle_fault rules false (held_at rows pending))

pub given-walk : (rows : List Row) (pending : Option (Text × List Text)) (waiting : Bool)
    (name : OptionName) (word text value : Text) → IsLong word text (Some value) → IsName name text
    → ValueMet rows pending waiting name value word
unfolding walked
given-walk rows pending true Slots word text value is at_ =
    (rw (is.0, is.1, at_) refl, rw (is.0, is.1, at_) (or-nothing _ ∙ or-nothing _))
given-walk rows pending false Slots word text value is at_ =
    (rw (is.0, is.1, at_) refl, rw (is.0, is.1, at_) (or-nothing _ ∙ or-nothing _))
given-walk rows pending true Cache word text value is at_ =
    (rw (is.0, is.1, at_.0, at_.1) refl, rw (is.0, is.1, at_.0, at_.1) (or-nothing _ ∙ or-nothing _))
given-walk rows pending false Cache word text value is at_ =
    (rw (is.0, is.1, at_.0, at_.1) refl, rw (is.0, is.1, at_.0, at_.1) (or-nothing _ ∙ or-nothing _))

-- ---- the words so far

pub settle-clean : (rows : List Row) (pending : Whole) (kinds : Kinds)
    → kinds ≡ settle_fault rules false (held_at rows (pending_by pending)) → kinds ≡ []
settle-clean rows pending kinds is = is ∙ fault-whole rows pending

-- what one word more comes to: it stands where it may, or it fails, or an option can't get its value
abbrev pub Turns : Option Said → Walk → Text → Type 0
Turns None w word = (turn_fault shape [] w word ≡ [] → ⊥) ⊎ IsLost (walked rules [] w word)
Turns (Some more) w word = (turn_fault shape [] w word ≡ []) × Stands (walked rules [] w word) more

pub fails : (k : ErrorKind) (kinds : Kinds) → kinds ≡ k ∷ [] → kinds ≡ [] → ⊥
fails k kinds is none = absurd (cc)

-- what the words say where no option waits, and where one does
abbrev pub free_said : List Text → List Text → List Text → Bool → Said
free_said plain slots cache trailing =
    record { plain = plain; slots = slots; cache = cache; waits = None; trailing = trailing }

abbrev pub waiting_said : List Text → List Text → List Text → OptionName → Said
waiting_said plain slots cache name =
    record { plain = plain; slots = slots; cache = cache; waits = Some name; trailing = false }

module _ (plain slots cache : List Text) (word : Text) (some : (length word == 0) ≡ false) where
  -- a word behind --
  pub turn-trailing : (rows : List Row) (pending : Whole) (waiting : Bool)
      → Follows rows (pending_by pending) (free_said plain slots cache true)
      → Turns (one_more (free_said plain slots cache true) word)
      (at rows (pending_by pending) (free waiting) true) word
  unfolding one_more
  turn-trailing rows pending waiting follows = rw some (
    trailing-fault rows pending waiting word,
    inl (record {
      rows = settled_rows rules (pending_by pending) rows;
      pending = whole words word;
      waiting = true;
      is = trailing-walk rows pending waiting word;
      follows = follows-plain rows (pending_by pending) (free_said plain slots cache true) word follows;
      none = refl;
    }),
  )

  -- a plain word where no option waits
  pub turn-plain : (rows : List Row) (pending : Whole) (waiting : Bool) → is_plain word ≡ true
      → Follows rows (pending_by pending) (free_said plain slots cache false)
      → Turns (one_more (free_said plain slots cache false) word)
      (at rows (pending_by pending) (free waiting) false) word
  unfolding one_more
  turn-plain rows pending waiting plain_ follows = rw (some, plain_) (
    plain-fault rows pending waiting word (no-flag word plain_),
    inl (record {
      rows = settled_rows rules (pending_by pending) rows;
      pending = whole words word;
      waiting = true;
      is = plain-walk rows pending waiting word (no-flag word plain_);
      follows = follows-plain rows (pending_by pending) (free_said plain slots cache false) word follows;
      none = refl;
    }),
  )

  -- the value of an option that waits
  pub turn-value : (rows : List Row) (name : OptionName) → is_plain word ≡ true
      → Follows rows (without_value name) (waiting_said plain slots cache name)
      → Turns (one_more (waiting_said plain slots cache name) word)
      (at rows (without_value name) (waits_for name) false) word
  unfolding one_more
  turn-value rows Slots plain_ follows = rw (some, plain_) (
    value-fault rows Slots word (no-flag word plain_),
    inl (record {
      rows = rows;
      pending = whole (named Slots) word;
      waiting = false;
      is = value-walk rows Slots word (no-flag word plain_);
      follows = follows-value rows (waiting_said plain slots cache Slots) Slots word
          (bare rows Slots (waiting_said plain slots cache Slots) follows);
      none = refl;
    }),
  )
  turn-value rows Cache plain_ follows = rw (some, plain_) (
    value-fault rows Cache word (no-flag word plain_),
    inl (record {
      rows = rows;
      pending = whole (named Cache) word;
      waiting = false;
      is = value-walk rows Cache word (no-flag word plain_);
      follows = follows-value rows (waiting_said plain slots cache Cache) Cache word
          (bare rows Cache (waiting_said plain slots cache Cache) follows);
      none = refl;
    }),
  )

-- ---- a word of -- and more

-- its name and its value, as clap reads them
pub long-read : (c : ℕ) (rest : Text) → long_of (45 ∷ 45 ∷ c ∷ rest)
    ≡ Some (before_first (λ x. x == 61) (c ∷ rest), value_in (c ∷ rest))
long-read c rest = refl

-- what a name and a value say
abbrev pub Named : Text → Option Text → Said → Option Said → Type 0
Named text value said more = named_said text value said ≡ more

-- which option has the name, if any
pub name-of : (text : Text) → ((name : OptionName) × IsName name text)
    ⊎ ((bytes_eq (codes "slots") text ≡ false) × (bytes_eq (codes "cache") text ≡ false))
name-of text = elim (cases_Bool (bytes_eq (codes "slots") text)) [
  | inl slots ↦ inl (Slots, slots)
  | inr other ↦ elim (cases_Bool (bytes_eq (codes "cache") text)) [
    | inl cache ↦ inl (Cache, (other, cache))
    | inr neither_ ↦ inr (other, neither_)
  ]
]

pub named-is : (name : OptionName) (text : Text) (value : Option Text) (said : Said) → IsName name text
    → named_said text value said ≡ Some (option_said name value said)
named-is Slots text value said is = rw is refl
named-is Cache text value said is = rw (is.0, is.1) refl

pub named-none : (text : Text) (value : Option Text) (said : Said) → bytes_eq (codes "slots") text ≡ false
    → bytes_eq (codes "cache") text ≡ false → named_said text value said ≡ None
named-none text value said slots cache = rw (slots, cache) refl

module _ (plain slots cache : List Text) (word text : Text) (value : Option Text)
    (long : IsLong word text value) where
  -- an option's word where none waits
  pub turn-named : (rows : List Row) (pending : Whole) (waiting : Bool)
      → Follows rows (pending_by pending) (free_said plain slots cache false)
      → Turns (named_said text value (free_said plain slots cache false))
      (at rows (pending_by pending) (free waiting) false) word
  turn-named rows pending waiting follows = elim (name-of text) [
    | inl known ↦ subst (λ o. Turns o (at rows (pending_by pending) (free waiting) false) word)
        (sym (named-is known.0 text value (free_said plain slots cache false) known.1))
        (by known.0 value long known.1)
    | inr other ↦ subst (λ o. Turns o (at rows (pending_by pending) (free waiting) false) word)
        (sym (named-none text value (free_said plain slots cache false) other.0 other.1))
        (inl (fails _ _ (unknown-fault rows (pending_by pending) (free waiting) word text value long
        other.0 other.1)))
  ]
    where
      by : (name : OptionName) (v : Option Text) → IsLong word text v → IsName name text
          → Turns (Some (option_said name v (free_said plain slots cache false)))
          (at rows (pending_by pending) (free waiting) false) word
      by name None is at_ =
          let met = name-walk rows (pending_by pending) waiting name word text is at_ in (
            settle-clean rows pending _ met.1,
            inr (record {
              rows = settled_rows rules (pending_by pending) rows;
              name = name;
              is = met.0;
              follows = follows-name rows (pending_by pending) (free_said plain slots cache false) name
                  follows;
              some = refl;
              open_ = refl;
            }),
          )
      by Slots (Some v) is at_ =
          let met = given-walk rows (pending_by pending) waiting Slots word text v is at_ in (
            settle-clean rows pending _ met.1,
            inl (record {
              rows = used_once Slots v (settled_rows rules (pending_by pending) rows);
              pending = nothing;
              waiting = false;
              is = met.0;
              follows = follows-value (settled_rows rules (pending_by pending) rows)
                  (free_said plain slots cache false) Slots v follows;
              none = refl;
            }),
          )
      by Cache (Some v) is at_ =
          let met = given-walk rows (pending_by pending) waiting Cache word text v is at_ in (
            settle-clean rows pending _ met.1,
            inl (record {
              rows = used_once Cache v (settled_rows rules (pending_by pending) rows);
              pending = nothing;
              waiting = false;
              is = met.0;
              follows = follows-value (settled_rows rules (pending_by pending) rows)
                  (free_said plain slots cache false) Cache v follows;
              none = refl;
            }),
          )

-- an option's word where another option waits
pub late : (rows : List Row) (waits : OptionName) (word text : Text) (value : Option Text)
    → IsLong word text value
    → turn_fault shape [] (at rows (without_value waits) (waits_for waits) false) word ≡ [] → ⊥
late rows waits word text value long = elim (name-of text) [
  | inl known ↦ fails _ _ (late-fault rows waits known.0 word text value long known.1)
  | inr other ↦ fails _ _ (unknown-fault rows (without_value waits) (waits_for waits) word text value
      long other.0 other.1)
]

-- a word of one - and more
pub short-read : (x : ℕ) (rest : Text) → (x == 45) ≡ false → IsShort (45 ∷ x ∷ rest) (x ∷ rest)
short-read x rest other = (rw other refl, rw other refl, rw other refl)

-- what a word that isn't plain says
pub dashed-short : (x : ℕ) (rest : Text) (said : Said) → (x == 45) ≡ false
    → dashed_said (45 ∷ x ∷ rest) said ≡ None
dashed-short x rest said other = rw other refl

pub dashed-long : (c : ℕ) (rest : Text) (said : Said) → dashed_said (45 ∷ 45 ∷ c ∷ rest) said
    ≡ named_said (before_first (λ x. x == 61) (c ∷ rest)) (value_in (c ∷ rest)) said
dashed-long c rest said = refl

-- ---- any word

-- all later words are plain
pub same-follows : (rows : List Row) (pending : Option (Text × List Text)) (plain slots cache : List Text)
    → Follows rows pending (free_said plain slots cache false)
    → Follows rows pending (free_said plain slots cache true)
same-follows rows pending plain slots cache follows words = follows words
same-follows rows pending plain slots cache follows (named Slots) = follows (named Slots)
same-follows rows pending plain slots cache follows (named Cache) = follows (named Cache)

module _ (plain slots cache : List Text) where
  -- a word that isn't plain, where no option waits
  pub turn-dashed : (x : ℕ) (rest : Text) → IsUtf8 (45 ∷ x ∷ rest) → (rows : List Row) (pending : Whole)
      (waiting : Bool) → Follows rows (pending_by pending) (free_said plain slots cache false)
      → Turns (word_said (45 ∷ x ∷ rest) (free_said plain slots cache false))
      (at rows (pending_by pending) (free waiting) false) (45 ∷ x ∷ rest)
  turn-dashed x rest good rows pending waiting follows = elim (cases_Bool (x == 45)) [
    | inr other ↦
        let first = first-char x rest good in
        rw other (inl (fails _ _ (short-fault rows (pending_by pending) (free waiting) (45 ∷ x ∷ rest) x
        first.0 rest (short-read x rest other) first.1)))
    | inl dash ↦ by (eqb-true x 45 dash) rest
  ]
    where
      by : x ≡ 45 → (rest : Text)
          → Turns (word_said (45 ∷ x ∷ rest) (free_said plain slots cache false))
          (at rows (pending_by pending) (free waiting) false) (45 ∷ x ∷ rest)
      by same [] = subst (λ y. Turns (word_said (45 ∷ y ∷ []) (free_said plain slots cache false))
          (at rows (pending_by pending) (free waiting) false) (45 ∷ y ∷ [])) (sym same) (
            dashes-fault rows (pending_by pending) (free waiting),
            inl (record {
              rows = rows;
              pending = pending;
              waiting = waiting;
              is = dashes-walk rows (pending_by pending) (free waiting);
              follows = same-follows rows (pending_by pending) plain slots cache follows;
              none = refl;
            }),
          )
      by same (c ∷ more) = subst (λ y. Turns
          (word_said (45 ∷ y ∷ c ∷ more) (free_said plain slots cache false))
          (at rows (pending_by pending) (free waiting) false) (45 ∷ y ∷ c ∷ more)) (sym same)
          (turn-named plain slots cache (45 ∷ 45 ∷ c ∷ more) (before_first (λ x. x == 61) (c ∷ more))
          (value_in (c ∷ more)) (refl, refl) rows pending waiting follows)

  -- the same where an option waits
  pub turn-late : (x : ℕ) (rest : Text) → IsUtf8 (45 ∷ x ∷ rest) → (rows : List Row) (name : OptionName)
      → Turns None (at rows (without_value name) (waits_for name) false) (45 ∷ x ∷ rest)
  turn-late x rest good rows name = elim (cases_Bool (x == 45)) [
    | inr other ↦
        let first = first-char x rest good in
        inl (fails _ _ (short-fault rows (without_value name) (waits_for name) (45 ∷ x ∷ rest) x
        first.0 rest (short-read x rest other) first.1))
    | inl dash ↦ by (eqb-true x 45 dash) rest
  ]
    where
      by : x ≡ 45 → (rest : Text) → Turns None (at rows (without_value name) (waits_for name) false)
          (45 ∷ x ∷ rest)
      by same [] = subst (λ y. Turns None (at rows (without_value name) (waits_for name) false)
          (45 ∷ y ∷ [])) (sym same) (inr (record {
            rows = rows;
            name = name;
            is = dashes-walk rows (without_value name) (waits_for name);
          }))
      by same (c ∷ more) = subst (λ y. Turns None (at rows (without_value name) (waits_for name) false)
          (45 ∷ y ∷ c ∷ more)) (sym same)
          (inl (late rows name (45 ∷ 45 ∷ c ∷ more) (before_first (λ x. x == 61) (c ∷ more))
          (value_in (c ∷ more)) (refl, refl)))

  pub one-free : (word : Text) → (length word == 0) ≡ false
      → one_more (free_said plain slots cache false) word
      ≡ word_said word (free_said plain slots cache false)
  unfolding one_more
  one-free word some = rw some refl

  pub one-late : (word : Text) (name : OptionName) → (length word == 0) ≡ false → is_plain word ≡ false
      → one_more (waiting_said plain slots cache name) word ≡ None
  unfolding one_more
  one-late word name some dashed_ = rw (some, dashed_) refl

-- a word as a text
abbrev pub IsWord : Text → Type 0
IsWord word = ((length word == 0) ≡ false) × IsUtf8 word

pub as-free : (said : Said) → said.waits ≡ None
    → said ≡ free_said said.plain said.slots said.cache said.trailing
as-free said none = ap (λ w. record said { waits = w }) none

pub as-waiting : (said : Said) (name : OptionName) → said.waits ≡ Some name → said.trailing ≡ false
    → said ≡ waiting_said said.plain said.slots said.cache name
as-waiting said name some open_ = ap (λ w. record said { waits = w }) some
    ∙ ap (λ t. record said { waits = Some name; trailing = t }) open_

pub turn-free : (word : Text) → IsWord word → (plain slots cache : List Text) (trailing : Bool)
    (rows : List Row) (pending : Whole) (waiting : Bool)
    → Follows rows (pending_by pending) (free_said plain slots cache trailing)
    → Turns (one_more (free_said plain slots cache trailing) word)
    (at rows (pending_by pending) (free waiting) trailing) word
turn-free word good plain slots cache true rows pending waiting follows =
    turn-trailing plain slots cache word good.0 rows pending waiting follows
turn-free word good plain slots cache false rows pending waiting follows =
    elim (cases_Bool (is_plain word)) [
      | inl plain_ ↦ turn-plain plain slots cache word good.0 rows pending waiting plain_ follows
      | inr other ↦
          let d = dashed word other in
          subst (λ o. Turns o (at rows (pending_by pending) (free waiting) false) word)
          (sym (one-free plain slots cache word good.0))
          (subst (λ v. Turns (word_said v (free_said plain slots cache false))
          (at rows (pending_by pending) (free waiting) false) v) (sym d.2)
          (turn-dashed plain slots cache d.0 d.1 (subst IsUtf8 d.2 good.1) rows pending waiting follows))
    ]

pub turn-waiting : (word : Text) → IsWord word → (plain slots cache : List Text) (name : OptionName)
    (rows : List Row) → Follows rows (without_value name) (waiting_said plain slots cache name)
    → Turns (one_more (waiting_said plain slots cache name) word)
    (at rows (without_value name) (waits_for name) false) word
turn-waiting word good plain slots cache name rows follows = elim (cases_Bool (is_plain word)) [
  | inl plain_ ↦ turn-value plain slots cache word good.0 rows name plain_ follows
  | inr other ↦
      let d = dashed word other in
      subst (λ o. Turns o (at rows (without_value name) (waits_for name) false) word)
      (sym (one-late plain slots cache word name good.0 other))
      (subst (λ v. Turns None (at rows (without_value name) (waits_for name) false) v) (sym d.2)
      (turn-late plain slots cache d.0 d.1 (subst IsUtf8 d.2 good.1) rows name))
]

pub turn : (word : Text) → IsWord word → (w : Walk) (said : Said) → Stands w said
    → Turns (one_more said word) w word
turn word good w said (inl is) =
    let e = as-free said is.none in
    subst (λ s. Turns (one_more s word) w word) (sym e)
    (subst (λ v. Turns (one_more (free_said said.plain said.slots said.cache said.trailing) word) v word)
    (sym is.is)
    (turn-free word good said.plain said.slots said.cache said.trailing is.rows is.pending is.waiting
    (subst (Follows is.rows (pending_by is.pending)) e is.follows)))
turn word good w said (inr is) =
    let e = as-waiting said is.name is.some is.open_ in
    subst (λ s. Turns (one_more s word) w word) (sym e)
    (subst (λ v. Turns (one_more (waiting_said said.plain said.slots said.cache is.name) word) v word)
    (sym is.is)
    (turn-waiting word good said.plain said.slots said.cache is.name is.rows
    (subst (Follows is.rows (without_value is.name)) e is.follows)))
