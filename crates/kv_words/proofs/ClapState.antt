-- The command as clap builds it, and where a walk over words stands.
use Rattle.std.proofs.Common.{◌≡◌, ◌⊎◌, inl, inr, ℕ, Bool, true, false, List, [], ◌∷◌}
use Rattle.std.proofs.Common.{◌++◌, Option, Some, None, codes, refl, sym}
use Rattle.std.proofs.Common.{ap, ◌∙◌, append-nil}
use Rattle.std.specs.Str.{bytes_eq}
use Rattle.std.proofs.lemmas.Bool.{cases_Bool}
use Rattle.std.proofs.lemmas.Slice.Eq.{bytes_eq-Decides}
use Rattle.clap.specs.Walk.{Row, Rule, Held, Walk, Waiting, idle, option, positional, with_values}
use Rattle.clap.specs.Walk.{settled_rows}
use Rattle.clap.specs.Simple.{Shape, built}
use Rattle.clap.specs.Simple.{is_simple}
use Rattle.clap.specs.Faults.{settle_fault}
use Rattle.clap.specs.Faults.{is_simple_and_free}
use Rattle.clap.specs.declared.builder.action.ArgAction.TheVariants.{Append}
use Rattle.clap.specs.declared.builder.value_parser.Reading.{Reading}
use Rattle.clap.specs.declared.builder.value_parser.ValueParser.TheVariants as parsers
use Rattle.clap.specs.declared.error.kind.ErrorKind.TheVariants as kind
use Rattle.clap.specs.declared.parser.matches.ValueSource.{ValueSource}
use Rattle.kv_words.specs.Words.{Text, Said, OptionName, Slots, Cache}
use Rattle.kv_words.specs.Words.{with_plain, with_value, option_said}
use Rattle.kv_words.specs.Parsed.{asked_app, values_at}

-- ---- the command

-- what building makes of it
abbrev pub rule : Text → Option Text → Option ℕ → Rule
rule id long index = record {
  id = id;
  long = long;
  aliases = [];
  short = None;
  short_aliases = [];
  index = index;
  action = Some Append;
  range = Some (record { start_inclusive = 1; end_inclusive = 1 });
  value_names = 0;
  defaults = [];
  missing = [];
  trailing_var_arg = false;
  parser = Some parsers.String;
  ignore_case = false;
  required = false;
  is_simple = true;
  is_free = true;
}

abbrev pub slots_rule : Rule
slots_rule = rule (codes "slots") (Some (codes "slots")) None

abbrev pub cache_rule : Rule
cache_rule = rule (codes "cache") (Some (codes "cache")) None

abbrev pub rules : List Rule
rules = rule (codes "words") None (Some 1) ∷ slots_rule ∷ cache_rule ∷ []

abbrev pub shape : Shape
shape = record {
  name = codes "kvell";
  aliases = [];
  rules = rules;
  is_plain = true;
  is_leaf = true;
  no_binary_name = true;
  disable_help_flag = true;
  disable_help_subcommand = true;
  disable_version_flag = true;
  propagate_version = false;
  has_version = false;
  has_long_version = false;
  args_override_self = false;
  arg_required_else_help = false;
  subcommand_required = false;
  subcommand_negates_reqs = false;
  is_built = true;
}

pub built-is : built asked_app ≡ record { top = shape; subs = [] }
built-is = refl

pub simple : is_simple asked_app ≡ true
simple = refl

pub simple-and-free : is_simple_and_free asked_app ≡ true
simple-and-free = refl

-- ---- rows

pub values-here : (id : Text) (how : Reading) (s : ValueSource) (vs : List Text) (rows : List Row)
    → values_at id (with_values id how s vs rows) ≡ values_at id rows ++ vs
values-here id how s vs [] = rw ((bytes_eq-Decides id id).1 refl) refl
values-here id how s vs (r ∷ rs) = elim (cases_Bool (bytes_eq r.id id)) [
  | inl same ↦ rw same (rw same refl)
  | inr other ↦ rw other (rw other (values-here id how s vs rs))
]

pub values-other : (id other : Text) (how : Reading) (s : ValueSource) (vs : List Text) (rows : List Row)
    → bytes_eq id other ≡ false → values_at other (with_values id how s vs rows) ≡ values_at other rows
values-other id other how s vs [] differ = rw differ refl
values-other id other how s vs (r ∷ rs) differ = elim (cases_Bool (bytes_eq r.id id)) [
  | inl same ↦
      let skip : bytes_eq r.id other ≡ false =
      ap (λ t. bytes_eq t other) ((bytes_eq-Decides r.id id).0 same) ∙ differ in
      rw same (rw skip refl)
  | inr unlike ↦ rw unlike (elim (cases_Bool (bytes_eq r.id other)) [
    | inl here ↦ rw here refl
    | inr there ↦ rw there (values-other id other how s vs rs differ)
  ])
]

-- ---- where a walk stands

-- an argument
pub data Place : Type 0 where
  words : Place
  named : OptionName → Place

abbrev pub id_of : Place → Text
id_of words = codes "words"
id_of (named Slots) = codes "slots"
id_of (named Cache) = codes "cache"

-- its values, by what the words say
abbrev pub said_of : Place → Said → List Text
said_of words said = said.plain
said_of (named Slots) said = said.slots
said_of (named Cache) said = said.cache

-- nothing is pending, or a use with its value
pub data Whole : Type 0 where
  nothing : Whole
  whole : Place → Text → Whole

abbrev pub pending_by : Whole → Option (Text × List Text)
pending_by nothing = None
pending_by (whole place value) = Some (id_of place, value ∷ [])

-- no option waits
abbrev pub free : Bool → Waiting
free true = positional
free false = idle

abbrev pub held_at : List Row → Option (Text × List Text) → Held
held_at rows pending = record { rows = rows; pending = pending; skip = 0 }

abbrev pub at : List Row → Option (Text × List Text) → Waiting → Bool → Walk
at rows pending waiting trailing = record {
  held = held_at rows pending;
  waiting = waiting;
  position = 1;
  is_trailing = trailing;
  stopped = None;
}

abbrev pub without_value : OptionName → Option (Text × List Text)
without_value name = Some (id_of (named name), [])

abbrev pub waits_for : OptionName → Waiting
waits_for name = option (id_of (named name))

-- the values so far are those of the words so far
abbrev pub Follows : List Row → Option (Text × List Text) → Said → Type 0
Follows rows pending said =
    (place : Place) → values_at (id_of place) (settled_rows rules pending rows) ≡ said_of place said

-- no option waits for its value
pub record IsFree (w : Walk) (said : Said) : Type 0 where
  pub rows : List Row
  pub pending : Whole
  pub waiting : Bool
  pub is : w ≡ at rows (pending_by pending) (free waiting) said.trailing
  pub follows : Follows rows (pending_by pending) said
  pub none : said.waits ≡ None

-- one does
pub record IsWaiting (w : Walk) (said : Said) : Type 0 where
  pub rows : List Row
  pub name : OptionName
  pub is : w ≡ at rows (without_value name) (waits_for name) false
  pub follows : Follows rows (without_value name) said
  pub some : said.waits ≡ Some name
  pub open_ : said.trailing ≡ false

abbrev pub Stands : Walk → Said → Type 0
Stands w said = IsFree w said ⊎ IsWaiting w said

-- an option can never get its value
pub record IsLost (w : Walk) : Type 0 where
  pub rows : List Row
  pub name : OptionName
  pub is : w ≡ at rows (without_value name) (waits_for name) true

-- ---- settling

pub fault-whole : (rows : List Row) (pending : Whole)
    → settle_fault rules false (held_at rows (pending_by pending)) ≡ []
fault-whole rows nothing = refl
fault-whole rows (whole words value) = refl
fault-whole rows (whole (named Slots) value) = refl
fault-whole rows (whole (named Cache) value) = refl

pub fault-without : (rows : List Row) (name : OptionName)
    → settle_fault rules false (held_at rows (without_value name)) ≡ kind.InvalidValue ∷ []
fault-without rows Slots = refl
fault-without rows Cache = refl

-- a plain word more
pub follows-plain : (rows : List Row) (pending : Option (Text × List Text)) (said : Said) (word : Text)
    → Follows rows pending said
    → Follows (settled_rows rules pending rows) (pending_by (whole words word)) (with_plain word said)
follows-plain rows pending said word follows words =
    values-here (codes "words") _ _ (word ∷ []) (settled_rows rules pending rows)
    ∙ ap (λ t. t ++ word ∷ []) (follows words)
follows-plain rows pending said word follows (named Slots) =
    values-other (codes "words") (codes "slots") _ _ (word ∷ []) (settled_rows rules pending rows) refl
    ∙ follows (named Slots)
follows-plain rows pending said word follows (named Cache) =
    values-other (codes "words") (codes "cache") _ _ (word ∷ []) (settled_rows rules pending rows) refl
    ∙ follows (named Cache)

-- an option without its value
pub follows-name : (rows : List Row) (pending : Option (Text × List Text)) (said : Said)
    (name : OptionName) → Follows rows pending said
    → Follows (settled_rows rules pending rows) (without_value name) (option_said name None said)
follows-name rows pending said Slots follows words =
    values-other (codes "slots") (codes "words") _ _ [] (settled_rows rules pending rows) refl
    ∙ follows words
follows-name rows pending said Slots follows (named Slots) =
    values-here (codes "slots") _ _ [] (settled_rows rules pending rows)
    ∙ append-nil _ ∙ follows (named Slots)
follows-name rows pending said Slots follows (named Cache) =
    values-other (codes "slots") (codes "cache") _ _ [] (settled_rows rules pending rows) refl
    ∙ follows (named Cache)
follows-name rows pending said Cache follows words =
    values-other (codes "cache") (codes "words") _ _ [] (settled_rows rules pending rows) refl
    ∙ follows words
follows-name rows pending said Cache follows (named Slots) =
    values-other (codes "cache") (codes "slots") _ _ [] (settled_rows rules pending rows) refl
    ∙ follows (named Slots)
follows-name rows pending said Cache follows (named Cache) =
    values-here (codes "cache") _ _ [] (settled_rows rules pending rows)
    ∙ append-nil _ ∙ follows (named Cache)

-- a use of an option with its value
abbrev pub used_once : OptionName → Text → List Row → List Row
used_once name value rows = settled_rows rules (Some (id_of (named name), value ∷ [])) rows

pub follows-value : (rows : List Row) (said : Said) (name : OptionName) (value : Text)
    → ((place : Place) → values_at (id_of place) rows ≡ said_of place said)
    → (place : Place)
    → values_at (id_of place) (used_once name value rows) ≡ said_of place (with_value name value said)
follows-value rows said Slots value follows words =
    values-other (codes "slots") (codes "words") _ _ (value ∷ []) rows refl ∙ follows words
follows-value rows said Slots value follows (named Slots) =
    values-here (codes "slots") _ _ (value ∷ []) rows
    ∙ ap (λ t. t ++ value ∷ []) (follows (named Slots))
follows-value rows said Slots value follows (named Cache) =
    values-other (codes "slots") (codes "cache") _ _ (value ∷ []) rows refl ∙ follows (named Cache)
follows-value rows said Cache value follows words =
    values-other (codes "cache") (codes "words") _ _ (value ∷ []) rows refl ∙ follows words
follows-value rows said Cache value follows (named Slots) =
    values-other (codes "cache") (codes "slots") _ _ (value ∷ []) rows refl ∙ follows (named Slots)
follows-value rows said Cache value follows (named Cache) =
    values-here (codes "cache") _ _ (value ∷ []) rows
    ∙ ap (λ t. t ++ value ∷ []) (follows (named Cache))

-- an option that waits has added no value
pub bare : (rows : List Row) (name : OptionName) (said : Said) → Follows rows (without_value name) said
    → (place : Place) → values_at (id_of place) rows ≡ said_of place said
bare rows Slots said follows words =
    sym (values-other (codes "slots") (codes "words") _ _ [] rows refl) ∙ follows words
bare rows Slots said follows (named Slots) = sym (append-nil _)
    ∙ sym (values-here (codes "slots") _ _ [] rows) ∙ follows (named Slots)
bare rows Slots said follows (named Cache) =
    sym (values-other (codes "slots") (codes "cache") _ _ [] rows refl) ∙ follows (named Cache)
bare rows Cache said follows words =
    sym (values-other (codes "cache") (codes "words") _ _ [] rows refl) ∙ follows words
bare rows Cache said follows (named Slots) =
    sym (values-other (codes "cache") (codes "slots") _ _ [] rows refl) ∙ follows (named Slots)
bare rows Cache said follows (named Cache) = sym (append-nil _)
    ∙ sym (values-here (codes "cache") _ _ [] rows) ∙ follows (named Cache)
