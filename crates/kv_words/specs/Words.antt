-- The words of a command.
use Rattle.std.specs.Prelude.{◌≡◌, ◌≤◌, ◌^◌, ℕ, ◌==◌, ◌||◌, not, List, [], ◌∷◌, ◌++◌, length, codes}
use Rattle.std.specs.Prelude.{Bool, true, false, Option, None, Some, if◌then◌else◌}
use Rattle.std.specs.Prelude.{count_by}
use Rattle.std.specs.List.{list_any, before_first, after_first}
use Rattle.std.specs.Prelude.{option_and_then}
use Rattle.std.specs.Str.{bytes_eq}
use Rattle.std.specs.Str.Parse.{IsNumeral, digits_value, without_leading_plus}
use Rattle.kv_base.specs.declared.limits.Limits.{Limits}

-- a word, as its bytes
abbrev pub Text : Type 0
Text = List ℕ

-- an option of a command
pub data OptionName : Type 0 where
  Slots : OptionName
  Cache : OptionName

-- what the words behind a command say: the plain ones in order, the values of each option in order,
-- the option whose value comes next, and whether all later words are plain
pub record Said : Type 0 where
  pub plain : List Text
  pub slots : List Text
  pub cache : List Text
  pub waits : Option OptionName
  pub trailing : Bool

-- before the first of them
abbrev pub nothing_said : Said
nothing_said = record { plain = []; slots = []; cache = []; waits = None; trailing = false }

-- one plain word more
abbrev pub with_plain : Text → Said → Said
with_plain word said = record said { plain = said.plain ++ word ∷ [] }

-- one value of an option more, for which none waits then
abbrev pub with_value : OptionName → Text → Said → Said
with_value Slots value said = record said { slots = said.slots ++ value ∷ []; waits = None }
with_value Cache value said = record said { cache = said.cache ++ value ∷ []; waits = None }

-- the word begins with -
abbrev pub is_dashed : Text → Bool
is_dashed [] = false
is_dashed (c ∷ rest) = c == 45

-- the word is plain wherever it stands: it is - alone, or doesn't begin with -
abbrev pub is_plain : Text → Bool
is_plain word = not (is_dashed word) || bytes_eq word (codes "-")

-- an option with the value that stands behind = in its word, or else without one
abbrev pub option_said : OptionName → Option Text → Said → Said
option_said name None said = record said { waits = Some name }
option_said name (Some value) said = with_value name value said

-- an option by its name, with the value that comes with it
abbrev pub named_said : Text → Option Text → Said → Option Said
named_said name value said = if bytes_eq (codes "slots") name then Some (option_said Slots value said)
    else if bytes_eq (codes "cache") name then Some (option_said Cache value said)
    else None

-- what stands behind the front in a word that begins with it
abbrev pub rest_behind : Text → Text → Option Text
rest_behind [] word = Some word
rest_behind (c ∷ front) [] = None
rest_behind (c ∷ front) (x ∷ word) = if x == c then rest_behind front word else None

-- the value behind the first = (61), if there is one
abbrev pub value_in : Text → Option Text
value_in text = if list_any (λ c. c == 61) text then Some (after_first (λ c. c == 61) text) else None

-- --NAME, or --NAME=VALUE
abbrev pub dashed_said : Text → Said → Option Said
dashed_said word said =
    option_and_then (λ text. named_said (before_first (λ c. c == 61) text) (value_in text) said)
    (rest_behind (codes "--") word)

-- a word where none was waited for: a plain one, --, or an option
abbrev pub word_said : Text → Said → Option Said
word_said word said = if is_plain word then Some (with_plain word said)
    else if bytes_eq word (codes "--") then Some (record said { trailing = true })
    else dashed_said word said

-- a word where the value of an option is waited for, which is a plain one, or not
abbrev pub next_said : Option OptionName → Text → Said → Option Said
next_said (Some name) word said = if is_plain word then Some (with_value name word said) else None
next_said None word said = word_said word said

-- one word more; none may be empty
unfoldable pub one_more : Said → Text → Option Said
one_more said word = if length word == 0 then None
    else if said.trailing then Some (with_plain word said)
    else next_said said.waits word said

-- all words, if each of them may stand where it does
abbrev pub all_said : Said → List Text → Option Said
all_said said [] = Some said
all_said said (word ∷ words) = option_and_then (λ more. all_said more words) (one_more said word)

-- what was said: the plain words and the values of each option, in order
pub record Line : Type 0 where
  pub plain : List Text
  pub slots : List Text
  pub cache : List Text

-- all that was said
abbrev pub line_of : Said → Line
line_of said = record { plain = said.plain; slots = said.slots; cache = said.cache }

-- the words say this, and no option waits for its value
pub record Tells (words : List Text) (line : Line) : Type 0 where
  pub said : Said
  pub all : all_said nothing_said words ≡ Some said
  pub none_waits : said.waits ≡ None
  pub line_is : line ≡ line_of said

-- the text is this number: an optional + and digits
pub record IsNumber (text : Text) (number : ℕ) : Type 0 where
  pub digits : IsNumeral 10 (without_leading_plus text)
  pub value : number ≡ digits_value 10 (without_leading_plus text)

-- the same in a range
pub record IsNumberIn (least most : ℕ) (text : Text) (number : ℕ) : Type 0 where
  pub is : IsNumber text number
  pub low : least ≤ number
  pub high : number ≤ most

-- the number from 1 on that an option names, once, or what stands for it where it isn't there
abbrev pub IsLimit : ℕ → ℕ → List Text → ℕ → Type 0
IsLimit most otherwise [] number = number ≡ otherwise
IsLimit most otherwise (text ∷ []) number = IsNumberIn 1 most text number
IsLimit most otherwise (text ∷ other ∷ texts) number = ⊥

-- the limits that the options name; else 2^20 slots of each class and 256 pages
pub record AreLimitsOf (line : Line) (limits : Limits) : Type 0 where
  pub slots : IsLimit (2 ^ 24) (2 ^ 20) line.slots limits.slots
  pub cache : IsLimit 1024 256 line.cache limits.cache

-- no option is there
abbrev pub HasNoOption : Line → Type 0
HasNoOption line = (line.slots ≡ []) × (line.cache ≡ [])

-- where the bytes of a session come from, and where they go to
pub record Ends : Type 0 where
  pub input : Text
  pub output : Text

-- the words of sessions: two for each
abbrev pub words_of : List Ends → List Text
words_of [] = []
words_of (ends ∷ sessions) = ends.input ∷ ends.output ∷ words_of sessions

-- whether the session reads standard input
abbrev pub reads_standard : Ends → Bool
reads_standard ends = bytes_eq ends.input (codes "-")

-- whether the session writes to standard output
abbrev pub writes_standard : Ends → Bool
writes_standard ends = bytes_eq ends.output (codes "-")

-- 1 to 8 sessions, of which at most one reads standard input and at most one writes to standard output
pub record AreSessions (sessions : List Ends) : Type 0 where
  pub some : 1 ≤ length sessions
  pub most : length sessions ≤ 8
  pub one_reads : count_by reads_standard sessions ≤ 1
  pub one_writes : count_by writes_standard sessions ≤ 1

-- the words of sessions over workers: the folder of their store, the number of workers, the limits of
-- each, and the ends of each session
pub record Serving : Type 0 where
  pub folder : Text
  pub workers : ℕ
  pub limits : Limits
  pub sessions : List Ends

-- DIR N IN OUT with further pairs IN OUT and with options, where N is 1 to 16
pub record SaysServe (line : Line) (serving : Serving) : Type 0 where
  pub number : Text
  pub plain : line.plain ≡ serving.folder ∷ number ∷ words_of serving.sessions
  pub workers : IsNumberIn 1 16 number serving.workers
  pub sessions : AreSessions serving.sessions
  pub limits : AreLimitsOf line serving.limits

-- the words of a report: the folder and the number of workers
pub record Reporting : Type 0 where
  pub folder : Text
  pub workers : ℕ

-- DIR N without options
pub record SaysReport (line : Line) (reporting : Reporting) : Type 0 where
  pub workers : Text
  pub plain : line.plain ≡ reporting.folder ∷ workers ∷ []
  pub number : IsNumberIn 1 16 workers reporting.workers
  pub options : HasNoOption line

-- a command
pub data Asked : Type 0 where
  serve : Serving → Asked
  check : Reporting → Asked
  dump : Reporting → Asked

-- the words behind the first one say this of a command
abbrev pub Says : Line → Asked → Type 0
Says line (serve serving) = SaysServe line serving
Says line (check reporting) = SaysReport line reporting
Says line (dump reporting) = SaysReport line reporting

-- the first word of a command
abbrev pub first_word : Asked → Text
first_word (serve serving) = codes "serve"
first_word (check reporting) = codes "check"
first_word (dump reporting) = codes "dump"

-- the words are those of the command
pub record Asks (words : List Text) (asked : Asked) : Type 0 where
  pub rest : List Text
  pub said : Said
  pub words_are : words ≡ first_word asked ∷ rest
  pub all : all_said nothing_said rest ≡ Some said
  pub none_waits : said.waits ≡ None
  pub says : Says (line_of said) asked
