-- How clap sees the words: any number of plain words, and two options with any number of values.
use Rattle.std.specs.Prelude.{List, [], Option, None, Some, true, codes, unwrap_or}
use Rattle.clap.specs.Matches.{found_of}
use Rattle.clap.specs.Simple.{App, new_rule, new_shape, with_rule}
use Rattle.clap.specs.Walk.{Rule, Row, all_of, rows_of}
use Rattle.clap.specs.declared.builder.action.ArgAction.TheVariants.{Append}
use Rattle.clap.specs.declared.parser.matches.ArgMatches.{ArgMatches}
use Rattle.kv_words.specs.Words.{Line, Text}

-- an argument that may have any number of values
abbrev pub asked_rule : Text → Option Text → Rule
asked_rule id long = record (new_rule id) { long = long; action = Some Append }

-- the command of clap: no word before them is the program's name, and it has no other flag
abbrev pub asked_app : App
asked_app = with_rule (with_rule (with_rule (record {
  top = record (new_shape (codes "kvell")) {
    no_binary_name = true;
    disable_help_flag = true;
    disable_version_flag = true;
  };
  subs = [];
}) (asked_rule (codes "words") None)) (asked_rule (codes "slots") (Some (codes "slots"))))
    (asked_rule (codes "cache") (Some (codes "cache")))

-- the values of an argument
abbrev pub values_at : Text → List Row → List Text
values_at id rows = unwrap_or (all_of id rows) []

-- what clap found
abbrev pub found_in : ArgMatches → Line
found_in matches = record {
  plain = values_at (codes "words") (rows_of (found_of matches));
  slots = values_at (codes "slots") (rows_of (found_of matches));
  cache = values_at (codes "cache") (rows_of (found_of matches));
}
