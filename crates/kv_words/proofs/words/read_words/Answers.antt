-- Where the words behind the first one say nothing, all words ask nothing.
use Rattle.std.proofs.Common.{◌≡◌, ap, map, string_bytes, sym, ◌∙◌, Err}
use Rattle.kv_words.specs.Asked.{asked_by}
use Rattle.kv_words.specs.declared.words.WordsFault.TheVariants.{Usage}
use Rattle.kv_words.proofs.AskLemmas.{asks-one, asks-told, tells-rest}
use Rattle.kv_words.proofs.words.read_words.Goals as goal

pub returns-in-Ok-command_of-clause-only : goal.returns-in-Ok-command_of-clause-only
returns-in-Ok-command_of-clause-only c asked asks =
    let command = c.in-Ok-command_of.command in
    let words = map (λ word. string_bytes word) c.args.words.now in
    asks-one words asked (asked_by command) asks (asks-told words
    (map (λ word. string_bytes word) c.in-Some.rest.now) (string_bytes c.in-Some.first.now)
    c.in-Ok.heard (asked_by command) (ap (map (λ word. string_bytes word)) c.in-Some.ensures.cases.0)
    c.in-Ok.ensures.ok (sym c.as_str.ensures.value ∙ c.in-Ok-command_of.ensures.ok.0)
    c.in-Ok-command_of.ensures.ok.1)

pub returns-in-Err-clause-usage : goal.returns-in-Err-clause-usage
returns-in-Err-clause-usage c is asked asks =
    let fault : c.in-Err.fault ≡ Usage = cc in
    let rest = tells-rest (map (λ word. string_bytes word) c.args.words.now)
    (map (λ word. string_bytes word) c.in-Some.rest.now) (string_bytes c.in-Some.first.now) asked
    (ap (map (λ word. string_bytes word)) c.in-Some.ensures.cases.0) asks in
    c.in-Err.ensures.usage (ap Err fault) rest.0 rest.1
