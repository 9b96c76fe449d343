-- What clap finds is what the words say.
use Rattle.std.proofs.Common.{◌≡◌, [], ◌∙◌, ap, length, map, string_bytes, subst, sym}
use Rattle.std.specs.Prelude.{◌==◌}
use Rattle.clap.proofs.WalkLemmas.{list_any-map}
use Rattle.clap.specs.Faults.{fault_of, is_simple_and_free}
use Rattle.clap.specs.Kinds.{HasKind}
use Rattle.clap.specs.Matches.{found_of}
use Rattle.clap.specs.Simple.{app_of, is_simple, matches_of}
use Rattle.clap.specs.Walk.{rows_of}
use Rattle.kv_words.specs.Parsed.{asked_app}
use Rattle.kv_words.specs.Words.{Tells}
use Rattle.kv_words.proofs.ClapState.{simple, simple-and-free}
use Rattle.kv_words.proofs.ClapLemmas.{are-words, faulty, tells, tells-none, tells-not-empty}
use Rattle.kv_words.proofs.said.hear_all.Goals as goal

pub returns-then-has_empty-clause-usage : goal.returns-then-has_empty-clause-usage
returns-then-has_empty-clause-usage c usage line is =
    tells-not-empty (map (λ word. string_bytes word) c.args.words.now)
    (sym (list_any-map (λ text. length text == 0) (λ word. string_bytes word) c.args.words.now)
    ∙ sym c.has_empty.ensures ∙ c.if-has_empty.true) line is

pub returns-in-Ok-found-clause-ok : goal.returns-in-Ok-found-clause-ok
returns-in-Ok-found-clause-ok c =
    let texts = map (λ word. string_bytes word) c.args.words.now in
    let app : app_of c.in_ok-command.command ≡ asked_app = c.in_ok-command.ensures in
    let good = are-words c.args.words.now
    (sym (list_any-map (λ text. length text == 0) (λ word. string_bytes word) c.args.words.now)
    ∙ sym c.has_empty.ensures ∙ c.if-has_empty.false) in
    let clean : fault_of asked_app texts ≡ [] = ap (λ a. fault_of a texts) (sym app)
    ∙ c.in-Ok.ensures.kinds (ap is_simple_and_free app ∙ simple-and-free) in
    let rows : rows_of (found_of c.in-Ok.matches) ≡ matches_of asked_app texts =
    (c.in-Ok.ensures.matches (ap is_simple app ∙ simple)).0 ∙ ap (λ a. matches_of a texts) app in
    subst (Tells texts) (sym c.in-Ok-found.ensures) (tells texts c.in-Ok.matches good clean rows)

pub returns : goal.returns
returns c = record {
  ok = tt;
  usage = λ usage line is.
      let texts = map (λ word. string_bytes word) c.args.words.now in
      let app : app_of c.in_ok-command.command ≡ asked_app = c.in_ok-command.ensures in
      let good = are-words c.args.words.now
      (sym (list_any-map (λ text. length text == 0) (λ word. string_bytes word) c.args.words.now)
      ∙ sym c.has_empty.ensures ∙ c.if-has_empty.false) in
      let kinds : HasKind (fault_of asked_app texts) c.in-Err.error =
      subst (λ a. HasKind (fault_of a texts) c.in-Err.error) app
      (c.in-Err.ensures.kinds (ap is_simple_and_free app ∙ simple-and-free)) in
      tells-none texts good (faulty (fault_of asked_app texts) c.in-Err.error kinds
      (λ out. c.in_default.not-OutOfMemory (c.kind.ensures ∙ out))) line is;
}
