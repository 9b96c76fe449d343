-- Each builder changes its own field.
use Rattle.std.proofs.Common.{◌≡◌, ◌∙◌, ap, ap₂, codes, rules, true, None, Some}
use Rattle.std.proofs.lemmas.Result.{IfOk-weaker}
use Rattle.clap.specs.Simple.{App, app_of, app_of_fields, new_app, on_top, with_rule}
use Rattle.clap.specs.Walk.{rule_of}
use Rattle.kv_words.specs.Parsed.{asked_rule}
use Rattle.kv_words.proofs.said.command.Goals as goal

abbrev unnamed : App → App
unnamed = on_top (λ shape. record shape { no_binary_name = true })

abbrev no_help : App → App
no_help = on_top (λ shape. record shape { disable_help_flag = true })

abbrev no_version : App → App
no_version = on_top (λ shape. record shape { disable_version_flag = true })

abbrev start : App
start = new_app (codes "kvell")

pub returns : goal.returns
returns c =
    let words_is : rule_of c.action-words.result ≡ asked_rule (codes "words") None = search rules in
    let slots_is : rule_of c.action-slots.result ≡ asked_rule (codes "slots") (Some (codes "slots")) =
    search rules in
    let cache_is : rule_of c.action-cache.result ≡ asked_rule (codes "cache") (Some (codes "cache")) =
    search rules in
    let first : app_of c.no_binary_name.result ≡ unnamed start =
    ap app_of_fields c.no_binary_name.ensures ∙ ap unnamed c.new-4.ensures.app in
    let second : app_of c.disable_help_flag.result ≡ no_help (unnamed start) =
    ap app_of_fields c.disable_help_flag.ensures ∙ ap no_help first in
    let third : app_of c.disable_version_flag.result ≡ no_version (no_help (unnamed start)) =
    ap app_of_fields c.disable_version_flag.ensures ∙ ap no_version second in
    let one : app_of c.in_ok-arg.field-0
    ≡ with_rule (no_version (no_help (unnamed start))) (asked_rule (codes "words") None) =
    c.in_ok-arg.ensures.shape (search rules) ∙ ap₂ with_rule third words_is in
    let two : app_of c.in_ok-arg-2.field-0
    ≡ with_rule (with_rule (no_version (no_help (unnamed start))) (asked_rule (codes "words") None))
    (asked_rule (codes "slots") (Some (codes "slots"))) =
    c.in_ok-arg-2.ensures.shape (search rules) ∙ ap₂ with_rule one slots_is in
    IfOk-weaker c.arg-3.result _ _
    (λ command h. h.shape (search rules) ∙ ap₂ with_rule two cache_is) c.arg-3.ensures
