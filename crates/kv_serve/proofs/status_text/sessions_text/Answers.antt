-- One session more, or the first that didn't end with End.
use Rattle.std.proofs.Common.{◌≡◌, ◌∷◌, [], ◌∙◌, ap, codes, refl, sym, Some, string_bytes, rules}
use Rattle.std.specs.Prelude.{IfOk, option_map}
use Rattle.std.specs.Fmt.{decimal}
use Rattle.std.specs.List.{concat}
use Rattle.std.proofs.lemmas.Option.{slice_get_read}
use Rattle.std.proofs.lemmas.Result.{IfOk-weaker}
use Rattle.kv_serve.specs.StatusLine.{cause_text}
use Rattle.kv_serve.proofs.StatusLemmas.{session-here, session-next}
use Rattle.kv_serve.proofs.status_text.sessions_text.Goals as goal

pub returns-in-Some : goal.returns-in-Some
returns-in-Some c =
    let i = c.loop-session.session-counter in
    let ending = c.index-endings-session.result in
    let cause : cause_text ending.cause ≡ Some (string_bytes c.in-Some.cause) =
    sym c.in_ok-cause.ensures ∙ ap (option_map (λ t. string_bytes t)) c.in-Some.is in
    let text : IfOk c.format.result (λ text. string_bytes text ≡ concat (codes "kvell: session "
    ∷ decimal i ∷ codes " ended: " ∷ string_bytes c.in-Some.cause ∷ [])) = search rules in
    IfOk-weaker c.format.result _ _ (λ text is. is ∙ sym (session-here c.args.endings.now i ending
    (string_bytes c.in-Some.cause) (slice_get_read c.args.endings.now _ i ending refl
    c.loop-session-test.true c.index-endings-session.is) cause) ∙ sym c.loop-session.invariant) text

pub loop-session-preserved : goal.loop-session-preserved
loop-session-preserved c =
    let i = c.loop-session.session-counter in
    let ending = c.index-endings-session.result in
    c.loop-session.invariant ∙ session-next c.args.endings.now i ending
    (slice_get_read c.args.endings.now _ i ending refl c.loop-session-test.true
    c.index-endings-session.is)
    (sym c.in_ok-cause.ensures ∙ ap (option_map (λ t. string_bytes t)) c.in_default.is)
