-- The words name no other sessions.
use Rattle.std.proofs.Common.{◌≡◌, sym, ◌∙◌, ap, subst}
use Rattle.std.proofs.lemmas.Bool.{false≢true}
use Rattle.kv_words.specs.Asked.{ends_in}
use Rattle.kv_words.specs.Words.{AreSessions}
use Rattle.kv_words.proofs.SessionLemmas.{sessions-one}
use Rattle.kv_words.proofs.sessions.sessions_in.Goals as goal

pub returns-clause-usage : goal.returns-clause-usage
returns-clause-usage c usage sessions is are =
    let read = c.in-Ok.sessions.items in
    let same : sessions ≡ ends_in read = sessions-one sessions (ends_in read)
    (is ∙ sym c.in-Ok.ensures.ok) in
    let slice : c.as_slice.result.now ≡ read = cc in
    false≢true (sym c.if-are_sessions.false ∙ c.are_sessions.ensures.1
    (subst AreSessions (same ∙ ap ends_in (sym slice)) are))
