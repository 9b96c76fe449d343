-- The sessions so far ended with End.
use Rattle.std.proofs.Common.{◌≡◌, drop}
use Rattle.kv_serve.specs.StatusLine.{sessions_text}
use Rattle.kv_serve.proofs.status_text.sessions_text.Given as goal

abbrev pub invariant-loop-session : goal.invariant-loop-session
invariant-loop-session l = sessions_text 0 l.endings ≡ sessions_text l.session-counter
    (drop l.session-counter l.endings)
