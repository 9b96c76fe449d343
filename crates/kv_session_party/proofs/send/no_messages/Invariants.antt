use Rattle.std.proofs.Common.{◌≡◌, ◌≤◌, ℕ, None, get_or, vec_len, vec_capacity}
use Rattle.kv_session_party.proofs.send.no_messages.Given as goal

abbrev pub invariant-loop-worker : goal.invariant-loop-worker
invariant-loop-worker g l = record {
  count : vec_len l.unsent ≡ l._worker;
  room : l.workers ≤ vec_capacity l.unsent;
  none : (worker : ℕ) → get_or l.unsent.items worker None ≡ None;
}
