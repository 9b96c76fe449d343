use Rattle.std.proofs.Common.{◌≡◌, ◌+◌, drop, length, reverse}
use Rattle.kv_session.proofs.outbox.take_off.Given as goal

abbrev pub invariant-loop : goal.invariant-loop
invariant-loop l =
    (reverse l.replies.items ≡ drop l.counter (reverse l.initial.replies.items))
    × (l.replies.spare ≡ l.initial.replies.spare + l.counter)
    × (length l.replies.items + l.counter ≡ length l.initial.replies.items)
