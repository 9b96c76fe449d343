use Rattle.std.proofs.Common.{length}
use Rattle.kv_session.proofs.OutboxLemmas.{TakesReplies}
use Rattle.kv_session.proofs.outbox.Outbox.take_replies.Given as goal

abbrev pub invariant-loop-task : goal.invariant-loop-task
invariant-loop-task l = TakesReplies l.initial.tasks l.tasks l.initial.self l.self

abbrev pub decreases-loop-task : goal.decreases-loop-task
decreases-loop-task l = length l.tasks.items
