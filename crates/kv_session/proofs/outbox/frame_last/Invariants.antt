use Rattle.std.proofs.Common.{length}
use Rattle.kv_session.proofs.OutboxLemmas.{FramesUpTo}
use Rattle.kv_session.proofs.outbox.frame_last.Given as goal

abbrev pub invariant-loop-reply : goal.invariant-loop-reply
invariant-loop-reply l = FramesUpTo l.replies l.left l.pieces

abbrev pub decreases-loop-reply : goal.decreases-loop-reply
decreases-loop-reply l = length l.left
