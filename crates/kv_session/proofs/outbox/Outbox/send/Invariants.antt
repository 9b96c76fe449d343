use Rattle.std.proofs.Common.{length}
use Rattle.kv_session.proofs.OutboxLemmas.{SendsUpTo}
use Rattle.kv_session.proofs.outbox.Outbox.send.Given as goal

abbrev pub invariant-loop-self : goal.invariant-loop-self
invariant-loop-self g l =
    SendsUpTo g.Si.Sink.held g.Si.Sink.faults l.initial.sink l.sink l.initial.self l.self

abbrev pub decreases-loop-self : goal.decreases-loop-self
decreases-loop-self g l = length l.self.items
