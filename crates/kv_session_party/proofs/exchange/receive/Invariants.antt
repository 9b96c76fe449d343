use Rattle.kv_session_party.proofs.ExchangeLemmas.{ReceivesUpTo}
use Rattle.kv_session_party.proofs.exchange.receive.Given as goal

abbrev pub invariant-loop-worker : goal.invariant-loop-worker
invariant-loop-worker g l =
    ReceivesUpTo l.initial.links l.initial.routes l.links l.routes l.worker l.moved
