use Rattle.kv_session_party.proofs.ExchangeLemmas.{AsksUpTo}
use Rattle.kv_session_party.proofs.exchange.ask.Given as goal

abbrev pub invariant-loop-worker : goal.invariant-loop-worker
invariant-loop-worker g l =
    AsksUpTo l.seen l.initial.links l.initial.routes l.links l.routes l.worker
