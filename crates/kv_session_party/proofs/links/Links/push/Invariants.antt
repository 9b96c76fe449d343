use Rattle.kv_session_party.proofs.LinkLemmas.{PushesUpTo}
use Rattle.kv_session_party.proofs.links.Links.push.Given as goal

abbrev pub invariant-loop-worker : goal.invariant-loop-worker
invariant-loop-worker g l = PushesUpTo l.initial.self l.self l.worker l.moved
