use Rattle.kv_session_party.proofs.LinkLemmas.{ByesUpTo}
use Rattle.kv_session_party.proofs.links.Links.say_bye.Given as goal

abbrev pub invariant-loop-worker : goal.invariant-loop-worker
invariant-loop-worker g l = ByesUpTo l.initial.self l.self l.worker
