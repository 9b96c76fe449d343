-- what turns left so far
use Rattle.kv_threads.specs.Continuing.{Continues}
use Rattle.kv_threads.proofs.turning.turn_until_ended.Given as goal

abbrev pub invariant-loop : goal.invariant-loop
invariant-loop g l = Continues g.P.Party l.initial.party l.party
