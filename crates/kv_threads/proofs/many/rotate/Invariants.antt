-- what rounds left so far
use Rattle.kv_threads.specs.Listed.{ListedContinue}
use Rattle.kv_threads.proofs.many.rotate.Given as goal

abbrev pub invariant-loop : goal.invariant-loop
invariant-loop g l = record {
  first : ListedContinue g.P.Party l.initial.first l.first;
  second : ListedContinue g.Q.Party l.initial.second l.second;
}
