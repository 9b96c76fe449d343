use Rattle.kv_session.proofs.GroupLemmas.{GathersUpTo}
use Rattle.kv_session.proofs.group.read_group.Given as goal

abbrev pub invariant-loop : goal.invariant-loop
invariant-loop g l =
    GathersUpTo g.So.Source.stream g.So.Source.faults l.initial.reader l.reader l.initial.tasks
    l.tasks l.counter
