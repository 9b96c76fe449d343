use Rattle.std.proofs.Common.{arith}
use Rattle.kv_session.proofs.GroupLemmas.{GathersUpTo-none, GathersUpTo-more, GathersUpTo-spare}
use Rattle.kv_session.proofs.GroupLemmas.{gathers-over, gathers-flush, gathers-after}
use Rattle.kv_session.proofs.GroupLemmas.{gathers-whole, progress-flush, progress-whole}
use Rattle.kv_session.proofs.group.read_group.Goals as goal

pub loop-init : goal.loop-init
loop-init g c = GathersUpTo-none g.So.Source.stream g.So.Source.faults c.args.reader.now
    c.args.tasks.now c.requires.empty

pub take_front-requires-clause-room : goal.take_front-requires-clause-room
take_front-requires-clause-room g c =
    omega (arith, c.loop.invariant.spare, c.requires.room, c.loop-test.true)

pub loop-preserved : goal.loop-preserved
loop-preserved g c =
    let p = c.in-None.ensures in
    let takes = c.in-Keyed.ensures in
    GathersUpTo-more _ _ _ _ _ _ _ _ _ _ c.loop.invariant c.loop-test.true p.arrives p.counted
    p.spent p.limit takes.0 takes.2.0 takes.1 takes.2.1 takes.2.2

-- reading ended
pub returns-in-Some-clause-group : goal.returns-in-Some-clause-group
returns-in-Some-clause-group g c =
    let inv = c.loop.invariant in (
      inv.asked,
      inv.taken,
      gathers-over _ _ _ _ _ c.fill.new.self _ _ c.loop.tasks _ inv c.loop-test.true
          c.in-Some.ensures.arrives _,
    )

pub returns-in-Some-clause-most : goal.returns-in-Some-clause-most
returns-in-Some-clause-most g c =
    omega (arith, (GathersUpTo-spare _ _ _ _ _ _ _ c.loop.invariant).1, c.loop-test.true)

pub returns-in-Some-clause-spare : goal.returns-in-Some-clause-spare
returns-in-Some-clause-spare g c = (GathersUpTo-spare _ _ _ _ _ _ _ c.loop.invariant).0

-- a Flush came
pub returns-in-Flush-clause-group : goal.returns-in-Flush-clause-group
returns-in-Flush-clause-group g c =
    let inv = c.loop.invariant in
    let takes = c.in-Flush.ensures in
    rw takes.3 (
      inv.asked,
      inv.taken,
      gathers-flush _ _ _ _ _ _ _ _ c.loop.tasks _ inv c.loop-test.true
          c.in-None.ensures.arrives takes.0 takes.1 takes.2,
    )

pub returns-in-Flush-clause-progress : goal.returns-in-Flush-clause-progress
returns-in-Flush-clause-progress g c = λ none.
    let takes = c.in-Flush.ensures in
    progress-flush _ _ _ _ _ _ _ _ c.loop.tasks _ c.loop.invariant c.loop-test.true
    c.in-None.ensures.arrives takes.0 takes.1

pub returns-in-Flush-clause-most : goal.returns-in-Flush-clause-most
returns-in-Flush-clause-most g c =
    rw c.in-Flush.ensures.3
    (omega (arith, (GathersUpTo-spare _ _ _ _ _ _ _ c.loop.invariant).1, c.loop-test.true))

pub returns-in-Flush-clause-spare : goal.returns-in-Flush-clause-spare
returns-in-Flush-clause-spare g c =
    rw c.in-Flush.ensures.3 (GathersUpTo-spare _ _ _ _ _ _ _ c.loop.invariant).0

-- an After came
pub returns-in-After-clause-group : goal.returns-in-After-clause-group
returns-in-After-clause-group g c =
    let inv = c.loop.invariant in
    let takes = c.in-After.ensures in
    rw takes.3 (
      inv.asked,
      inv.taken,
      gathers-after _ _ _ _ _ _ _ _ c.loop.tasks _ inv c.loop-test.true
          c.in-None.ensures.arrives _ takes.0 takes.1 takes.2,
    )

pub returns-in-After-clause-progress : goal.returns-in-After-clause-progress
returns-in-After-clause-progress g c = λ none.
    let takes = c.in-After.ensures in
    progress-flush _ _ _ _ _ _ _ _ c.loop.tasks _ c.loop.invariant c.loop-test.true
    c.in-None.ensures.arrives takes.0 takes.1

pub returns-in-After-clause-most : goal.returns-in-After-clause-most
returns-in-After-clause-most g c =
    rw c.in-After.ensures.3
    (omega (arith, (GathersUpTo-spare _ _ _ _ _ _ _ c.loop.invariant).1, c.loop-test.true))

pub returns-in-After-clause-spare : goal.returns-in-After-clause-spare
returns-in-After-clause-spare g c =
    rw c.in-After.ensures.3 (GathersUpTo-spare _ _ _ _ _ _ _ c.loop.invariant).0

-- the last request was read
pub returns-clause-group : goal.returns-clause-group
returns-clause-group g c =
    let inv = c.loop.invariant in (
      inv.asked,
      inv.taken,
      gathers-whole _ _ _ _ _ c.loop.tasks _ inv
          (omega (arith, c.loop-test.false, c.loop.auto.counter-end)),
    )

pub returns-clause-progress : goal.returns-clause-progress
returns-clause-progress g c = λ none.
    progress-whole _ _ _ _ _ c.loop.tasks _ c.loop.invariant (omega (arith, c.loop-test.false))

pub returns-clause-most : goal.returns-clause-most
returns-clause-most g c =
    omega (
      arith,
      (GathersUpTo-spare _ _ _ _ _ _ _ c.loop.invariant).1,
      c.loop.auto.counter-end,
    )

pub returns-clause-spare : goal.returns-clause-spare
returns-clause-spare g c = (GathersUpTo-spare _ _ _ _ _ _ _ c.loop.invariant).0
