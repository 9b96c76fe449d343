-- one session more
use Rattle.std.proofs.Common.{◌+◌, arith, sym, ap, subst, set, length, length-append}
use Rattle.kv_groups.specs.Batched.{of_session}
use Rattle.kv_groups.proofs.GatherLemmas.{GathersFirst, gathers-none, gathers-more, gathers-all, session-idle}
use Rattle.kv_groups.proofs.GatherLemmas.{of_session-length}
use Rattle.kv_groups.proofs.gathering.gather.Goals as goal

pub gather_from-found-requires-clause-session : goal.gather_from-found-requires-clause-session
gather_from-found-requires-clause-session g c =
    omega (
      arith,
      c.loop-session.invariant.first.rings.peers,
      c.loop-session-test.true,
      c.peers-session-end.ensures,
    )

pub gather_from-found-requires-clause-idle : goal.gather_from-found-requires-clause-idle
gather_from-found-requires-clause-idle g c =
    session-idle c.args.connections.now.items c.loop-session.connections.items c.loop-session.session
    c.index_mut-connection.result.now c.requires.idle
    (c.loop-session.invariant.first.later c.loop-session.session (omega arith)).1
    (omega (
      arith,
      c.loop-session.invariant.first.size,
      c.loop-session-test.true,
      c.peers-session-end.ensures,
      c.requires.size,
      c.args.connections.now.ok,
    )) c.index_mut-connection.ensures.value

pub loop-session-init : goal.loop-session-init
loop-session-init g c = record {
  first = gathers-none c.args.worker c.args.workers c.args.ends.now c.args.connections.now.items
      c.args.batch.now.items;
  room = omega arith;
  few = omega arith;
}

pub loop-session-preserved : goal.loop-session-preserved
loop-session-preserved g c =
    let p = c.loop-session.invariant in
    let step = c.gather_from-found.ensures.gathered in
    record {
      first = subst (GathersFirst c.args.worker c.args.workers c.args.ends.now
          c.gather_from-found.new.ends c.args.connections.now.items
          (set c.loop-session.connections.items c.loop-session.session
          c.gather_from-found.new.connection) c.args.batch.now.items
          c.gather_from-found.new.batch.items (c.loop-session.session + 1))
          (sym c.either-moved.ensures) (gathers-more c.args.worker c.args.workers c.args.ends.now c.loop-session.ends
          c.gather_from-found.new.ends c.args.connections.now.items c.loop-session.connections.items
          c.args.batch.now.items c.loop-session.batch.items c.gather_from-found.new.batch.items
          c.loop-session.session c.index_mut-connection.result.now c.gather_from-found.new.connection c.loop-session.moved
          c.gather_from-found.result step.0 p.first (omega (
            arith,
            c.loop-session-test.true,
            c.peers-session-end.ensures,
            c.requires.size,
            c.args.connections.now.ok,
          )) c.index_mut-connection.ensures.value step.1
          step.3 step.2 c.gather_from-found.ensures.others c.gather_from-found.ensures.rings);
      room = omega (
        arith,
        p.room,
        step.4,
        ap length step.3,
        length-append c.loop-session.batch.items (of_session c.loop-session.session step.0.tasks),
        of_session-length c.loop-session.session step.0.tasks,
      );
      few = omega (
        arith,
        p.few,
        step.5,
        ap length step.3,
        length-append c.loop-session.batch.items (of_session c.loop-session.session step.0.tasks),
        of_session-length c.loop-session.session step.0.tasks,
      );
    }

pub returns-clause-gathered : goal.returns-clause-gathered
returns-clause-gathered g c =
    let p = c.loop-session.invariant in (
      p.first.intakes,
      gathers-all c.args.worker c.args.workers c.args.ends.now c.loop-session.ends
          c.args.connections.now.items c.loop-session.connections.items c.args.batch.now.items
          c.loop-session.batch.items c.loop-session.session c.loop-session.moved p.first
          (omega (arith, c.requires.size, c.args.connections.now.ok))
          (omega (
            arith,
            c.loop-session-test.false,
            c.peers-session-end.ensures,
            c.requires.size,
            c.args.connections.now.ok,
          )),
      p.first.items_are,
    )
