-- a raise draws nothing
use Rattle.std.proofs.Common.{true, arith}
use Rattle.kv_ring.specs.Ends.{peers}
use Rattle.kv_worker_party.proofs.PartyLemmas.{goes-later, later-promise, raised-lifts}
use Rattle.kv_worker_party.proofs.party.WorkerParty.raise.Goals as goal

pub returns-clause-goes_on : goal.returns-clause-goes_on
returns-clause-goes_on g c =
    let old = c.args.self.now in
    let v = c.raise.ensures.view in
    goes-later g.D.Disk g.I.Index old.seat.view.start (peers old.ends) old.first.value old.worker
    old.ends old.connections.items old.seat.view c.raise.new.seat.view old.lifted true
    (raised-lifts c.args.to v.0 old.seat.view c.raise.new.seat.view old.lifted v.1)

pub invariant_of-self : goal.invariant_of-self
invariant_of-self g c =
    let old = c.args.self.now in
    let v = c.raise.ensures.view in
    let lifts = raised-lifts c.args.to v.0 old.seat.view c.raise.new.seat.view old.lifted v.1 in
    record {
      number_is = old.number_is;
      workers_is = old.workers_is;
      one_of = old.one_of;
      size = old.size;
      idle = old.idle;
      empty = old.empty;
      room = old.room;
      started = (
        omega (arith, lifts.stays.start, old.started.0),
        omega (arith, lifts.stays.start, lifts.stays.up, old.started.1),
      );
      ahead = λ open_. let a = old.ahead open_ in omega (arith, a, lifts.stays.up);
      gone = old.gone;
      promise = later-promise g.D.Disk g.I.Index old.first.value old.worker old.ends
          old.connections.items old.seat.view c.raise.new.seat.view old.lifted true lifts
          old.promise;
    }
