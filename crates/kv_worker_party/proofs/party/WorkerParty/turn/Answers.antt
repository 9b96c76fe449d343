-- the promise goes on
use Rattle.std.proofs.Common.{arith, ap, sym, ◌∙◌, length}
use Rattle.kv_worker_party.proofs.PartyLemmas.{goes-from, goes-on, gone-on}
use Rattle.kv_worker_party.proofs.party.WorkerParty.turn.Goals as goal

pub returns-clause-goes_on : goal.returns-clause-goes_on
returns-clause-goes_on g c =
    let old = c.args.self.now in
    goes-from c.party_laws.ensures g.D.Disk g.I.Index old.first.value old.worker
    c.exchange.new.worker old.ends c.exchange.new.ends old.connections.items
    c.exchange.new.connections.items old.seat.view c.exchange.new.seat.view old.lifted
    c.exchange.result old.started c.exchange.ensures.turned

pub invariant_of-self : goal.invariant_of-self
invariant_of-self g c =
    let old = c.args.self.now in
    let stays = c.exchange.ensures.ahead in
    let t = c.exchange.ensures.turned in
    record {
      number_is = old.number_is ∙ sym stays.worker;
      workers_is = old.workers_is ∙ sym stays.workers;
      one_of = old.one_of;
      size = c.exchange.ensures.size;
      idle = c.exchange.ensures.idle;
      empty = ap length c.exchange.ensures.empty;
      room = omega (arith, c.exchange.ensures.room, old.room);
      started = (
        omega (arith, stays.start, old.started.0),
        omega (arith, stays.start, stays.up, old.started.1),
      );
      ahead = stays.ahead;
      gone = gone-on g.D.Disk g.I.Index old.worker c.exchange.new.worker old.ends
          c.exchange.new.ends old.connections.items c.exchange.new.connections.items old.seat.view
          c.exchange.new.seat.view c.exchange.result t old.gone;
      promise = goes-on c.party_laws.ensures g.D.Disk g.I.Index old.first.value old.worker
          c.exchange.new.worker old.ends c.exchange.new.ends old.connections.items
          c.exchange.new.connections.items old.seat.view c.exchange.new.seat.view old.lifted
          c.exchange.result old.started old.promise t stays.start;
    }
