-- nothing is done yet
use Rattle.std.proofs.Common.{arith, ap, length}
use Rattle.std.proofs.lemmas.Grind.{merely}
use Rattle.kv_worker_party.proofs.PartyLemmas.{idle-to, gone-first, first-holds}
use Rattle.kv_worker_party.proofs.party.WorkerParty.new.Goals as goal

pub invariant_of-result : goal.invariant_of-result
invariant_of-result g c =
    let parts = c.args.parts in
    let connections = c.in-Ok-new_connections.connections in
    record {
      number_is = c.requires.number;
      workers_is = c.requires.workers;
      one_of = c.requires.one_of;
      size = omega (arith, c.in-Ok-new_connections.ensures.size, c.peers.ensures);
      idle = idle-to connections.items (λ s lt. ap (λ x. x.group) (c.in-Ok-new_connections.ensures.new s));
      empty = ap length c.in-Ok.ensures.empty;
      room = c.in-Ok.ensures.room;
      started = c.requires.started;
      ahead = λ open_. c.requires.ahead;
      gone = λ s lt. gone-first parts.ends connections.items c.requires.ends c.in-Ok-new_connections.ensures.new
          s;
      promise = λ before begins. merely (first-holds g.D.Disk g.I.Index c.of-first.result.value
          parts.worker parts.ends connections.items parts.seat.view before
          c.of-first.ensures begins c.requires.ends c.in-Ok-new_connections.ensures.new c.requires.unused
          c.requires.started);
    }
