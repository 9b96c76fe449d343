-- one session makes its turn
use Rattle.std.proofs.Common.{refl}
use Rattle.kv_mesh.proofs.LinkLemmas.{linked-session, stepped-keeps}
use Rattle.kv_mesh.proofs.parties.AllParties.move_session.Goals as goal

pub turn-requires : goal.turn-requires
turn-requires g c = (c.args.self.now.linked.session_fits c.args.session c.index_mut.result.now
    (c.requires, c.index_mut.ensures.value)).counter_is

pub returns-clause-moved : goal.returns-clause-moved
returns-clause-moved g c = record {
  old = c.index_mut.result.now;
  new = c.turn.new.self;
  at = (c.requires, c.index_mut.ensures.value);
  now_is = refl;
  moves = record {
    rings = c.turn.ensures.rings;
    first = c.turn.ensures.first;
    turned = record {
      links = c.turn.new.self.links;
      result = c.turn.result;
      ended = c.turn.ensures.ended;
      waits = c.turn.ensures.waits;
      reads = c.turn.ensures.reads;
      rests = c.turn.ensures.rests;
      seat = c.turn.ensures.seat;
      sent = λ worker. refl;
      received = λ worker. refl;
    };
  };
}

pub invariant_of-self : goal.invariant_of-self
invariant_of-self g c =
    let old = c.args.self.now in
    record {
      linked = linked-session old.workers.items old.sessions.items old.stamps old.start old.kept old.linked
          c.args.session c.index_mut.result.now c.turn.new.self
          (c.requires, c.index_mut.ensures.value)
          (stepped-keeps c.index_mut.result.now c.turn.new.self c.turn.ensures.rings
          c.turn.ensures.seat);
    }
