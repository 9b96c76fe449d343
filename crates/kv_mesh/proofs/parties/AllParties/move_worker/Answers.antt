-- one worker makes its turn, with stamps above all ranges so far
use Rattle.std.proofs.Common.{refl}
use Rattle.kv_mesh.proofs.ApartLemmas.{apart-set}
use Rattle.kv_mesh.proofs.LinkLemmas.{linked-worker, moved-keeps}
use Rattle.kv_mesh.proofs.parties.AllParties.move_worker.Goals as goal

pub turn_above-self-requires-clause-counter : goal.turn_above-self-requires-clause-counter
turn_above-self-requires-clause-counter g c =
    (c.args.self.now.linked.worker_fits c.args.worker c.index_mut.result.now
    (c.requires, c.index_mut.ensures.value)).counter_is

pub turn_above-self-requires-clause-kept : goal.turn_above-self-requires-clause-kept
turn_above-self-requires-clause-kept g c = c.args.self.now.linked.limit

pub returns-clause-moved : goal.returns-clause-moved
returns-clause-moved g c = record {
  old = c.index_mut.result.now;
  new = c.turn_above-self.new.party;
  at = (c.requires, c.index_mut.ensures.value);
  now_is = refl;
  moves = c.turn_above-self.ensures;
}

pub invariant_of-self : goal.invariant_of-self
invariant_of-self g c =
    let old = c.args.self.now in
    let was = c.index_mut.result.now in
    let now = c.turn_above-self.new.party in
    let moves = c.turn_above-self.ensures in
    let later = c.turn_above-self.result in
    record {
      linked = linked-worker old.workers.items old.sessions.items old.stamps old.start old.kept old.linked
          later c.args.worker was now (c.requires, c.index_mut.ensures.value)
          (moved-keeps old.kept later was now moves)
          (apart-set old.workers.items old.start old.kept later c.args.worker was now
          (c.requires, c.index_mut.ensures.value) moves.draws old.linked.apart) moves.draws.limit;
    }
