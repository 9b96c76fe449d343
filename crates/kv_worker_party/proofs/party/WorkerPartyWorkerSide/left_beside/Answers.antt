-- nothing is sent or received
use Rattle.std.proofs.Common.{arith, ap, sym, ◌∙◌}
use Rattle.kv_groups.specs.Taking.{has_bye}
use Rattle.kv_worker_party.proofs.PartyLemmas.{looked-promise}
use Rattle.kv_worker_party.proofs.party.WorkerPartyWorkerSide.left_beside.Goals as goal

pub invariant_of-self : goal.invariant_of-self
invariant_of-self g c =
    let old = c.args.self.now in
    let looked = c.left_between.ensures.worker_ends in
    record {
      number_is = old.number_is;
      workers_is = old.workers_is;
      one_of = old.one_of;
      size = omega (arith, old.size, looked.rings.peers);
      idle = old.idle;
      empty = old.empty;
      room = old.room;
      started = old.started;
      ahead = old.ahead;
      gone = λ s lt. old.gone s (omega (arith, lt, looked.rings.peers))
          ∙ ap has_bye (sym (looked.received s));
      promise = λ before begins. looked-promise g.D.Disk g.I.Index old.seat.view.start
          old.first.value old.worker old.ends c.left_between.new.worker_ends c.args.session
          old.connections.items old.seat.view old.lifted before looked (old.promise before begins);
    }

pub returns-clause-compared : goal.returns-clause-compared
returns-clause-compared g c = record {
  session_ends = c.left_between.ensures.session_ends;
  worker_ends = c.left_between.ensures.worker_ends;
  asks = c.left_between.ensures.asks;
  answers = c.left_between.ensures.answers;
  asks_places = c.left_between.ensures.asks_places;
  answers_places = c.left_between.ensures.answers_places;
  few = c.left_between.ensures.few;
  value = c.left_between.ensures.value;
}
