-- the seat keeps its share
use Rattle.kv_session_party.proofs.ShareLemmas.{share-kept}
use Rattle.kv_session_party.proofs.threads.SessionPartyParty.turn.Goals as goal

pub returns-clause-stays : goal.returns-clause-stays
returns-clause-stays g c =
    let turned = c.turn.ensures in
    let share = share-kept c.args.self.now.seat.view c.turn.new.self.seat.view turned.seat.view in
    record {
      first = turned.first;
      lifted = turned.lifted;
      rings = turned.rings;
      counter = turned.seat.counter;
      start = share.start;
      weight = share.weight;
      seats = share.seats;
    }
