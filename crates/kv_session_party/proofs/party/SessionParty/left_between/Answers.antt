use Rattle.std.proofs.Common.{None, get_or, sym, ap, ◌∙◌, subst}
use Rattle.std.specs.Prelude.{is_some}
use Rattle.std.proofs.Math.Logic.{∥∥₁_map}
use Rattle.kv_session.specs.Passage.{Streams}
use Rattle.kv_session_party.specs.Links.{told_to, heard_from}
use Rattle.kv_session_party.specs.Promise.{IsServed}
use Rattle.kv_session_party.proofs.PartyLemmas.{told-same}
use Rattle.kv_session_party.proofs.PromiseLemmas.{tells-same}
use Rattle.kv_session_party.proofs.TaleLemmas.{Tells-same}
use Rattle.kv_session_party.proofs.party.SessionParty.left_between.Goals as goal

pub invariant_of-self : goal.invariant_of-self
invariant_of-self g c =
    let streams : Streams g.row.So.Denot g.row.Si.Denot = record {
      stream = g.So.Source.stream;
      source_faults = g.So.Source.faults;
      held = g.Si.Sink.held;
      sink_faults = g.Si.Sink.faults;
    } in
    let old = c.args.self.now in
    let new = c.left_between.new.self in
    let unsent = c.left_between.ensures.unsent in
    let looked = c.left_between.ensures.compared.session_ends in
    record {
      size = old.size ∙ sym looked.rings.peers;
      few = old.few;
      idle = old.idle;
      room = old.room;
      ended = old.ended;
      closed = old.closed;
      reads = old.reads;
      told = old.told;
      rests = old.rests;
      away = λ going worker here. ap (λ ws. is_some (get_or ws.items worker None)) unsent
          ∙ old.away going worker here;
      bare = old.bare;
      promise = λ setting served. ∥∥₁_map
          (old.promise setting (subst (IsServed setting) looked.rings.peers served))
          (λ t. Tells-same streams setting old.first.value.source old.first.value.sink old.session
          (told_to old.links) (told_to new) (heard_from old.links) (heard_from new) old.seen
          old.routes old.waiting (tells-same setting.workers (told_to old.links) (told_to new)
          (told-same old.links new looked.sent unsent)) looked.received t);
    }
