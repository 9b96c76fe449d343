use Rattle.std.proofs.Common.{◌<◌, sym, ◌∙◌, subst}
use Rattle.std.proofs.Math.Logic.{∥∥₁_map}
use Rattle.std.proofs.lemmas.Bool.{true≢false}
use Rattle.kv_session.specs.Passage.{Streams}
use Rattle.kv_session_party.specs.Links.{told_to, heard_from}
use Rattle.kv_session_party.specs.Promise.{IsServed}
use Rattle.kv_session_party.proofs.PromiseLemmas.{tells-bye}
use Rattle.kv_session_party.proofs.TaleLemmas.{Tells-same}
use Rattle.kv_session_party.proofs.party.SessionParty.say_bye.Goals as goal

pub invariant_of-self : goal.invariant_of-self
invariant_of-self g c =
    let streams : Streams g.row.So.Denot g.row.Si.Denot = record {
      stream = g.So.Source.stream;
      source_faults = g.So.Source.faults;
      held = g.Si.Sink.held;
      sink_faults = g.Si.Sink.faults;
    } in
    let old = c.args.self.now in
    let new = c.say_bye.new.self in
    let b = c.say_bye.ensures in
    record {
      size = old.size ∙ sym b.rings.peers;
      few = old.few;
      idle = old.idle;
      room = old.room;
      ended = old.ended;
      closed = old.closed;
      reads = old.reads;
      told = old.told;
      rests = old.rests;
      away = λ going. absurd (true≢false (sym c.if-self.true ∙ going));
      bare = old.bare;
      promise = λ setting served. ∥∥₁_map
          (old.promise setting (subst (IsServed setting) b.rings.peers served))
          (λ t. Tells-same streams setting old.first.value.source old.first.value.sink old.session
          (told_to old.links) (told_to new) (heard_from old.links) (heard_from new) old.seen
          old.routes old.waiting (tells-bye setting.workers (told_to old.links) (told_to new)
          (λ worker lt. b.told worker
          (subst (λ n. worker < n) (served.workers_are ∙ b.rings.peers) lt)))
          (λ worker. (b.heard worker).0) t);
    }
