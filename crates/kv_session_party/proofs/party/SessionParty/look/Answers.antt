use Rattle.std.proofs.Common.{ap, sym, ◌∙◌}
use Rattle.std.proofs.Math.Logic.{∥∥₁_map}
use Rattle.kv_session.specs.Passage.{Streams}
use Rattle.kv_session_party.specs.Links.{told_to, heard_from}
use Rattle.kv_session_party.proofs.TaleLemmas.{Tells-lifted}
use Rattle.kv_stamps.specs.declared.view.View.{View}
use Rattle.kv_session_party.proofs.party.SessionParty.look.Goals as goal

pub invariant_of-self : goal.invariant_of-self
invariant_of-self g c =
    let streams : Streams g.row.So.Denot g.row.Si.Denot = record {
      stream = g.So.Source.stream;
      source_faults = g.So.Source.faults;
      held = g.Si.Sink.held;
      sink_faults = g.Si.Sink.faults;
    } in
    let old = c.args.self.now in
    let new : View = c.look.new.seat.view in
    let same = c.look.ensures.value.2.view in
    record {
      size = old.size;
      few = old.few;
      idle = old.idle;
      room = old.room;
      ended = old.ended;
      closed = old.closed;
      reads = old.reads;
      told = old.told;
      rests = old.rests;
      away = old.away;
      bare = old.bare;
      promise = λ setting served. ∥∥₁_map (old.promise setting served)
          (λ t. Tells-lifted streams setting old.first.value.source old.first.value.sink
          old.session (told_to old.links) (heard_from old.links) old.seen old.routes old.waiting
          new old.lifted (ap (λ (v : View). v.start) same) (ap (λ (v : View). v.drawn) same)
          (ap (λ (v : View). v.spent) same) (λ gaps is unlifted.
          is unlifted ∙ sym (ap (λ (v : View). v.gaps) same)) t);
    }
