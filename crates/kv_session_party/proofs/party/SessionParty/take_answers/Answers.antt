use Rattle.std.proofs.Common.{◌≤◌, List, Bool, length, sym, ap, ◌∙◌, subst}
use Rattle.std.specs.Prelude.{◌&&◌, not, is_some}
use Rattle.std.proofs.Math.Logic.{∥∥₁_map}
use Rattle.std.proofs.lemmas.Bool.{true≢false}
use Rattle.kv_session.specs.Passage.{Streams}
use Rattle.kv_session_party.specs.Links.{told_to, heard_from, waiting_for}
use Rattle.kv_session_party.specs.Promise.{IsServed, Tells}
use Rattle.kv_session_party.specs.declared.routes.Place.{Place}
use Rattle.kv_session_party.proofs.PartyLemmas.{away-received, full-received}
use Rattle.kv_session_party.proofs.TaleLemmas.{Tells-received}
use Rattle.kv_session_party.proofs.party.SessionParty.take_answers.Goals as goal

pub invariant_of-self : goal.invariant_of-self
invariant_of-self g c =
    let streams : Streams g.row.So.Denot g.row.Si.Denot = record {
      stream = g.So.Source.stream;
      source_faults = g.So.Source.faults;
      held = g.Si.Sink.held;
      sink_faults = g.Si.Sink.faults;
    } in
    let old = c.args.self.now in
    let new = c.receive.new.links in
    let after = c.receive.new.routes in
    let r = c.receive.ensures in
    record {
      size = r.size ∙ old.size ∙ sym r.rings.peers;
      few = subst (λ (ps : List Place). length ps ≤ 64) (sym r.places) old.few;
      idle = old.idle;
      room = old.room;
      ended = old.ended;
      closed = old.closed;
      reads = old.reads;
      told = old.told;
      rests = old.rests;
      away = λ going. away-received old.links new old.routes after c.receive.result r
          (old.away going);
      bare = λ resting. absurd (true≢false (sym c.requires.waits ∙ resting));
      promise = λ setting served. ∥∥₁_map
          (old.promise setting (subst (IsServed setting) r.rings.peers served))
          (λ t. subst (λ (w : Bool). Tells streams setting old.first.value.source
          old.first.value.sink old.session (told_to new) (heard_from new) old.seen after w
          old.seat.view old.lifted)
          (sym c.requires.waits)
          (Tells-received streams setting old.first.value.source old.first.value.sink old.session
          (told_to old.links) (told_to new) (heard_from old.links) (heard_from new) old.seen
          old.routes after r.came r.told (λ worker. (r.each worker).heard_is)
          (λ worker. (r.each worker).part_is) (λ worker. (r.each worker).replied)
          (λ worker here. (r.each worker).unasked
          (ap (λ b. b && not (is_some (waiting_for old.links worker))) here)) r.places r.size
          (subst (λ (w : Bool). Tells streams setting old.first.value.source
          old.first.value.sink old.session (told_to old.links) (heard_from old.links) old.seen
          old.routes w old.seat.view old.lifted) c.requires.waits t)));
    }

pub returns-clause-full : goal.returns-clause-full
returns-clause-full g c = full-received c.args.self.now.links c.receive.new.links
    c.args.self.now.routes c.receive.new.routes c.receive.result c.receive.ensures
