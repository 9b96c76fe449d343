use Rattle.std.proofs.Common.{◌≡◌, false, length, refl, sym, ap, ◌∙◌, subst, subst₂, arith}
use Rattle.std.proofs.Common.{[]}
use Rattle.std.proofs.lemmas.Grind.{merely}
use Rattle.kv_ring.specs.Ends.{peers, sent_to, received_from}
use Rattle.kv_session.specs.Passage.{Streams, HasRead}
use Rattle.kv_session.specs.Session.{SessionState}
use Rattle.kv_session_party.specs.Links.{told_to, heard_from}
use Rattle.kv_session_party.specs.Promise.{Tells}
use Rattle.kv_session_party.proofs.PartyLemmas.{of-none, told-fresh, Tells-new}
use Rattle.kv_session_party.proofs.party.SessionParty.new.Goals as goal

pub invariant_of-result : goal.invariant_of-result
invariant_of-result g c =
    let State = SessionState g.row.So.Denot g.row.Si.Denot in
    let streams : Streams g.row.So.Denot g.row.Si.Denot = record {
      stream = g.So.Source.stream;
      source_faults = g.So.Source.faults;
      held = g.Si.Sink.held;
      sink_faults = g.Si.Sink.faults;
    } in
    let session = c.in-Ok-new-3.session in
    let links = c.in-Ok-new-2.links in
    let routes = c.in-Ok-new.routes in
    let is = c.in-Ok-new-3.ensures.ok in
    let same = c.in-Ok-new-2.ensures.ok in
    let none = c.in-Ok-new.ensures.bare.places in
    let size : length routes.parts ≡ peers links.ends = c.in-Ok-new.ensures.count
    ∙ c.peers.ensures ∙ ap (λ e. peers e) (sym same) in
    record {
      size = size;
      few = omega (arith, none);
      idle = ap length c.in-Ok.ensures.empty;
      room = c.in-Ok.ensures.room;
      ended = sym (of-none _ is.0.goes_on);
      closed = sym (of-none _ is.0.reads);
      reads = λ going resting. refl;
      told = λ going resting. is.0.none_after;
      rests = λ e. refl;
      away = λ e worker here. of-none _ (c.in-Ok-new-2.ensures.none worker);
      bare = λ e. c.in-Ok-new.ensures.bare;
      promise = λ setting served. merely (subst (λ (s : State). Tells streams setting s.source
          s.sink session (told_to links) (heard_from links) 0 routes false
          c.args.seat.view false) (sym c.of-first.ensures)
          (Tells-new streams setting session.source session.sink session (told_to links)
          (heard_from links) routes c.args.seat.view
          (told-fresh links c.in-Ok-new-2.ensures.none
          (λ worker. ap (λ e. sent_to e worker) same ∙ c.requires.ends.sent worker))
          (λ worker. ap (λ e. received_from e worker) same ∙ c.requires.ends.received worker)
          (size ∙ sym served.workers_are) c.requires.seat is.0.goes_on
          (subst₂ (λ a b. HasRead streams a b [] [] session) (sym is.1) (sym is.2)
          c.in-Ok-new-3.ensures.begins)));
    }
