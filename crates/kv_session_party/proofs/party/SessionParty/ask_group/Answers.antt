use Rattle.std.proofs.Common.{Bool, length, sym, ap, ◌∙◌, subst, arith}
use Rattle.std.proofs.Math.Logic.{∥∥₁_map}
use Rattle.std.proofs.lemmas.Bool.{true≢false}
use Rattle.kv_session.specs.Passage.{Streams}
use Rattle.kv_session_party.specs.Links.{told_to, heard_from}
use Rattle.kv_session_party.specs.Promise.{IsServed, Tells}
use Rattle.kv_session_party.proofs.PartyLemmas.{of-none, none-of, ends-closing, away-asked}
use Rattle.kv_session_party.proofs.RouteLemmas.{AreKept-length, ArePlaces-length}
use Rattle.kv_session_party.proofs.TakenLemmas.{taken-kept, taken-routable}
use Rattle.kv_session_party.proofs.TaleLemmas.{Tells-asked}
use Rattle.kv_session_party.proofs.party.SessionParty.ask_group.Goals as goal

pub split-requires-clause-routable : goal.split-requires-clause-routable
split-requires-clause-routable g c =
    let read = c.gather-gathered.ensures.gathered in
    taken-routable read.0 c.gather-gathered.new.tasks.items read.1

pub invariant_of-self : goal.invariant_of-self
invariant_of-self g c =
    let streams : Streams g.row.So.Denot g.row.Si.Denot = record {
      stream = g.So.Source.stream;
      source_faults = g.So.Source.faults;
      held = g.Si.Sink.held;
      sink_faults = g.Si.Sink.faults;
    } in
    let old = c.args.self.now in
    let new = c.ask.new.links in
    let after = c.ask.new.routes in
    let routes = c.split.new.self in
    let gather = c.gather-gathered.ensures in
    let read = gather.gathered in
    let split = c.split.ensures in
    let routed = split.routed in
    let asks = c.ask.ensures in
    let tasks = c.gather-gathered.new.tasks.items in
    let places = ArePlaces-length (length routes.parts) routed.0 routes.places routed.2.places in
    let kept = AreKept-length tasks routed.0 routed.1 in
    let most = gather.most in
    let behind = ap length asks.places in
    let given = split.spare in
    let taken = gather.spare in
    let room = old.room in
    record {
      size = asks.size ∙ split.size ∙ old.size ∙ sym asks.rings.peers;
      few = omega (arith, behind, places, kept, most);
      idle = ap length split.no_tasks;
      room = omega (arith, given, taken, room);
      ended = c.requires.goes_on ∙ sym (of-none _ gather.goes_on);
      closed = c.ends_reading-self.ensures ∙ ends-closing c.gather-gathered.result
          c.gather-gathered.new.self.closing gather.ends;
      reads = λ going e. absurd (true≢false e);
      told = λ going e. absurd (true≢false e);
      rests = λ e. sym e ∙ c.requires.goes_on;
      away = λ going. away-asked old.seen old.links new routes after asks;
      bare = λ e. absurd (true≢false e);
      promise = λ setting served.
          let same = subst (IsServed setting) asks.rings.peers served in
          ∥∥₁_map (old.promise setting same)
          (λ t. Tells-asked streams setting old.first.value.source old.first.value.sink old.session
          c.gather-gathered.new.self (told_to old.links) (told_to new) (heard_from old.links)
          (heard_from new) old.seen old.routes routes after read.0 routed.0 served.layout
          (none-of _ (sym old.ended ∙ c.requires.goes_on))
          (λ groups. read.2 old.first.value.source old.first.value.sink groups)
          (taken-kept read.0 tasks routed.0 read.1 routed.1) (omega (arith, kept, most)) routed.2
          (split.size ∙ old.size ∙ sym same.workers_are) asks.told asks.heard asks.parts
          asks.places asks.size
          (subst (λ (w : Bool). Tells streams setting old.first.value.source
          old.first.value.sink old.session (told_to old.links) (heard_from old.links) old.seen
          old.routes w old.seat.view old.lifted) c.requires.reads t));
    }
