use Rattle.std.proofs.Common.{sym, ap, ◌∙◌, subst}
use Rattle.std.specs.Prelude.{◌||◌}
use Rattle.std.proofs.Math.Logic.{∥∥₁_map}
use Rattle.kv_ring.specs.Turn.{turn_of}
use Rattle.kv_session.specs.Passage.{Streams}
use Rattle.kv_session_party.specs.Links.{told_to, heard_from}
use Rattle.kv_session_party.specs.Promise.{IsServed}
use Rattle.kv_session_party.proofs.PartyLemmas.{of-none, none-of}
use Rattle.kv_session_party.proofs.PromiseLemmas.{tells-same}
use Rattle.kv_session_party.proofs.TaleLemmas.{Tells-same}
use Rattle.kv_session_party.proofs.party.SessionParty.turn.Goals as goal

pub invariant_of-self : goal.invariant_of-self
invariant_of-self g c =
    let streams : Streams g.row.So.Denot g.row.Si.Denot = record {
      stream = g.So.Source.stream;
      source_faults = g.So.Source.faults;
      held = g.Si.Sink.held;
      sink_faults = g.Si.Sink.faults;
    } in
    let old = c.args.self.now in
    let new = c.push-pushed.new.self in
    let pushed = c.push-pushed.ensures.pushed in
    let rings = c.push-pushed.ensures.rings in
    record {
      size = old.size ∙ sym rings.peers;
      few = old.few;
      idle = old.idle;
      room = old.room;
      ended = old.ended;
      closed = old.closed;
      reads = old.reads;
      told = old.told;
      rests = old.rests;
      away = λ going worker here.
          of-none _ (pushed.free worker (none-of _ (old.away going worker here)));
      bare = old.bare;
      promise = λ setting served. ∥∥₁_map
          (old.promise setting (subst (IsServed setting) rings.peers served))
          (λ t. Tells-same streams setting old.first.value.source old.first.value.sink old.session
          (told_to old.links) (told_to new) (heard_from old.links) (heard_from new) old.seen
          old.routes old.waiting (tells-same setting.workers (told_to old.links) (told_to new)
          pushed.told) pushed.heard t);
    }

pub returns-clause-waits : goal.returns-clause-waits
returns-clause-waits g c = λ waiting. record {
  between = c.push-pushed.new.self;
  came = c.go_on-moved.result;
  pushes = c.push-pushed.ensures.pushed;
  waits = c.go_on-moved.ensures.waits waiting;
  result_is = c.of.ensures ∙ ap (λ b. turn_of b c.either.result) c.ended.ensures.value
      ∙ ap (turn_of _) (c.either.ensures
      ∙ ap (λ b. b || c.go_on-moved.result) c.push-pushed.ensures.moved);
}
