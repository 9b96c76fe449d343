use Rattle.std.proofs.Common.{Option, Some, ap, subst, sym, ◌∙◌, refl}
use Rattle.kv_base.specs.declared.cause.Cause.{Cause}
use Rattle.kv_session.specs.declared.ending.Ending.{Ending}
use Rattle.kv_session.specs.Passage.{Streams}
use Rattle.kv_session.specs.Session.{SessionState}
use Rattle.kv_session.proofs.PassageLemmas.{EndsAs}
use Rattle.kv_session.proofs.DeliveryLemmas.{Delivers-sent}
use Rattle.kv_session.proofs.session.Session.deliver.Goals as goal

-- the session goes on
pub returns-in-None-clause-delivered : goal.returns-in-None-clause-delivered
returns-in-None-clause-delivered g c source sink groups asked replies each are read =
    let State = SessionState g.row.So.Denot g.row.Si.Denot in
    let streams : Streams g.row.So.Denot g.row.Si.Denot = record {
      stream = g.So.Source.stream;
      source_faults = g.So.Source.faults;
      held = g.Si.Sink.held;
      sink_faults = g.Si.Sink.faults;
    } in
    let p = c.send-whole.ensures in
    let left = c.send-whole.new.self.items in
    let ending = ap (λ (s : State). s.ending) c.self.view_is ∙ c.requires.goes_on in
    Delivers-sent streams source sink groups asked replies _ c.args.self.now _ c.load.new.self.items
    left p.sent.0 c.send-whole.result c.self.view_is each read
    (record {
      source = refl;
      waiting = refl;
      taken = refl;
      ended = refl;
      closing = refl;
      after = refl;
    })
    (c.load.ensures.items replies are) c.load.ensures.framed p.sent.1 p.sent.2 p.all p.some
    p.counted
    (subst (λ (cause : Option Cause). EndsAs cause left c.self.inside.reader.taken
    c.self.inside.ending) (sym c.in-None.is ∙ c.end_for.ensures) ending)

-- the session has ended
pub returns-in-Some-clause-delivered : goal.returns-in-Some-clause-delivered
returns-in-Some-clause-delivered g c source sink groups asked replies each are read =
    let streams : Streams g.row.So.Denot g.row.Si.Denot = record {
      stream = g.So.Source.stream;
      source_faults = g.So.Source.faults;
      held = g.Si.Sink.held;
      sink_faults = g.Si.Sink.faults;
    } in
    let p = c.send-whole.ensures in
    let left = c.send-whole.new.self.items in
    let ending : Ending = record {
      taken = c.taken.result;
      cause = c.in-Some.cause;
      undelivered = c.take_left.result;
    } in
    Delivers-sent streams source sink groups asked replies _ c.args.self.now _ c.load.new.self.items
    left p.sent.0 c.send-whole.result c.self.view_is each read
    (record {
      source = refl;
      waiting = refl;
      taken = refl;
      ended = refl;
      closing = refl;
      after = refl;
    })
    (c.load.ensures.items replies are) c.load.ensures.framed p.sent.1 p.sent.2 p.all p.some
    p.counted
    (subst (λ (cause : Option Cause). EndsAs cause left c.self.inside.reader.taken (Some ending))
    (sym c.in-Some.is ∙ c.end_for.ensures)
    (ending, refl, refl, c.taken.ensures.value, c.take_left.ensures.items))
