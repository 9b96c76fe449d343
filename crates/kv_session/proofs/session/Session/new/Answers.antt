use Rattle.std.proofs.Common.{refl}
use Rattle.kv_session.specs.Passage.{Streams}
use Rattle.kv_session.proofs.PassageLemmas.{HasRead-new}
use Rattle.kv_session.proofs.session.Session.new.Goals as goal

pub returns-in-Ok-new-clause-begins : goal.returns-in-Ok-new-clause-begins
returns-in-Ok-new-clause-begins g c =
    let streams : Streams g.row.So.Denot g.row.Si.Denot = record {
      stream = g.So.Source.stream;
      source_faults = g.So.Source.faults;
      held = g.Si.Sink.held;
      sink_faults = g.Si.Sink.faults;
    } in
    let p = c.in-Ok-new.ensures.ok in
    HasRead-new streams c.args.source c.args.sink _ (record {
      none_waits = p.0.none_waits;
      none_taken = p.0.none_taken;
      input = p.0.goes_on;
      reads = refl;
      none_after = refl;
      goes_on = refl;
    }) p.1 refl
