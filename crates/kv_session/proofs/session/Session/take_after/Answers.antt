-- The After is then the group that has no reply yet.
use Rattle.std.proofs.Common.{[], ap, subst, sym, ◌∙◌, ◌≡◌, Option, Some, None, refl, IfSome}
use Rattle.kv_session.specs.Passage.{Streams, HasRead}
use Rattle.kv_session.specs.Session.{SessionState}
use Rattle.kv_session.proofs.PassageLemmas.{HasRead-after, after-asks}
use Rattle.kv_session.proofs.session.Session.take_after.Goals as goal

pub returns-clause-asks : goal.returns-clause-asks
returns-clause-asks g c =
    let State = SessionState g.row.So.Denot g.row.Si.Denot in
    let streams : Streams g.row.So.Denot g.row.Si.Denot = record {
      stream = g.So.Source.stream;
      source_faults = g.So.Source.faults;
      held = g.Si.Sink.held;
      sink_faults = g.Si.Sink.faults;
    } in
    after-asks streams _ _ c.self.view_is
