use Rattle.std.proofs.Common.{[], ap, subst, sym, ◌∙◌, refl}
use Rattle.kv_session.specs.Passage.{Streams, HasRead}
use Rattle.kv_session.specs.Session.{SessionState}
use Rattle.kv_session.specs.declared.gathered.Gathered.TheVariants as gathered
use Rattle.kv_session.proofs.PassageLemmas.{HasRead-group}
use Rattle.kv_session.proofs.session.Session.gather.Goals as goal

-- reading goes on
pub returns-in-More-clause-gathered : goal.returns-in-More-clause-gathered
returns-in-More-clause-gathered g c =
    let p = c.in-More.ensures in
    let State = SessionState g.row.So.Denot g.row.Si.Denot in
    let streams : Streams g.row.So.Denot g.row.Si.Denot = record {
      stream = g.So.Source.stream;
      source_faults = g.So.Source.faults;
      held = g.Si.Sink.held;
      sink_faults = g.Si.Sink.faults;
    } in
    let reads = ap (λ (s : State). s.closing) c.self.view_is ∙ c.requires.reads in
    let told = ap (λ (s : State). s.after) c.self.view_is ∙ c.requires.told in (
      p.group.0,
      p.group.1,
      λ source sink groups read.
          HasRead-group streams source sink groups p.group.0 _ _ gathered.More
          (subst (λ (s : State). HasRead streams source sink groups [] s) (sym c.self.view_is) read)
          reads told reads told p.group.2 tt p.spent p.counted refl refl,
    )

-- an After comes next
pub returns-in-After-clause-gathered : goal.returns-in-After-clause-gathered
returns-in-After-clause-gathered g c =
    let p = c.in-After.ensures in
    let State = SessionState g.row.So.Denot g.row.Si.Denot in
    let streams : Streams g.row.So.Denot g.row.Si.Denot = record {
      stream = g.So.Source.stream;
      source_faults = g.So.Source.faults;
      held = g.Si.Sink.held;
      sink_faults = g.Si.Sink.faults;
    } in
    let reads = ap (λ (s : State). s.closing) c.self.view_is ∙ c.requires.reads in
    let told = ap (λ (s : State). s.after) c.self.view_is ∙ c.requires.told in (
      p.group.0,
      p.group.1,
      λ source sink groups read.
          HasRead-group streams source sink groups p.group.0 _ _ (gathered.After c.in-After.stamp)
          (subst (λ (s : State). HasRead streams source sink groups [] s) (sym c.self.view_is) read)
          reads told reads refl p.group.2 tt p.spent p.counted refl refl,
    )

-- reading ended
pub returns-in-Ending-clause-gathered : goal.returns-in-Ending-clause-gathered
returns-in-Ending-clause-gathered g c =
    let p = c.in-Ending.ensures in
    let State = SessionState g.row.So.Denot g.row.Si.Denot in
    let streams : Streams g.row.So.Denot g.row.Si.Denot = record {
      stream = g.So.Source.stream;
      source_faults = g.So.Source.faults;
      held = g.Si.Sink.held;
      sink_faults = g.Si.Sink.faults;
    } in
    let reads = ap (λ (s : State). s.closing) c.self.view_is ∙ c.requires.reads in
    let told = ap (λ (s : State). s.after) c.self.view_is ∙ c.requires.told in (
      p.group.0,
      p.group.1,
      λ source sink groups read.
          HasRead-group streams source sink groups p.group.0 _ _ (gathered.Ending c.in-Ending.cause)
          (subst (λ (s : State). HasRead streams source sink groups [] s) (sym c.self.view_is) read)
          reads told refl told p.group.2 p.over p.spent p.counted refl refl,
    )
