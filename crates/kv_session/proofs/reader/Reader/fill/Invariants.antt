use Rattle.std.proofs.Common.{◌≡◌, ◌+◌, ◌-◌, ◌^◌, cond}
use Rattle.kv_session.specs.Reading.{Arrives, StaysDecided}
use Rattle.kv_session.proofs.reader.Reader.fill.Given as goal

abbrev pub invariant-loop-cause : goal.invariant-loop-cause
invariant-loop-cause g l =
    Arrives (g.So.Source.stream l.initial.self.source) (g.So.Source.stream l.self.source)
    l.initial.self.waiting l.self.waiting l.initial.self.taken l.self.taken
    × (g.So.Source.faults l.self.source ≡ g.So.Source.faults l.initial.self.source)
    × StaysDecided l.initial.self l.self

abbrev pub decreases-loop-cause : goal.decreases-loop-cause
decreases-loop-cause g l = (2 ^ 40 - l.self.taken) + cond l.self.ended 0 1
