use Rattle.std.proofs.Common.{◌≡◌, length, take, ◌-◌, ◌≤◌}
use Rattle.kv_base.specs.Stream.{Takes}
use Rattle.kv_base.specs.Pieces.{IsUpTo}
use Rattle.kv_base.proofs.sink.Sink.write_pieces.Given as goal

abbrev pub invariant-loop-whole : goal.invariant-loop-whole
invariant-loop-whole g l = record {
  up_to : IsUpTo 0 l.ends l.whole l.sent;
  whole : l.whole ≤ length l.ends;
  sent : l.sent ≤ length l.bytes;
  took : Takes (g.Self.Sink.held l.initial.self) (g.Self.Sink.held l.self) (take l.sent l.bytes);
  faults : g.Self.Sink.faults l.self ≡ g.Self.Sink.faults l.initial.self;
}

abbrev pub decreases-loop-whole : goal.decreases-loop-whole
decreases-loop-whole g l = length l.bytes - l.sent
