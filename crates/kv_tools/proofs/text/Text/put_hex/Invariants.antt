-- The bytes before those that are left were put.
use Rattle.std.proofs.Common.{◌≡◌, length}
use Rattle.kv_tools.proofs.SentLemmas.{IsPutTo}
use Rattle.kv_tools.proofs.text.Text.put_hex.Given as goal

abbrev pub invariant-loop-rest : goal.invariant-loop-rest
invariant-loop-rest g l = record {
  put : IsPutTo (g.Si.Sink.held l.initial.out) (g.Si.Sink.held l.out) l.initial.self l.self
      l.initial.rest l.rest;
  calm : g.Si.Sink.faults l.out ≡ g.Si.Sink.faults l.initial.out;
}

abbrev pub decreases-loop-rest : goal.decreases-loop-rest
decreases-loop-rest g l = length l.rest
