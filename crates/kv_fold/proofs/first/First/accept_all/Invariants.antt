use Rattle.std.proofs.Common.{◌≡◌}
use Rattle.kv_model.specs.Fold.{most_bytes}
use Rattle.kv_fold.specs.Prefixes.{accept_all}
use Rattle.kv_fold.proofs.first.First.accept_all.Given as goal

abbrev pub invariant-loop-key : goal.invariant-loop-key
invariant-loop-key l = record {
  most : l.self.most ≡ l.initial.self.most;
  first : l.self.first ≡ accept_all l.initial.self.most most_bytes l.yielded l.initial.self.first;
}
