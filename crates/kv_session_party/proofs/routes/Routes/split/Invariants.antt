use Rattle.std.proofs.Common.{◌≡◌, ◌+◌, length}
use Rattle.kv_session_party.proofs.RouteLemmas.{Splits}
use Rattle.kv_session_party.proofs.routes.Routes.split.Given as goal

abbrev pub invariant-loop-task : goal.invariant-loop-task
invariant-loop-task l = record {
  splits : Splits l.fn.tasks.items l.tasks.items l.self (length l.fn.self.parts);
  spare : l.tasks.spare + length l.tasks.items ≡ l.fn.tasks.spare + length l.fn.tasks.items;
}

abbrev pub decreases-loop-task : goal.decreases-loop-task
decreases-loop-task l = length l.tasks.items
