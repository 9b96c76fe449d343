use Rattle.std.proofs.Common.{◌≡◌, length}
use Rattle.kv_session_party.specs.Party.{greatest_in}
use Rattle.kv_session_party.proofs.greatest.greatest.Given as goal

abbrev pub invariant-loop-task : goal.invariant-loop-task
invariant-loop-task l = greatest_in l.seen l.tasks ≡ greatest_in l.greatest l.left

abbrev pub decreases-loop-task : goal.decreases-loop-task
decreases-loop-task l = length l.left
