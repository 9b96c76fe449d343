use Rattle.std.proofs.Common.{◌≡◌, length}
use Rattle.std.specs.List.{AllByRecursion}
use Rattle.kv_parties.specs.Messages.{IsReplied}
use Rattle.kv_session_party.specs.Parts.{have_replies}
use Rattle.kv_session_party.proofs.part.have_replies.Given as goal

abbrev pub invariant-loop-task : goal.invariant-loop-task
invariant-loop-task l = record {
  fits : have_replies l.tasks ≡ have_replies l.left;
  replied : AllByRecursion IsReplied l.left → AllByRecursion IsReplied l.tasks;
}

abbrev pub decreases-loop-task : goal.decreases-loop-task
decreases-loop-task l = length l.left
