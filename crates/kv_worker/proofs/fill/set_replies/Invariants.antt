-- the tasks so far have their replies
use Rattle.std.proofs.Common.{◌≡◌, length}
use Rattle.kv_worker.proofs.FillLemmas.{AreFilled}
use Rattle.kv_worker.proofs.fill.set_replies.Given as goal

abbrev pub invariant-loop-reply : goal.invariant-loop-reply
invariant-loop-reply l = record {
  at_ : l.at ≡ length l.yielded;
  filled : AreFilled l.fn.batch.items l.tasks l.fn.replies.items (length l.yielded);
}
