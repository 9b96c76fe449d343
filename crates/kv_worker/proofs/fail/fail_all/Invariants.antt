-- the replies so far are changed
use Rattle.std.proofs.Common.{◌≡◌, ◌≤◌, length}
use Rattle.kv_worker.specs.Batches.{requests_in}
use Rattle.kv_worker.proofs.FailLemmas.{IsFailing}
use Rattle.kv_worker.proofs.fail.fail_all.Given as goal

abbrev pub invariant-loop-item : goal.invariant-loop-item
invariant-loop-item l = record {
  at_ : l.at ≡ l.item-index;
  within : l.item-index ≤ length l.tasks;
  failing : IsFailing l.base (requests_in l.tasks) l.fn.replies.items l.replies.items l.item-index;
}
