-- the tasks so far have the refusal
use Rattle.std.proofs.Common.{map}
use Rattle.kv_worker.specs.Batches.{requests_in}
use Rattle.kv_worker.specs.Refusals.{reply_for}
use Rattle.kv_worker.proofs.FillLemmas.{AreFilled}
use Rattle.kv_worker.proofs.fill.refuse_all.Given as goal

abbrev pub invariant-loop-at : goal.invariant-loop-at
invariant-loop-at l = AreFilled l.fn.batch.items l.tasks
    (map (λ _. reply_for l.refusal) (requests_in l.fn.batch.items)) l.at
