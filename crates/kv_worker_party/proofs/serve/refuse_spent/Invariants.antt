-- the tasks so far have the refusal
use Rattle.std.proofs.Common.{map}
use Rattle.kv_base.specs.declared.reply.Reply.TheVariants.{StampsSpent}
use Rattle.kv_worker.specs.Batches.{requests_in}
use Rattle.kv_worker.proofs.FillLemmas.{AreFilled}
use Rattle.kv_worker_party.proofs.serve.refuse_spent.Given as goal

abbrev pub invariant-loop-at : goal.invariant-loop-at
invariant-loop-at l = AreFilled l.fn.batch.items l.tasks
    (map (λ _. StampsSpent l.number) (requests_in l.fn.batch.items)) l.at
