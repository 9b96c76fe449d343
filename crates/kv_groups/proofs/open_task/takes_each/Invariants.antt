-- the rest of the tasks decides
use Rattle.std.proofs.Common.{◌≡◌, drop}
use Rattle.kv_groups.specs.Taking.{takes_each}
use Rattle.kv_groups.proofs.open_task.takes_each.Given as goal

abbrev pub invariant-loop-task : goal.invariant-loop-task
invariant-loop-task l = takes_each l.worker l.workers (drop l.task-index l.tasks)
    ≡ takes_each l.worker l.workers l.tasks
