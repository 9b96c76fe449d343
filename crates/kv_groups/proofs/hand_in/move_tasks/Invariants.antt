-- the first tasks were moved
use Rattle.std.proofs.Common.{◌≡◌, ◌+◌, ◌++◌, take, drop}
use Rattle.kv_groups.specs.Batched.{of_session}
use Rattle.kv_groups.proofs.hand_in.move_tasks.Given as goal

abbrev pub invariant-loop-at : goal.invariant-loop-at
invariant-loop-at l = record {
  moved : l.batch.items
      ≡ l.initial.batch.items ++ of_session l.session (take l.at l.initial.tasks);
  room : l.batch.spare + l.at ≡ l.initial.batch.spare;
  rest : drop l.at l.tasks ≡ drop l.at l.initial.tasks;
}
