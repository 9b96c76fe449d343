-- the last tasks were moved back
use Rattle.std.proofs.Common.{◌≡◌, ◌≤◌, ◌+◌, ◌++◌, ℕ, List, length, map, take, drop}
use Rattle.kv_ring.specs.declared.task.Task.{Task}
use Rattle.kv_groups.proofs.hand_in.take_tasks.Given as goal

abbrev pub invariant-loop-at : goal.invariant-loop-at
invariant-loop-at l = record {
  some : l.at ≤ length l.batch.items;
  taken : (front back : List (ℕ × Task)) → l.initial.batch.items ≡ front ++ back
      → length back ≡ length l.initial.tasks → (l.batch.items ≡ front ++ take l.at back)
      × (drop l.at l.tasks ≡ drop l.at (map (λ item. item.1) back));
  room : l.batch.spare + l.at ≡ l.initial.batch.spare + length l.initial.tasks;
}
