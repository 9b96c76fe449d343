-- the last sessions were delivered to
use Rattle.std.proofs.Common.{◌≡◌, ◌+◌, length, List}
use Rattle.kv_ring.specs.Ends.{SameRings}
use Rattle.kv_ring.specs.declared.task.Task.{Task}
use Rattle.kv_groups.specs.Delivering.{AreBack}
use Rattle.kv_groups.proofs.DeliverLemmas.{DeliversFrom}
use Rattle.kv_groups.proofs.delivering.deliver.Given as goal

abbrev pub invariant-loop-session : goal.invariant-loop-session
invariant-loop-session g l = record {
  size : length l.connections.items ≡ length l.initial.connections.items;
  rings : SameRings l.initial.ends l.ends;
  room : l.batch.spare + length l.batch.items
      ≡ l.initial.batch.spare + length l.initial.batch.items;
  from : (groups : List (List Task))
      → AreBack l.initial.connections.items groups l.initial.batch.items
      → DeliversFrom l.initial.ends l.ends l.initial.connections.items l.connections.items groups
      l.batch.items l.session;
}
