-- the first sessions were gathered from
use Rattle.std.proofs.Common.{◌≡◌, ◌≤◌, ◌+◌, ◌*◌, length}
use Rattle.kv_groups.proofs.GatherLemmas.{GathersFirst}
use Rattle.kv_groups.proofs.gathering.gather.Given as goal

abbrev pub invariant-loop-session : goal.invariant-loop-session
invariant-loop-session g l = record {
  first : GathersFirst l.worker l.workers l.initial.ends l.ends l.initial.connections.items
      l.connections.items l.initial.batch.items l.batch.items l.session l.moved;
  room : l.batch.spare + length l.batch.items
      ≡ l.initial.batch.spare + length l.initial.batch.items;
  few : length l.batch.items ≤ length l.initial.batch.items + 64 * l.session;
}
