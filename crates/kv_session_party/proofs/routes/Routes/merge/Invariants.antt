use Rattle.std.proofs.Common.{◌≡◌, ◌+◌, ◌≤◌, length}
use Rattle.kv_session_party.proofs.MergeLemmas.{Merges}
use Rattle.kv_session_party.proofs.routes.Routes.merge.Given as goal

abbrev pub invariant-loop-place : goal.invariant-loop-place
invariant-loop-place l = record {
  merges : Merges l.initial.self-inside.places.items l.self-inside.places.items
      l.initial.self-inside.parts.items l.self-inside.parts.items l.tasks.items;
  few : length l.self-inside.places.items + length l.tasks.items ≤ 64;
  spare : l.tasks.spare + length l.tasks.items ≡ l.initial.tasks.spare;
  room : 64 ≤ length l.self-inside.places.items + l.self-inside.places.spare;
}

abbrev pub decreases-loop-place : goal.decreases-loop-place
decreases-loop-place l = length l.self-inside.places.items
