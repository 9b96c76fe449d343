-- The rooms so far are split.
use Rattle.std.proofs.Common.{◌≡◌, ◌+◌, ◌≤◌, length, map, take}
use Rattle.kv_slab.proofs.lists.split_rooms.Given as goal

abbrev pub invariant-loop-room : goal.invariant-loop-room
invariant-loop-room l = record {
  stacks : l.stacks.items ≡ map (λ room. room.stack) (take l.room-index l.rooms);
  ends : l.ends.items ≡ map (λ room. room.end) (take l.room-index l.rooms);
  room : length l.rooms ≤ l.stacks.spare + l.room-index;
  room_too : length l.rooms ≤ l.ends.spare + l.room-index;
}
