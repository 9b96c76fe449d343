-- The classes so far are copied.
use Rattle.std.proofs.Common.{◌≡◌, take}
use Rattle.kv_slab.specs.Memory.{rooms_of}
use Rattle.kv_slab.proofs.lists.copy_rooms.Given as goal

abbrev pub invariant-loop-class : goal.invariant-loop-class
invariant-loop-class l = record {
  copied : l.rooms.items ≡ take l.class (rooms_of l.stacks l.ends);
}
