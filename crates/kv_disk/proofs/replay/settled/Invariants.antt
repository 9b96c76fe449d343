-- The pages so far have their contents.
use Rattle.std.proofs.Common.{◌≡◌, ◌≤◌, map, take, vec_capacity}
use Rattle.kv_disk.specs.Replay.{held_with, chosen_in}
use Rattle.kv_disk.proofs.replay.settled.Given as goal

abbrev pub invariant-loop-spot : goal.invariant-loop-spot
invariant-loop-spot l = record {
  items : l.pages.items ≡ map (λ s. held_with s (chosen_in l.start l.log l.choice s.file s.page))
      (take l.spot-index l.spots);
  capacity : l.room ≤ vec_capacity l.pages;
}
