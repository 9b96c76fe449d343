-- The contents so far are those of the pages so far.
use Rattle.std.proofs.Common.{◌≡◌, ◌≤◌, map, take, vec_capacity}
use Rattle.kv_disk.proofs.replay.contents_of.Given as goal

abbrev pub invariant-loop-held : goal.invariant-loop-held
invariant-loop-held l = record {
  items : l.contents.items ≡ map (λ held. held.content) (take l.held-index l.pages);
  capacity : l.room ≤ vec_capacity l.contents;
}
