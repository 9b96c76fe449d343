-- the pages so far, and room for the others
use Rattle.std.proofs.Common.{◌≡◌, ◌+◌, ◌≤◌, map}
use Rattle.std.specs.List.{range_with_len}
use Rattle.kv_model.specs.SlotBytes.{large_page}
use Rattle.kv_slot.proofs.large.put_large.Given as goal

abbrev pub invariant-loop-number : goal.invariant-loop-number
invariant-loop-number l = record {
  written : l.pages.items ≡ map (large_page l.stamp l.key l.value) (range_with_len 0 l.number);
  room : l.count ≤ l.pages.spare + l.number;
}
