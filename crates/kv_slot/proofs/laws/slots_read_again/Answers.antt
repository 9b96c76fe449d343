-- The laws are those of the lemmas.
use Rattle.kv_slot.proofs.AgainLemmas.{items_again, tombstones_again, large_tombstones_again}
use Rattle.kv_slot.proofs.laws.slots_read_again.Goals as goal

pub returns : goal.returns
returns c = record {
  items = items_again;
  tombstones = tombstones_again;
  large_tombstones = large_tombstones_again;
}
