-- The laws are those of the lemmas.
use Rattle.kv_slot.proofs.LargeAgainLemmas.{large_items_again, other_stamps_tear}
use Rattle.kv_slot.proofs.laws.large_slots_read_again.Goals as goal

pub returns : goal.returns
returns c = record { items = large_items_again; torn = other_stamps_tear }
