-- The laws are those of the lemmas.
use Rattle.kv_slab.proofs.BatchLemmas.{changes_take_slots, changes_leave_free}
use Rattle.kv_slab.proofs.laws.changes_are_a_batch.Goals as goal

pub returns : goal.returns
returns c = record { taken = changes_take_slots; free = changes_leave_free }
