-- The laws are those of the lemmas.
use Rattle.kv_slot.proofs.PlaceLemmas.{stay_in_place, have_their_size, begin_with_stamp}
use Rattle.kv_slot.proofs.laws.slots_stay_in_place.Goals as goal

pub returns : goal.returns
returns c = record { place = stay_in_place; size = have_their_size; stamp = begin_with_stamp }
