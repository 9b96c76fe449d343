-- the slots so far
use Rattle.std.proofs.Common.{◌≡◌, ◌++◌, map}
use Rattle.std.specs.List.{range_with_len}
use Rattle.kv_model.specs.Plain.{place_at}
use Rattle.kv_model.proofs.image.push_places.Given as goal

abbrev pub invariant-loop-slot : goal.invariant-loop-slot
invariant-loop-slot l = l.places.items
    ≡ l.initial.places.items ++ map (place_at l.class) (range_with_len 0 l.slot)
