-- the slots of the classes so far
use Rattle.std.proofs.Common.{◌≡◌, ◌-◌}
use Rattle.std.specs.List.{flat_map, range_with_len}
use Rattle.kv_model.specs.Plain.{places_in}
use Rattle.kv_model.proofs.image.places_of.Given as goal

abbrev pub invariant-loop-class : goal.invariant-loop-class
invariant-loop-class l = l.places.items
    ≡ flat_map (places_in l.ends) (range_with_len 1 (l.class - 1))
