-- the free slots so far
use Rattle.std.proofs.Common.{◌≡◌}
use Rattle.kv_model.specs.Plain.{free_in}
use Rattle.kv_model.proofs.image.free_in.Given as goal

abbrev pub invariant-loop-slot : goal.invariant-loop-slot
invariant-loop-slot l = l.slots.items ≡ free_in l.class l.kept l.slot
