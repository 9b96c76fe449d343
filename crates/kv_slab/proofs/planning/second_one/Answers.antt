-- Beside the slot that is left nothing is written.
use Rattle.kv_slab.proofs.LeaveSteps.{on_ok_map}
use Rattle.kv_slab.proofs.planning.second_one.Goals as goal

pub returns-in-Some-clause-still : goal.returns-in-Some-clause-still
returns-in-Some-clause-still g c = λ told. on_ok_map c.write_tombstone.result
    (c.write_tombstone.ensures.set told) (λ set cl s none. set.still cl s
    (none c.in-Some.place c.in-Some.is))
