-- the greatest floor is that so far, or one of the rest
use Rattle.std.proofs.Common.{◌≡◌, drop, max}
use Rattle.kv_groups.specs.Gathering.{greatest}
use Rattle.kv_mesh.specs.Started.{floors}
use Rattle.kv_mesh.proofs.first_stamp.first_stamp.Given as goal

abbrev pub invariant-loop-opened : goal.invariant-loop-opened
invariant-loop-opened g l = max l.greatest (greatest (floors (drop l.opened-index l.stores)))
    ≡ greatest (floors l.stores)
