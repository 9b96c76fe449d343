-- the rest of the connections decides
use Rattle.std.proofs.Common.{◌≡◌, drop}
use Rattle.kv_groups.specs.Delivering.{all_ended}
use Rattle.kv_groups.proofs.delivering.all_ended.Given as goal

abbrev pub invariant-loop-connection : goal.invariant-loop-connection
invariant-loop-connection g l = all_ended (drop l.connection-index l.connection-items)
    ≡ all_ended l.connection-items
