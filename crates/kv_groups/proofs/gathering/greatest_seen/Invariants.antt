-- the rest of the connections decides
use Rattle.std.proofs.Common.{◌≡◌, drop, map, max}
use Rattle.kv_groups.specs.Gathering.{seen_in, greatest}
use Rattle.kv_groups.proofs.gathering.greatest_seen.Given as goal

abbrev pub invariant-loop-connection : goal.invariant-loop-connection
invariant-loop-connection g l =
    max l.most (greatest (map seen_in (drop l.connection-index l.connection-items)))
    ≡ greatest (map seen_in l.connection-items)
