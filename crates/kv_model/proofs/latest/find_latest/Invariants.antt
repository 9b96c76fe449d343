-- the best so far is the latest of the writes so far
use Rattle.std.proofs.Common.{◌≡◌, take}
use Rattle.std.specs.Option.{option_map, option_copied}
use Rattle.kv_model.specs.History.{latest}
use Rattle.kv_model.specs.Oracle.{history_of, write_of}
use Rattle.kv_model.proofs.latest.find_latest.Given as goal

abbrev pub invariant-loop-write : goal.invariant-loop-write
invariant-loop-write l = option_map write_of (option_copied l.best)
    ≡ latest (history_of (take l.write-index l.writes)) l.stamp l.key
