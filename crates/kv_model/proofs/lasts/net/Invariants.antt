-- those of the last writes so far that change something
use Rattle.std.proofs.Common.{◌≡◌, take, filter}
use Rattle.kv_model.specs.Batch.{changes_something}
use Rattle.kv_model.specs.Oracle.{history_of, seen_of, start_of}
use Rattle.kv_model.proofs.lasts.net.Given as goal

abbrev pub invariant-loop-write : goal.invariant-loop-write
invariant-loop-write l = history_of l.changes.items
    ≡ filter (changes_something (start_of l.found)) (seen_of (take l.write-index l.write-items))
