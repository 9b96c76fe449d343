-- those that were found, and then those of the writes that are left
use Rattle.std.proofs.Common.{◌≡◌, ◌++◌, drop}
use Rattle.kv_model.specs.Batch.{last_writes}
use Rattle.kv_model.specs.Oracle.{history_of, seen_of}
use Rattle.kv_model.proofs.lasts.last_writes.Given as goal

abbrev pub invariant-loop-i : goal.invariant-loop-i
invariant-loop-i l = seen_of l.lasts.items ++ last_writes (history_of (drop l.i l.written))
    ≡ last_writes (history_of l.written)
