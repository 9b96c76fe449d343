-- the last of the writes so far
use Rattle.std.proofs.Common.{◌≡◌, take}
use Rattle.std.specs.Option.{option_copied, option_map}
use Rattle.kv_model.specs.Batch.{last_write}
use Rattle.kv_model.specs.Oracle.{history_of, write_of}
use Rattle.kv_model.proofs.found.last_write.Given as goal

abbrev pub invariant-loop-write : goal.invariant-loop-write
invariant-loop-write l = option_map write_of (option_copied l.last)
    ≡ last_write (history_of (take l.write-index l.written)) l.key
