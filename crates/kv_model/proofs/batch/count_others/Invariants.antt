-- those of the writes so far
use Rattle.std.proofs.Common.{◌≡◌, ◌≤◌, ◌&&◌, not, take}
use Rattle.std.specs.List.{count_by}
use Rattle.std.specs.Str.{bytes_eq}
use Rattle.kv_model.specs.Batch.{takes_slot}
use Rattle.kv_model.specs.Oracle.{start_of, seen_of}
use Rattle.kv_model.proofs.batch.count_others.Given as goal

abbrev pub invariant-loop-write : goal.invariant-loop-write
invariant-loop-write l = record {
  few : l.count ≤ l.write-index;
  is : l.count ≡ count_by (λ write. not (bytes_eq write.key l.key)
      && takes_slot (start_of l.found) l.class write) (seen_of (take l.write-index l.lasts));
}
