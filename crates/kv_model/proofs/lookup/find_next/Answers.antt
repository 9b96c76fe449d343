-- one more write
use Rattle.std.proofs.Common.{arith, refl}
use Rattle.std.proofs.lemmas.List.{map_more}
use Rattle.kv_model.specs.Oracle.{write_of}
use Rattle.kv_model.proofs.lookup.find_next.Goals as goal

pub loop-write-preserved : goal.loop-write-preserved
loop-write-preserved c =
    rw (
      map_more write_of c.args.writes.now c.loop-write.write-index c.write-item.result
          (omega arith),
      ← c.write-item.is,
    ) (c.nearer-next.ensures _ _ refl c.loop-write.invariant)
