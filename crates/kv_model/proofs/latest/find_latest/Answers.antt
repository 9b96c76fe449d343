-- One more write is compared with the best so far.
use Rattle.std.proofs.Common.{arith, ap, Some}
use Rattle.std.proofs.lemmas.List.{map_more}
use Rattle.kv_model.specs.Oracle.{write_of}
use Rattle.kv_model.proofs.HistoryLemmas.{latest-push}
use Rattle.kv_model.proofs.latest.find_latest.Goals as goal
use Rattle.kv_model.proofs.latest.find_latest.Goals.{then-counts, else-counts}

pub loop-write-preserved : goal.loop-write-preserved
loop-write-preserved c =
    rw (
      map_more write_of c.args.writes.now c.loop-write.write-index c.write-item.result
          (omega arith),
      ← c.write-item.is,
      latest-push,
    )
    (elim c.if-counts.branch [
      | then-counts w ↦ rw (w.best-is, ← w.if-counts.ensures, ← c.loop-write.invariant)
          (ap Some w.the_later.ensures)
      | else-counts w ↦ rw (w.best-is, ← w.if-counts.ensures) c.loop-write.invariant
    ])
