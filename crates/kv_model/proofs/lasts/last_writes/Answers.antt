-- one more write
use Rattle.std.proofs.lemmas.List.{take_rest}
use Rattle.kv_model.specs.Batch.{last_writes}
use Rattle.kv_model.specs.Oracle.{history_of, seen_of}
use Rattle.kv_model.proofs.OracleLemmas.{lasts-more}
use Rattle.kv_model.proofs.lasts.last_writes.Goals as goal

pub loop-i-preserved : goal.loop-i-preserved
loop-i-preserved c =
    lasts-more (seen_of c.loop-i.lasts.items) (seen_of c.keep_last.new.lasts.items)
    (last_writes (history_of c.args.written.now)) c.args.written.now c.loop-i.i
    c.index-written-i.result c.loop-i-test.true c.index-written-i.is
    (rw take_rest at c.in_ok-keep_last.ensures)
    c.loop-i.invariant
