-- What waits is sent, and then the bytes are put.
use Rattle.std.proofs.lemmas.Result.{on_ok_weaker, on_err_weaker}
use Rattle.kv_recover.proofs.CauseLemmas.{on_err}
use Rattle.kv_tools.proofs.SentLemmas.{front_more, puts_flushed, front_flushed}
use Rattle.kv_tools.proofs.text.Text.put.Goals as goal

pub returns-in_err-flush-clause-err : goal.returns-in_err-flush-clause-err
returns-in_err-flush-clause-err g c = on_err c.from_residual.result _
    (front_more _ _ c.args.self.now c.args.bytes.now c.in_err-flush.ensures.err)

pub returns-then-bytes-capacity-clause-ok : goal.returns-then-bytes-capacity-clause-ok
returns-then-bytes-capacity-clause-ok g c = on_ok_weaker c.put_first.result
    (puts_flushed _ _ _ c.args.self.now _ c.args.bytes.now c.in_ok-flush.ensures.ok)
    c.put_first.ensures.ok

pub returns-then-bytes-capacity-clause-err : goal.returns-then-bytes-capacity-clause-err
returns-then-bytes-capacity-clause-err g c = on_err_weaker c.put_first.result
    (front_flushed _ _ _ c.args.self.now c.args.bytes.now c.in_ok-flush.ensures.ok)
    c.put_first.ensures.err
