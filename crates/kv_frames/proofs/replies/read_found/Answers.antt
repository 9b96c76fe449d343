-- Memory is wanted only where a stamp is there.
use Rattle.std.proofs.Common.{arith}
use Rattle.kv_frames.proofs.ReplyLemmas.{found_content, OnErr-from}
use Rattle.kv_frames.proofs.replies.read_found.Goals as goal

pub returns-in_err-copy-clause-err : goal.returns-in_err-copy-clause-err
returns-in_err-copy-clause-err c =
    OnErr-from c.from_residual.result (found_content c.args.body.now
    (omega (arith, c.in-Some.ensures.cases.2)))
