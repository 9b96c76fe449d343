-- one more request
use Rattle.kv_model.specs.Batch.{answers, accepted_writes}
use Rattle.kv_model.specs.Oracle.{history_of, start_of}
use Rattle.kv_model.proofs.OracleLemmas.{answers-more, accepted-more}
use Rattle.kv_model.proofs.batch.answer_all.Goals as goal

pub loop-i-preserved : goal.loop-i-preserved
loop-i-preserved c = record {
  replies = answers-more (start_of c.args.found) (history_of c.loop-i.written.items)
      (history_of c.answer.new.written.items) c.args.base c.loop-i.i c.args.requests.now
      c.index-requests-i.result c.loop-i.replies.items c.push_reply.new.replies.items
      c.in_ok-reply.reply (answers (start_of c.args.found) (history_of c.args.written.now.items)
      c.args.base c.args.requests.now) c.loop-i-test.true c.index-requests-i.is
      c.in_ok-reply.ensures.reply c.in_ok-reply.ensures.written c.in_ok-push_reply.ensures
      c.loop-i.invariant.replies;
  written = accepted-more (start_of c.args.found) (history_of c.loop-i.written.items)
      (history_of c.answer.new.written.items) c.args.base c.loop-i.i c.args.requests.now
      c.index-requests-i.result (accepted_writes (start_of c.args.found)
      (history_of c.args.written.now.items) c.args.base c.args.requests.now) c.loop-i-test.true
      c.index-requests-i.is c.in_ok-reply.ensures.written c.loop-i.invariant.written;
}
