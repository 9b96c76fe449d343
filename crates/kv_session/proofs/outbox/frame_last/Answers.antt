use Rattle.kv_session.proofs.OutboxLemmas.{last_fits, FramesUpTo-more}
use Rattle.kv_session.proofs.outbox.frame_last.Goals as goal

pub add-requires-clause-few : goal.add-requires-clause-few
add-requires-clause-few c =
    last_fits c.args.replies.now c.loop-reply.left.now c.in-Some.earlier.now c.loop-reply.pieces
    c.loop-reply.pieces c.in-Some.reply.now c.loop-reply.invariant c.in-Some.ensures.cases
    c.requires.few

pub loop-reply-preserved : goal.loop-reply-preserved
loop-reply-preserved c =
    FramesUpTo-more c.args.replies.now c.loop-reply.left.now c.in-Some.earlier.now
    c.loop-reply.pieces c.add.new.self c.in-Some.reply.now c.loop-reply.invariant
    c.in-Some.ensures.cases c.if-not-add.ensures
