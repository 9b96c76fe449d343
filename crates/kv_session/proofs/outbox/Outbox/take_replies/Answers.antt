use Rattle.std.proofs.lemmas.Bool.{false≢true}
use Rattle.kv_session.proofs.OutboxLemmas.{last_replied, TakesReplies-more, takes-all}
use Rattle.kv_session.proofs.outbox.Outbox.take_replies.Goals as goal

pub reply_to-requires : goal.reply_to-requires
reply_to-requires c =
    last_replied c.args.tasks.now c.loop-task.tasks c.take_last.new.self c.args.self.now
    c.loop-task.self c.args.self.now c.in-Some.task c.loop-task.invariant c.in-Some.ensures.last
    c.requires.answered.0 c.requires.answered.1

pub loop-task-preserved : goal.loop-task-preserved
loop-task-preserved c =
    TakesReplies-more c.args.tasks.now c.loop-task.tasks c.take_last.new.self c.args.self.now
    c.loop-task.self c.put_first.new.self c.in-Some.task c.loop-task.invariant
    c.in-Some.ensures.last c.reply_to.result c.reply_to.ensures c.put_first.ensures.items
    c.put_first.ensures.spare c.in-Some.ensures.spare

pub returns-clause-items : goal.returns-clause-items
returns-clause-items c =
    takes-all c.args.tasks.now c.loop-task.tasks c.args.self.now c.loop-task.self
    c.loop-task.invariant (λ some. false≢true (c.in_default.ensures.some.1 some))
