use Rattle.std.proofs.Common.{◌≡◌, List, [], ◌∷◌, Option, None, Some, IsSomeAnd, refl, sym, ap}
use Rattle.std.proofs.Common.{subst, ◌∙◌, map}
use Rattle.std.specs.List.{AllByRecursion}
use Rattle.kv_base.specs.declared.reply.Reply.{Reply}
use Rattle.kv_model.specs.Frames.{HasReplyFrame}
use Rattle.kv_ring.specs.declared.task.Task.{Task}
use Rattle.kv_session.specs.Tasks.{HaveReplies}
use Rattle.kv_party_tests.proofs.sessions.run.Goals as goal

-- a task that is answered has a reply
reply_in : (reply : Option Reply) → IsSomeAnd reply HasReplyFrame
    → (given : Reply) × (reply ≡ Some given) × HasReplyFrame given
reply_in None has = absurd has
reply_in (Some reply) has = (reply, refl, has)

-- tasks that are answered have replies
replies_in : (tasks : List Task)
    → AllByRecursion (λ task. IsSomeAnd task.reply HasReplyFrame) tasks
    → (replies : List Reply) × HaveReplies tasks replies × AllByRecursion HasReplyFrame replies
replies_in [] all = ([], refl, tt)
replies_in (task ∷ tasks) all =
    let first = reply_in task.reply all.0 in
    let others = replies_in tasks all.1 in (
      first.0 ∷ others.0,
      ap (λ (reply : Option Reply). reply ∷ map (λ (t : Task). t.reply) tasks) first.1
          ∙ ap (λ (replies : List (Option Reply)). Some first.0 ∷ replies) others.1,
      (first.2, others.2),
    )

-- each task was answered
pub deliver-whole-requires-clause-answered : goal.deliver-whole-requires-clause-answered
deliver-whole-requires-clause-answered c =
    replies_in c.answer-in-loop.new.to.items (c.answer-in-loop.ensures.answered
    (subst (λ (tasks : List Task). AllByRecursion (λ task. IsSomeAnd task.reply HasReplyFrame)
    tasks) (sym c.answer.ensures.empty) tt))
