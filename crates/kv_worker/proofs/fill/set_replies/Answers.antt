-- one task more has its reply
use Rattle.std.proofs.Common.{◌≡◌, ◌+◌, ◌<◌, ◌∷◌, ◌++◌, [], ℕ, List, ap, sym, ◌∙◌, arith, refl, length}
use Rattle.std.proofs.Common.{length-set, set, get_or, subst}
use Rattle.std.proofs.lemmas.Iterator.Adapters.{YieldsList-from_vec}
use Rattle.std.proofs.lemmas.Iterator.Consumers.{YieldsList-turn, YieldsList-end}
use Rattle.std.proofs.lemmas.List.{length_push}
use Rattle.kv_ring.specs.declared.task.Task.{Task}
use Rattle.kv_worker.proofs.FillLemmas.{AreFilled, fill-more}
use Rattle.kv_worker.proofs.fill.set_replies.Goals as goal

pub loop-reply-preserved : goal.loop-reply-preserved
loop-reply-preserved c =
    let old : List (ℕ × Task) = c.args.batch.now.items in
    let gives = c.into_iter-reply-iterator.ensures.into_iter_gives in
    let turn = YieldsList-turn (YieldsList-from_vec
    {s = c.into_iter-reply-iterator.result} c.args.replies.items gives.0
    (gives.1 ∙ c.args.replies.ok.0)) c.loop-reply.yielded c.loop-reply.reply-iterator
    c.loop-reply.yielded_by c.next.result c.next.new.self c.in-Some.reply c.in-Some.is
    c.next.ensures.steps in
    let i : ℕ = length c.loop-reply.yielded in
    let at : c.loop-reply.at ≡ i = c.loop-reply.invariant.at_ in
    let more : length (c.loop-reply.yielded ++ c.in-Some.reply ∷ []) ≡ i + 1 =
    length_push c.loop-reply.yielded c.in-Some.reply in
    let next : List (ℕ × Task) = set c.loop-reply.tasks c.loop-reply.at c.set_reply.new.item in
    record {
      at_ = omega (arith, more, at);
      filled = subst (AreFilled old next c.args.replies.items) (sym more)
          (fill-more old c.loop-reply.tasks next c.args.replies.items i c.index-tasks-at.result
          c.set_reply.new.item c.in-Some.reply c.loop-reply.invariant.filled c.requires turn.0
          turn.1
          (c.set_reply.ensures.session
          ∙ ap (λ n. (get_or c.loop-reply.tasks n c.index-tasks-at.result).0) at)
          (c.set_reply.ensures.request
          ∙ ap (λ n. (get_or c.loop-reply.tasks n c.index-tasks-at.result).1.request) at)
          c.set_reply.ensures.reply
          (ap (λ n. set c.loop-reply.tasks n c.set_reply.new.item) at)
          (length-set c.loop-reply.tasks c.loop-reply.at c.set_reply.new.item));
    }
