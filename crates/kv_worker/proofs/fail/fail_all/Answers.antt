-- one more reply is changed
use Rattle.std.proofs.Common.{◌≡◌, ◌+◌, ℕ, List, ap, ◌∙◌, arith, length, length-set, set, get_or}
use Rattle.kv_base.specs.declared.reply.Reply.{Reply}
use Rattle.kv_base.specs.declared.request.Request.{Request}
use Rattle.kv_model.specs.Batch.{failed_reply}
use Rattle.kv_worker.specs.Batches.{requests_in}
use Rattle.kv_worker.proofs.FailLemmas.{fail-more, fail-end}
use Rattle.kv_worker.proofs.TaskLemmas.{item-request, within-requests, ended-requests}
use Rattle.kv_worker.proofs.TaskLemmas.{length-requests}
use Rattle.kv_worker.proofs.fail.fail_all.Goals as goal

pub loop-item-preserved : goal.loop-item-preserved
loop-item-preserved c =
    let items : List Reply = c.loop-item.replies.items in
    let requests : List Request = requests_in c.args.tasks.now in
    let i : ℕ = c.loop-item.item-index in
    let at = c.loop-item.invariant.at_ in
    let changed : Reply = c.fail.new.reply in
    let reply : Reply = c.index_mut.result.now in
    let request : Request = c.item-item.result.1.request in
    record {
      at_ = omega arith;
      within = omega arith;
      failing = fail-more c.args.base requests c.args.replies.items items
          (set items c.loop-item.at changed) i request reply changed
          (within-requests c.args.tasks.now i c.loop-item-test.true)
          (omega (arith, c.args.replies.ok.0, c.requires.same, length-requests c.args.tasks.now))
          (item-request c.args.tasks.now i c.item-item.result c.loop-item-test.true c.item-item.is)
          (c.index_mut.ensures.value ∙ ap (λ n. get_or items n reply) at)
          (c.fail.ensures ∙ ap (λ n. failed_reply request (c.args.base + n) reply) at)
          c.loop-item.invariant.failing (ap (λ n. set items n changed) at)
          (length-set items c.loop-item.at changed);
    }

pub returns : goal.returns
returns c = fail-end c.args.base (requests_in c.args.tasks.now) c.args.replies.items
    c.loop-item.replies.items c.loop-item.item-index
    (omega (arith, c.args.replies.ok.0, c.requires.same, length-requests c.args.tasks.now))
    (ended-requests c.args.tasks.now c.loop-item.item-index c.loop-item-test.false)
    c.loop-item.invariant.failing
