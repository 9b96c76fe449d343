-- one task more has the refusal
use Rattle.std.proofs.Common.{◌≡◌, ◌<◌, ℕ, List, map, sym, ◌∙◌, arith, refl, length, length-set}
use Rattle.std.proofs.Common.{set}
use Rattle.std.proofs.lemmas.List.{get_or-map, length-map}
use Rattle.kv_base.specs.declared.reply.Reply.{Reply}
use Rattle.kv_base.specs.declared.reply.Reply.TheVariants.{StampsSpent}
use Rattle.kv_base.specs.declared.request.Request.{Request}
use Rattle.kv_ring.specs.declared.task.Task.{Task}
use Rattle.kv_worker.specs.Batches.{requests_in}
use Rattle.kv_worker.proofs.FillLemmas.{fill-more}
use Rattle.kv_worker.proofs.TaskLemmas.{length-requests}
use Rattle.kv_worker_party.proofs.serve.refuse_spent.Goals as goal

pub loop-at-preserved : goal.loop-at-preserved
loop-at-preserved c =
    let old : List (ℕ × Task) = c.args.batch.now.items in
    let reply : Reply = StampsSpent c.args.number in
    let requests : List Request = requests_in old in
    let replies : List Reply = map (λ _. reply) requests in
    let many : length replies ≡ length old =
    length-map requests (λ (r : Request). reply) ∙ length-requests old in
    let within : c.loop-at.at < length replies = omega (arith, many, c.loop-at.invariant.long) in
    fill-more old c.loop-at.tasks (set c.loop-at.tasks c.loop-at.at c.refuse_one.new.item) replies
    c.loop-at.at c.index-tasks-at.result c.refuse_one.new.item reply c.loop-at.invariant many within
    (sym (get_or-map (λ (r : Request). reply) requests c.loop-at.at
    c.index-tasks-at.result.1.request reply
    (omega (arith, within, length-map requests (λ (r : Request). reply)))))
    c.refuse_one.ensures.session c.refuse_one.ensures.request c.refuse_one.ensures.reply refl
    (length-set c.loop-at.tasks c.loop-at.at c.refuse_one.new.item)
