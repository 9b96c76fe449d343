-- one more request's change
use Rattle.std.proofs.Common.{◌≡◌, ◌+◌, ℕ, List, ap, sym, ◌∙◌, arith, refl}
use Rattle.kv_base.specs.declared.request.Request.{Request}
use Rattle.kv_model.specs.Batch.{Start}
use Rattle.kv_worker.specs.Batches.{requests_in}
use Rattle.kv_worker.specs.Course.{course_of}
use Rattle.kv_worker.specs.Net.{change_for}
use Rattle.kv_worker.specs.Worker.{start_of}
use Rattle.kv_worker.proofs.ChangeLemmas.{changes-more, changes-all, all_accepted}
use Rattle.kv_worker.proofs.TaskLemmas.{item-request, within-requests, ended-requests}
use Rattle.kv_worker.proofs.net.net_changes.Goals as goal

pub loop-item-preserved : goal.loop-item-preserved
loop-item-preserved g c =
    let start : Start = start_of g.D.Disk g.I.Index c.args.slabs.now in
    let requests : List Request = requests_in c.args.tasks.now in
    let i : ℕ = c.loop-item.item-index in
    let request = c.item-item.result.1.request in
    let inv = c.loop-item.invariant in
    let stamp : c.from.result ≡ i = c.from.ensures ∙ inv.task in
    record {
      task = omega arith;
      within = omega arith;
      done = c.in_ok-add.ensures ∙ changes-more start requests i c.args.base request _ _
          (within-requests c.args.tasks.now i c.loop-item-test.true)
          (item-request c.args.tasks.now i c.item-item.result c.loop-item-test.true c.item-item.is)
          inv.done
          (c.in_ok-change.ensures (course_of start requests c.args.base)
          (all_accepted start requests c.args.base) c.requires.follows refl
          (ap (λ n. c.args.base + n) c.from.ensures)
          ∙ ap (λ n. change_for start (all_accepted start requests c.args.base) request
          (c.args.base + n)) stamp);
    }

pub returns : goal.returns
returns g c = c.loop-item.invariant.done
    ∙ changes-all (start_of g.D.Disk g.I.Index c.args.slabs.now) (requests_in c.args.tasks.now)
    c.loop-item.item-index c.args.base
    (ended-requests c.args.tasks.now c.loop-item.item-index c.loop-item-test.false)
