-- one more request is answered
use Rattle.std.proofs.Common.{◌≡◌, ◌+◌, ◌*◌, ◌<◌, ◌≤◌, ℕ, List, ap, sym, ◌∙◌, subst, arith, take}
use Rattle.std.proofs.Common.{refl, ◌++◌, ◌∷◌, [], length}
use Rattle.std.specs.List.{AllByRecursion}
use Rattle.kv_base.specs.declared.reply.Reply.{Reply}
use Rattle.kv_base.specs.declared.request.Request.{Request}
use Rattle.kv_model.specs.Batch.{Start, accepted_writes}
use Rattle.kv_model.specs.Frames.{HasReplyFrame}
use Rattle.kv_model.proofs.PairwiseLemmas.{All-append}
use Rattle.kv_worker.specs.Answering.{AreAnsweredSo, IsAnswered, Stands}
use Rattle.kv_worker.specs.Batches.{requests_in}
use Rattle.kv_worker.specs.Course.{course_of}
use Rattle.kv_worker.specs.Worker.{start_of}
use Rattle.kv_worker.proofs.BatchLemmas.{answers-more, can-answer}
use Rattle.kv_worker.proofs.ReadLemmas.{read-then, ready-read, start-read}
use Rattle.kv_worker.proofs.TaskLemmas.{item-request, within-requests}
use Rattle.kv_worker.proofs.answer.answer_all.Goals as goal

pub answer-requires-clause-ready : goal.answer-requires-clause-ready
answer-requires-clause-ready g c = ready-read g.D.Disk g.I.Index (16 * c.loop-item.item-index)
    c.args.slabs.now c.loop-item.slabs c.requires.ready c.loop-item.invariant.read

pub answer-requires-clause-stands : goal.answer-requires-clause-stands
answer-requires-clause-stands g c =
    let start : Start = start_of g.D.Disk g.I.Index c.args.slabs.now in
    let requests : List Request = requests_in c.args.tasks.now in
    let i : ℕ = c.loop-item.item-index in
    let inv = c.loop-item.invariant in (
      course_of start requests c.args.base,
      (
        accepted_writes start [] c.args.base (take i requests),
        (
          can-answer g.D.Disk.tells start (start_of g.D.Disk g.I.Index c.loop-item.slabs) requests i
              c.loop-item.task c.args.base (c.args.base + c.from.result)
              c.item-item.result.1.request c.loop-item.replies.items c.loop-item.pass
              (start-read g.D.Disk g.I.Index (16 * i) c.args.slabs.now c.loop-item.slabs inv.read)
              inv.task (ap (λ n. c.args.base + n) c.from.ensures)
              (within-requests c.args.tasks.now i c.loop-item-test.true)
              (item-request c.args.tasks.now i c.item-item.result c.loop-item-test.true
              c.item-item.is) inv.done,
          refl,
        ),
      ),
    )

pub returns-in_err-reply-clause-read : goal.returns-in_err-reply-clause-read
returns-in_err-reply-clause-read g c =
    let below : c.loop-item.item-index < length c.args.tasks.now = omega arith in
    read-then g.D.Disk (16 * c.loop-item.item-index) 16 (16 * length c.args.tasks.now)
    c.args.slabs.now c.loop-item.slabs c.answer.new.slabs (omega (arith, below))
    c.loop-item.invariant.read c.in_err-reply.ensures.read

pub returns-in_err-append-clause-read : goal.returns-in_err-append-clause-read
returns-in_err-append-clause-read g c =
    let below : c.loop-item.item-index < length c.args.tasks.now = omega arith in
    read-then g.D.Disk (16 * c.loop-item.item-index) 16 (16 * length c.args.tasks.now)
    c.args.slabs.now c.loop-item.slabs c.answer.new.slabs (omega (arith, below))
    c.loop-item.invariant.read c.in_ok-reply.ensures.read

pub loop-item-preserved : goal.loop-item-preserved
loop-item-preserved g c =
    let start : Start = start_of g.D.Disk g.I.Index c.args.slabs.now in
    let requests : List Request = requests_in c.args.tasks.now in
    let i : ℕ = c.loop-item.item-index in
    let inv = c.loop-item.invariant in
    let within = within-requests c.args.tasks.now i c.loop-item-test.true in
    let is = item-request c.args.tasks.now i c.item-item.result c.loop-item-test.true c.item-item.is
    in
    let stamp : c.from.result ≡ i = c.from.ensures ∙ inv.task in
    let stands = can-answer g.D.Disk.tells start (start_of g.D.Disk g.I.Index c.loop-item.slabs)
    requests i c.loop-item.task c.args.base (c.args.base + c.from.result)
    c.item-item.result.1.request c.loop-item.replies.items c.loop-item.pass
    (start-read g.D.Disk g.I.Index (16 * i) c.args.slabs.now c.loop-item.slabs inv.read) inv.task
    (ap (λ n. c.args.base + n) c.from.ensures) within is inv.done in
    let answered : IsAnswered g.D.Disk.tells (course_of start requests c.args.base)
    (accepted_writes start [] c.args.base (take i requests)) c.item-item.result.1.request
    (c.args.base + i) c.in_ok-reply.reply c.answer.new.pass =
    subst (λ s. IsAnswered g.D.Disk.tells (course_of start requests c.args.base)
    (accepted_writes start [] c.args.base (take i requests)) c.item-item.result.1.request s
    c.in_ok-reply.reply c.answer.new.pass) (ap (λ n. c.args.base + n) stamp)
    (c.in_ok-reply.ensures.reply (course_of start requests c.args.base)
    (accepted_writes start [] c.args.base (take i requests)) stands refl) in
    record {
      read = read-then g.D.Disk (16 * i) 16 (16 * (i + 1)) c.args.slabs.now c.loop-item.slabs
          c.answer.new.slabs (omega arith) inv.read c.in_ok-reply.ensures.read;
      calm = c.in_ok-reply.ensures.cause ∙ inv.calm;
      task = omega arith;
      within = omega arith;
      done = subst (λ items. AreAnsweredSo g.D.Disk.tells start requests (take (i + 1) requests)
          c.args.base items c.answer.new.pass) (sym c.in_ok-append.ensures)
          (answers-more g.D.Disk.tells start requests i c.args.base c.item-item.result.1.request
          c.in_ok-reply.reply c.loop-item.replies.items c.loop-item.pass c.answer.new.pass within is
          inv.done answered);
      framed = subst (λ items. AllByRecursion HasReplyFrame items) (sym c.in_ok-append.ensures)
          (All-append HasReplyFrame c.loop-item.replies.items (c.in_ok-reply.reply ∷ []) inv.framed
          (c.in_ok-reply.ensures.framed, tt));
    }
