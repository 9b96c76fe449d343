-- the requests so far are answered
use Rattle.std.proofs.Common.{◌≡◌, ◌*◌, ◌≤◌, length, take}
use Rattle.std.specs.List.{AllByRecursion}
use Rattle.kv_model.specs.Frames.{HasReplyFrame}
use Rattle.kv_worker.specs.Answering.{AreAnsweredSo}
use Rattle.kv_worker.specs.Batches.{requests_in}
use Rattle.kv_worker.specs.Reads.{HasRead}
use Rattle.kv_worker.specs.Worker.{start_of}
use Rattle.kv_worker.proofs.answer.answer_all.Given as goal

abbrev pub invariant-loop-item : goal.invariant-loop-item
invariant-loop-item g l = record {
  read : HasRead g.D.Disk (16 * l.item-index) l.fn.slabs l.slabs;
  calm : g.D.Disk.faults l.slabs.disk.disk ≡ g.D.Disk.faults l.fn.slabs.disk.disk;
  task : l.task ≡ l.item-index;
  within : l.item-index ≤ length l.tasks;
  done : AreAnsweredSo g.D.Disk.tells (start_of g.D.Disk g.I.Index l.fn.slabs) (requests_in l.tasks)
      (take l.item-index (requests_in l.tasks)) l.base l.replies.items l.pass;
  framed : AllByRecursion HasReplyFrame l.replies.items;
}
