-- each task is moved once
use Rattle.std.proofs.Common.{arith}
use Rattle.kv_groups.proofs.HandLemmas.{batch-more, rest-stays}
use Rattle.kv_groups.proofs.hand_in.move_tasks.Goals as goal

pub move_task-requires : goal.move_task-requires
move_task-requires c = omega (arith, c.loop-at.invariant.room, c.requires)

pub loop-at-preserved : goal.loop-at-preserved
loop-at-preserved c =
    let d = c.index-tasks-at.result in
    let p = c.loop-at.invariant in
    record {
      moved = batch-more c.loop-at.tasks c.args.tasks.now c.args.session c.loop-at.at
          c.args.batch.now.items c.loop-at.batch.items c.move_task.new.batch.items d
          (omega arith) p.rest p.moved c.move_task.ensures.batch;
      room = omega (arith, c.move_task.ensures.spare, p.room);
      rest = rest-stays c.loop-at.tasks c.args.tasks.now c.loop-at.at c.move_task.new.task p.rest;
    }
