-- each task is moved back once, from the last to the first
use Rattle.std.proofs.Common.{◌≡◌, ◌+◌, ◌-◌, ◌++◌, ◌∙◌, arith, ap, take, drop, map, subst}
use Rattle.kv_groups.proofs.HandLemmas.{back-more}
use Rattle.kv_groups.proofs.hand_in.take_tasks.Goals as goal

pub loop-at-preserved : goal.loop-at-preserved
loop-at-preserved c =
    let p = c.loop-at.invariant in
    let d = c.index-tasks-at.result in
    let tasks = c.loop-at.tasks in
    let e : c.loop-at.at ≡ (c.loop-at.at - 1) + 1 = omega arith in
    record {
      some = omega (arith, p.some, c.take_task.ensures.fewer);
      taken = λ front back is many.
          let q = p.taken front back is many in
          back-more tasks (c.loop-at.at - 1) c.take_task.new.task d front back
          c.loop-at.batch.items c.take_task.new.batch.items (omega (arith, many))
          (omega arith) (q.0 ∙ ap (λ n. front ++ take n back) e)
          (subst (λ n. drop n tasks ≡ drop n (map (λ item. item.1) back)) e q.1)
          c.take_task.ensures.taken;
      room = omega (arith, p.room, c.take_task.ensures.spare);
    }
