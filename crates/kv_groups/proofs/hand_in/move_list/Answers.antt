-- the list that is lent has its tasks
use Rattle.std.proofs.Common.{◌++◌, ◌∙◌, arith, ap, length}
use Rattle.kv_groups.specs.Batched.{of_session}
use Rattle.kv_groups.proofs.HandLemmas.{lent-is}
use Rattle.kv_groups.proofs.hand_in.move_list.Goals as goal

pub move_tasks-requires : goal.move_tasks-requires
move_tasks-requires c = omega (arith, ap length c.as_mut_slice.ensures.items, c.requires)

pub returns-clause-batch : goal.returns-clause-batch
returns-clause-batch c = c.move_tasks.ensures.batch
    ∙ ap (λ ts. c.args.batch.now.items ++ of_session c.args.session ts)
    c.as_mut_slice.ensures.items

pub returns-clause-spare : goal.returns-clause-spare
returns-clause-spare c =
    omega (arith, c.move_tasks.ensures.spare, ap length c.as_mut_slice.ensures.items)

pub returns-clause-emptied : goal.returns-clause-emptied
returns-clause-emptied c =
    let same = c.move_tasks.auto.tasks ∙ ap length c.as_mut_slice.ensures.items in
    ap length (lent-is c.args.tasks.now.items c.move_tasks.new.tasks same) ∙ same
