-- the list that is lent gets the tasks
use Rattle.std.proofs.Common.{◌∙◌, arith, ap, sym, length}
use Rattle.kv_groups.proofs.HandLemmas.{lent-is}
use Rattle.kv_groups.proofs.hand_in.hand_back.Goals as goal

pub take_tasks-requires : goal.take_tasks-requires
take_tasks-requires c = omega (arith, ap length c.as_mut_slice.ensures.items, c.requires)

pub returns-clause-taken : goal.returns-clause-taken
returns-clause-taken c = λ front back is many.
    let same = c.take_tasks.auto.tasks ∙ ap length c.as_mut_slice.ensures.items in
    let r = c.take_tasks.ensures.taken front back is
    (many ∙ sym (ap length c.as_mut_slice.ensures.items)) in
    (r.0, lent-is c.args.tasks.now.items c.take_tasks.new.tasks same ∙ r.1)

pub returns-clause-spare : goal.returns-clause-spare
returns-clause-spare c =
    omega (arith, c.take_tasks.ensures.spare, ap length c.as_mut_slice.ensures.items)
