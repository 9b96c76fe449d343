-- a stamp is left above each floor
use Rattle.std.proofs.Common.{◌-◌, ◌^◌, ap, arith}
use Rattle.std.proofs.lemmas.List.{drop_all}
use Rattle.kv_groups.specs.Gathering.{greatest}
use Rattle.kv_mesh.specs.Started.{floors}
use Rattle.kv_mesh.proofs.FirstLemmas.{greatest-above, greatest-below}
use Rattle.kv_mesh.proofs.first_stamp.first_stamp.Goals as goal

pub overflow_add-result : goal.overflow_add-result
overflow_add-result g c =
    let small = greatest-below c.args.stores.now (2 ^ 62 - 1) (omega arith) c.requires in
    omega (arith, small, c.loop-opened.invariant)

pub returns-clause-limit : goal.returns-clause-limit
returns-clause-limit g c =
    let small = greatest-below c.args.stores.now (2 ^ 62 - 1) (omega arith) c.requires in
    omega (arith, small, c.loop-opened.invariant)

pub returns-clause-above : goal.returns-clause-above
returns-clause-above g c k d lt =
    let up = greatest-above c.args.stores.now k d lt in
    let none = ap (λ l. greatest (floors l)) (drop_all c.loop-opened.opened-index c.args.stores.now
    (omega arith)) in
    omega (arith, up, none, c.loop-opened.invariant)
