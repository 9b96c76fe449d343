-- the answer goes, if a group is in hand
use Rattle.std.proofs.Common.{◌∙◌, arith, refl, sym, ap, length}
use Rattle.kv_groups.specs.Batched.{of_session, tasks_in}
use Rattle.kv_groups.proofs.AnsweringLemmas.{delivers-some, delivers-nothing, some-free, front-alone}
use Rattle.kv_groups.proofs.BatchLemmas.{untag}
use Rattle.kv_groups.proofs.GatherLemmas.{of_session-length}
use Rattle.kv_groups.proofs.delivering.deliver_to.Goals as goal

pub hand_back-requires : goal.hand_back-requires
hand_back-requires g c =
    omega (
      arith,
      c.requires.some,
      ap (λ o. length (tasks_in o)) (sym c.take.ensures.value ∙ c.in-Some.is),
    )

pub returns-in-Some-clause-delivered : goal.returns-in-Some-clause-delivered
returns-in-Some-clause-delivered g c = λ front tasks is many.
    let old = c.args.connection.now in
    let list = c.in-Some.tasks in
    let group = sym c.take.ensures.value ∙ c.in-Some.is in
    let now = record old { group = c.take.new.self; waiting = c.send.result } in
    let back = c.hand_back.ensures.taken front (of_session c.args.session tasks) is
    (of_session-length c.args.session tasks ∙ many ∙ ap (λ o. length (tasks_in o)) group) in (
      back.0,
      delivers-some c.args.session c.args.ends.now c.send.new.ends old now list
          c.hand_back.new.tasks tasks c.send.result group
          (some-free old list group c.requires.free) c.send.ensures
          (back.1 ∙ untag c.args.session tasks) c.hand_back.ensures.kept refl refl
          c.take.ensures.after,
    )

pub returns-in-Some-clause-spare : goal.returns-in-Some-clause-spare
returns-in-Some-clause-spare g c =
    omega (
      arith,
      c.hand_back.ensures.spare,
      ap (λ o. length (tasks_in o)) (sym c.take.ensures.value ∙ c.in-Some.is),
    )

pub returns-in-None-clause-delivered : goal.returns-in-None-clause-delivered
returns-in-None-clause-delivered g c = λ front tasks is many.
    let old = c.args.connection.now in
    let group = sym c.take.ensures.value ∙ c.in-None.is in
    let now = record old { group = c.take.new.self } in (
      front-alone c.args.batch.now.items front c.args.session tasks is
          (many ∙ ap (λ o. length (tasks_in o)) group),
      delivers-nothing c.args.session c.args.ends.now old now tasks group refl refl
          c.take.ensures.after,
    )
