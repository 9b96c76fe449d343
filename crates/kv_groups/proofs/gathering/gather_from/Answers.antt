-- the answer goes, the message is taken, and its tasks are moved
use Rattle.std.proofs.Common.{◌∙◌, ◌||◌, arith, refl, ap, is_some}
use Rattle.kv_groups.proofs.GatherLemmas.{same-rings}
use Rattle.kv_groups.proofs.ReceiveLemmas.{gathers-from, intake_from, got-few}
use Rattle.kv_groups.proofs.gathering.gather_from.Goals as goal

pub hand_in-requires : goal.hand_in-requires
hand_in-requires g c =
    let between = record c.args.connection.now { waiting = c.send_waiting.new.waiting } in
    omega (
      arith,
      c.requires.room,
      got-few c.args.session c.args.worker c.args.workers c.send_waiting.new.ends
          c.receive-came.new.ends between c.receive-came.new.connection c.receive-came.result
          c.requires.idle c.receive-came.ensures,
    )

pub returns-clause-gathered : goal.returns-clause-gathered
returns-clause-gathered g c =
    let r = c.receive-came.ensures in
    let old = c.args.connection.now in
    let got = c.receive-came.new.connection in
    let between = record old { waiting = c.send_waiting.new.waiting } in
    let now = record got { group = c.hand_in.new.group } in (
      intake_from c.args.session c.args.worker c.args.workers c.send_waiting.new.ends
          c.receive-came.new.ends between got c.receive-came.result r,
      gathers-from c.args.session c.args.worker c.args.workers c.args.ends.now
          c.send_waiting.new.ends c.receive-came.new.ends old between got now
          c.receive-came.result c.send_waiting.ensures c.requires.idle refl refl r refl refl refl
          c.hand_in.ensures.emptied,
      c.either.ensures ∙ ap (λ b. b || c.receive-came.result) c.is_some-waited.ensures
          ∙ ap (λ b. is_some old.waiting || b) r.found_is,
      c.hand_in.ensures.batch,
      c.hand_in.ensures.spare,
      got-few c.args.session c.args.worker c.args.workers c.send_waiting.new.ends
          c.receive-came.new.ends between got c.receive-came.result c.requires.idle r,
    )

pub returns-clause-others : goal.returns-clause-others
returns-clause-others g c = λ other ne.
    c.receive-came.ensures.others other ne ∙ c.send_waiting.ensures.others other ne

pub returns-clause-rings : goal.returns-clause-rings
returns-clause-rings g c = same-rings c.args.ends.now c.send_waiting.new.ends
    c.receive-came.new.ends c.send_waiting.ensures.rings c.receive-came.ensures.rings
