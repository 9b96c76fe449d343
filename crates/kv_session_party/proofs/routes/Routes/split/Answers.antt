use Rattle.std.proofs.Common.{[], length, ap, arith, length-append}
use Rattle.std.proofs.Common.{◌∷◌}
use Rattle.std.proofs.lemmas.Bool.{false≢true}
use Rattle.kv_session_party.proofs.RouteLemmas.{Splits-new, Splits-room, Splits-routable}
use Rattle.kv_session_party.proofs.RouteLemmas.{Splits-more, Splits-all, none-left}
use Rattle.kv_session_party.proofs.routes.Routes.split.Goals as goal

pub loop-task-init : goal.loop-task-init
loop-task-init c = record {
  splits = Splits-new c.args.tasks.now.items c.turn_round.new.tasks.items c.args.self.now
      c.turn_round.ensures.items c.requires.bare;
  spare = omega (arith, c.turn_round.ensures.many, c.turn_round.ensures.spare);
}

pub add-requires-clause-few : goal.add-requires-clause-few
add-requires-clause-few c =
    Splits-room c.args.tasks.now.items c.loop-task.tasks.items c.take_last.new.self.items
    c.in-Some.task c.loop-task.self (length c.args.self.now.parts) c.in-Some.ensures.last
    c.requires.few c.loop-task.invariant.splits

pub add-requires-clause-routable : goal.add-requires-clause-routable
add-requires-clause-routable c =
    Splits-routable c.args.tasks.now.items c.loop-task.tasks.items c.take_last.new.self.items
    c.in-Some.task c.loop-task.self (length c.args.self.now.parts) c.in-Some.ensures.last
    c.requires.routable c.loop-task.invariant.splits

pub loop-task-preserved : goal.loop-task-preserved
loop-task-preserved c = record {
  splits = Splits-more c.args.tasks.now.items c.loop-task.tasks.items c.take_last.new.self.items
      c.in-Some.task c.loop-task.self c.add.new.self (length c.args.self.now.parts)
      c.in-Some.ensures.last c.add.ensures.routed c.add.ensures.size
      c.loop-task.invariant.splits;
  spare =
      let size = ap length c.in-Some.ensures.last in
      let sum = length-append c.take_last.new.self.items (c.in-Some.task ∷ []) in
      let room = c.in-Some.ensures.spare in
      let was = c.loop-task.invariant.spare in
      omega (arith, size, sum, room, was);
}

pub returns-clause-routed : goal.returns-clause-routed
returns-clause-routed c =
    Splits-all c.args.tasks.now.items c.loop-task.tasks.items c.loop-task.self
    (length c.args.self.now.parts)
    (none-left c.loop-task.tasks.items (λ some. false≢true (c.in_default.ensures.some.1 some)))
    c.loop-task.invariant.splits
