use Rattle.std.proofs.Common.{◌≡◌, ◌+◌, length, IsSomeAnd}
use Rattle.std.specs.List.{AllByRecursion}
use Rattle.kv_model.specs.Frames.{HasReplyFrame}
use Rattle.kv_party_tests.proofs.sessions.answer.Given as goal

abbrev pub invariant-loop-task : goal.invariant-loop-task
invariant-loop-task l = record {
  answered : AllByRecursion (λ task. IsSomeAnd task.reply HasReplyFrame) l.initial.to.items
      → AllByRecursion (λ task. IsSomeAnd task.reply HasReplyFrame) l.to.items;
  moved : length l.to.items + length l.from.items
      ≡ length l.initial.to.items + length l.initial.from.items;
  spare : l.to.spare + length l.initial.from.items ≡ l.initial.to.spare + length l.from.items;
  given_back : l.from.spare + length l.from.items
      ≡ l.initial.from.spare + length l.initial.from.items;
}

abbrev pub decreases-loop-task : goal.decreases-loop-task
decreases-loop-task l = length l.from.items
