-- the parties so far were turned, and if all were over, they have ended
use Rattle.std.proofs.Common.{◌≡◌, true}
use Rattle.std.specs.List.{AllWithin}
use Rattle.kv_threads.specs.Continuing.{AllContinue}
use Rattle.kv_threads.proofs.turning.turn_each.Given as goal

abbrev pub invariant-loop-at : goal.invariant-loop-at
invariant-loop-at g l = record {
  goes : AllContinue g.P.Party l.initial.parties l.parties;
  over : l.round.over ≡ true
      → AllWithin (λ party. g.P.Party.ended party ≡ true) l.parties 0 l.at;
}
