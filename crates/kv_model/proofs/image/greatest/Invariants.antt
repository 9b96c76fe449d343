-- the greatest of the numbers so far
use Rattle.std.proofs.Common.{take}
use Rattle.kv_model.specs.Plain.{IsGreatest}
use Rattle.kv_model.proofs.image.greatest.Given as goal

abbrev pub invariant-loop-number : goal.invariant-loop-number
invariant-loop-number l = IsGreatest (take l.number-index l.numbers) l.most
