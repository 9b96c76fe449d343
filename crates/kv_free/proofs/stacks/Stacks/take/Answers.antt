use Rattle.std.proofs.Common.{arith}
use Rattle.std.proofs.lemmas.Grind.{common_steps}
use Rattle.kv_free.proofs.FreeListLemmas.{stands_for_rest}
use Rattle.kv_free.proofs.stacks.Stacks.take.Goals as goal

pub returns-clause-rest : goal.returns-clause-rest
returns-clause-rest c = grind (arith, common_steps)

-- the link that the tombstone has is the number that stands there
pub returns-clause-kept : goal.returns-clause-kept
returns-clause-kept c rest slot stands same =
    stands_for_rest rest c.args.link same (returns-clause-rest c rest slot stands)
