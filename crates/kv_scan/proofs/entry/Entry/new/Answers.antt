use Rattle.std.proofs.Common.{rules}
use Rattle.kv_scan.proofs.KeyLemmas.{at_itself}
use Rattle.kv_scan.proofs.entry.Entry.new.Goals as goal

-- Nothing is held, and the walk stands at the range's low end.
pub invariant_of-result : goal.invariant_of-result
invariant_of-result g c = record { items = search rules; from = at_itself c.args.low }
