-- The ends so far are listed.
use Rattle.std.proofs.Common.{◌≡◌, take}
use Rattle.kv_recover.proofs.opening.list_of.Given as goal

abbrev pub invariant-loop-end : goal.invariant-loop-end
invariant-loop-end l = l.list.items ≡ take l.end-index l.ends
