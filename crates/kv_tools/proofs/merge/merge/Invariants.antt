-- What was taken is behind what is left.
use Rattle.std.proofs.Common.{◌+◌, length, map}
use Rattle.std.specs.Prelude.{reverse}
use Rattle.kv_tools.specs.Merged.{listed_of}
use Rattle.kv_tools.proofs.MergedLemmas.{IsMerging}
use Rattle.kv_tools.proofs.merge.merge.Given as goal

abbrev pub invariant-loop-greatest : goal.invariant-loop-greatest
invariant-loop-greatest l = IsMerging l.initial.listed.items
    (map (listed_of l.worker) l.initial.list.items) l.listed.items
    (map (listed_of l.worker) l.list.items) (reverse l.merged.items)

abbrev pub decreases-loop-greatest : goal.decreases-loop-greatest
decreases-loop-greatest l = length l.listed.items + length (map (listed_of l.worker) l.list.items)
