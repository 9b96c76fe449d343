-- The item with the greatest key is put behind the others, whose order is turned round at the end.
use Rattle.std.proofs.Common.{map, sym, subst}
use Rattle.kv_tools.specs.Merged.{listed_of, IsMerged}
use Rattle.kv_tools.proofs.MergedLemmas.{merging-next, merging-all}
use Rattle.kv_tools.proofs.merge.merge.Goals as goal

pub loop-greatest-preserved : goal.loop-greatest-preserved
loop-greatest-preserved c =
    merging-next c.args.listed.items (map (listed_of c.args.worker) c.args.list.items) _ _ _ _
    c.loop-greatest.merged.items _ c.in-Some.greatest c.in_ok-push.ensures.items
    c.loop-greatest.invariant c.in-Some.ensures

pub returns : goal.returns
returns c = subst (IsMerged c.args.listed.items
    (map (listed_of c.args.worker) c.args.list.items)) (sym c.reverse.ensures.items)
    (merging-all _ _ _ _ _ _ c.loop-greatest.merged.items c.loop-greatest.invariant
    c.in_default.ensures)
