-- The entries so far are listed.
use Rattle.std.proofs.Common.{◌≡◌, ◌+◌, false, cond, []}
use Rattle.std.specs.FinMap as finite
use Rattle.kv_index.specs.Entries.{HasNoneFrom}
use Rattle.kv_recover.specs.Listed.{IsListing}
use Rattle.kv_recover.proofs.entries.list_all.Given as goal

abbrev pub invariant-loop-more : goal.invariant-loop-more
invariant-loop-more g l = record {
  listing : IsListing (g.I.Index.entries l.initial.index) (g.I.Index.entries l.index) l.list.items;
  done : l.more ≡ false → HasNoneFrom (g.I.Index.entries l.index) [];
}

abbrev pub decreases-loop-more : goal.decreases-loop-more
decreases-loop-more g l = finite.len (g.I.Index.entries l.index) + cond l.more 1 0
