-- the content of the pages so far
use Rattle.std.proofs.Common.{◌≡◌, ◌++◌, take, drop}
use Rattle.std.specs.List.{flat_map}
use Rattle.kv_model.proofs.slot.content_of.Given as goal

abbrev pub invariant-loop-page : goal.invariant-loop-page
invariant-loop-page l = l.content.items
    ≡ l.front ++ flat_map (λ page. drop 8 page) (take l.page-index l.later)
