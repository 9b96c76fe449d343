-- the numbers at the heads of the pages so far
use Rattle.std.proofs.Common.{◌≡◌, ◌++◌, map, take}
use Rattle.kv_model.specs.Slots.{stamp_field}
use Rattle.kv_model.proofs.slot.push_heads.Given as goal

abbrev pub invariant-loop-page : goal.invariant-loop-page
invariant-loop-page l = l.heads.items
    ≡ l.initial.heads.items ++ map stamp_field (take l.page-index l.page-items)
