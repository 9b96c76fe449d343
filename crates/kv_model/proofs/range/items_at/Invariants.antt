-- the items up to the last key; fewer written keys are behind each next one
use Rattle.std.specs.List.{count_by}
use Rattle.std.specs.Option.{option_copied}
use Rattle.kv_model.specs.Oracle.{history_of, items_of, lookup_of}
use Rattle.kv_model.specs.Lookup.{AreItemsSoFar, is_behind}
use Rattle.kv_model.proofs.range.items_at.Given as goal

abbrev pub invariant-loop-next : goal.invariant-loop-next
invariant-loop-next l = AreItemsSoFar (lookup_of (history_of l.writes) l.asked
    (option_copied l.last)) (items_of l.items.items)

abbrev pub decreases-loop-next : goal.decreases-loop-next
decreases-loop-next l =
    count_by (λ write. is_behind (option_copied l.last) write.key) (history_of l.writes)
