use Rattle.std.proofs.Common.{◌≡◌, ◌++◌, take, length}
use Rattle.std.specs.List.{flat_map}
use Rattle.std.specs.Int.{w16, to_le_bytes}
use Rattle.kv_model.specs.Fold.{item_bytes}
use Rattle.kv_fold.proofs.result_bytes.write_items.Given as goal

abbrev pub invariant-loop-item : goal.invariant-loop-item
invariant-loop-item l = l.bytes.items
    ≡ to_le_bytes w16 (length l.items) ++ flat_map item_bytes (take l.item-index l.items)
