-- Which request's write goes to disk.
use Rattle.std.specs.Prelude.{ℕ, ◌==◌, ◌&&◌, List, map, Option, None, Some, Bool, false}
use Rattle.std.specs.Prelude.{if◌then◌else◌, option_and_then}
use Rattle.kv_base.specs.declared.request.Request.{Request}
use Rattle.kv_model.specs.Batch.{Start, changes_something, last_write}
use Rattle.kv_model.specs.History.{Write}
use Rattle.kv_model.specs.Pairs.{written}
use Rattle.kv_slab.specs.declared.change.Change.{Change}

-- there is a write, and it has this stamp
abbrev pub has_stamp : Option Write → ℕ → Bool
has_stamp None stamp = false
has_stamp (Some write) stamp = write.stamp == stamp

-- the write that goes to disk for the request with this stamp, where one does
abbrev pub change_for : Start → List Write → Request → ℕ → Option Write
change_for start writes request stamp = option_and_then (λ write.
    if has_stamp (last_write writes write.key) stamp && changes_something start write then Some write
    else None) (written request stamp)

-- the change as a write
abbrev pub write_of : Change → Write
write_of change = record { stamp = change.stamp; key = change.key; value = change.value }

-- the changes as writes
abbrev pub writes_of : List Change → List Write
writes_of changes = map write_of changes
