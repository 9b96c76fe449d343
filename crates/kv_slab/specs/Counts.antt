-- How many calls of a disk a read takes.
use Rattle.std.specs.Prelude.{ℕ, ◌⊎◌, List, Option, None, Some, if◌then◌else◌}
use Rattle.kv_disk.specs.declared.disk.Disk.{Ghosts}
use Rattle.kv_disk.specs.Steps.{ReadsAtMost}
use Rattle.kv_index.specs.declared.entry.Entry.{Entry}
use Rattle.kv_index.specs.Entries.{Entries, HasNoneFrom, IsNext}
use Rattle.kv_model.specs.Layout.{is_small, pages_in_slot}

-- the pages that hold one slot of the class
abbrev pub pages_of_class : ℕ → ℕ
pages_of_class class = if is_small class then 1 else pages_in_slot class

-- the calls that it takes to read the item of an entry, if there is one
abbrev pub reads_for : Option Entry → ℕ
reads_for None = 0
reads_for (Some e) = pages_of_class e.place.class

-- where a key at or after this one has an entry, the pages of the next one's item were read at
-- most, else nothing
abbrev pub NextReads : {D : Type 0} → Ghosts D → Entries → List ℕ → D → D → Type 0
NextReads d entries low old new = (HasNoneFrom entries low × ReadsAtMost d 0 old new)
    ⊎ ((key : List ℕ) × (e : Entry) × IsNext entries low key e
    × ReadsAtMost d (pages_of_class e.place.class) old new)
