-- What a site in memory keeps true of its places.
use Rattle.std.specs.Prelude.{◌≡◌, ℕ, List, [], Some}
use Rattle.kv_base.specs.Memory.{MemorySource, MemorySink}
use Rattle.kv_site.specs.declared.entry.Entry.{Entry}
use Rattle.kv_site.specs.Entries.{home_of}

-- nothing was taken from a folder that has a name
abbrev pub HasNoFolder : List (Entry (MemorySource × MemorySink)) → Type 0
HasNoFolder sessions = (n : ℕ) (folder : List ℕ) → home_of sessions n ≡ Some folder → folder ≡ []
