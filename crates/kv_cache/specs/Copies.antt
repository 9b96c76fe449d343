-- The kept pages as the map of least recent use has them.
use Rattle.std.specs.Prelude.{ℕ, List, map}
use Rattle.std.specs.Global.{Box}
use Rattle.lru.specs.LruCache.{LruCache}
use Rattle.kv_cache.specs.Kept.{KeptPage, Kept}

-- the page of an entry
abbrev pub page_of : (ℕ × ℕ) × Box (List ℕ) → KeptPage
page_of entry = record { file = entry.0.0; page = entry.0.1; content = entry.1.value }

-- the pages of the map
abbrev pub kept_of : LruCache (ℕ × ℕ) (Box (List ℕ)) → Kept
kept_of copies = record { capacity = copies.cap; pages = map page_of copies.entries }
