-- A disk with a cache in front of it.
use Rattle.std.specs.Prelude.{◌≡◌, ◌⊎◌, ℕ, List, IsTrue, Result, IsOk}
use Rattle.kv_base.specs.Calls.{next_count}
use Rattle.kv_disk.specs.declared.disk.Disk.{Ghosts}
use Rattle.kv_cache.specs.Kept.{KeptPage, IsKept, AgreeWith, to_front, with_new}

-- the disk, how many of its pages may be kept, those that are, and how often a page was read and
-- could not be kept
pub record Cache (D : Type 0) : Type 0 where
  pub disk : D
  pub capacity : ℕ
  pub pages : List KeptPage
  pub unkept : ℕ

-- the pages fit the capacity, none is kept twice, and where the disk tells what it reads each
-- content is that
pub record IsCache {D : Type 0} (d : Ghosts D) (cache : Cache D) : Type 0 where
  pub kept : IsKept (record { capacity = cache.capacity; pages = cache.pages })
  pub agree : IsTrue d.tells → AgreeWith (d.seen cache.disk) cache.pages

-- a page that is kept was asked for: its content is handed out, it is at the front now, and all
-- else is as before
pub record Hits {D T E : Type 0} (file page : ℕ) (content out : List ℕ) (old new : Cache D)
    (result : Result T E) : Type 0 where
  pub ok : IsOk result
  pub given : out ≡ content
  pub moved : new ≡ record old { pages = to_front old.pages file page content }

-- a page that was read is at the front now, or the pages are as before and it counts as unkept
abbrev pub KeepsOrCounts : {D : Type 0} → ℕ → ℕ → List ℕ → Cache D → Cache D → Type 0
KeepsOrCounts file page content old new =
    (new ≡ record old {
      disk = new.disk;
      pages = with_new old.capacity old.pages file page content;
    })
    ⊎ (new ≡ record old { disk = new.disk; unkept = next_count old.unkept })
