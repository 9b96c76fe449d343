-- A disk in memory that keeps its calls, and what a crash may leave of it.
use Rattle.std.specs.Prelude.{◌≡◌, ℕ, ◌^◌, ◌≤◌, ◌<◌, ◌&&◌, ◌⊎◌, ◌↔◌, nat_le, Bool, List, [], ◌∷◌}
use Rattle.std.specs.Prelude.{◌++◌, length, map, min, take, Result, IsErr, IsNone, is_none, is_ok}
use Rattle.std.specs.Prelude.{is_err, Contains, if◌then◌else◌}
use Rattle.kv_base.specs.Calls.{next_count}
use Rattle.kv_base.specs.Image.{Image}
use Rattle.kv_base.specs.Crash.{Choices}
use Rattle.kv_disk.specs.declared.call.Held.{Held}
use Rattle.kv_disk.specs.declared.call.Spot.{Spot}
use Rattle.kv_disk.specs.declared.call.Call.{Call}
use Rattle.kv_disk.specs.declared.call.Call.TheVariants.{Write, Sync, Idle}
use Rattle.kv_disk.specs.Replay.{place_in, spot, spot_of, held_with, put_at, Left, left_in}
use Rattle.kv_disk.specs.Replay.{spots_in, settled_in}

-- the pages before the first call, the calls in order as far as their room goes, the rooms for
-- pages and for calls, the numbers of the calls that fail, and the counts
pub record RecordedDisk : Type 0 where
  pub pages : List Held
  pub log : List Call
  pub page_room : ℕ
  pub call_room : ℕ
  pub failing : List ℕ
  pub calls : ℕ
  pub faults : ℕ

-- what a page reads as and what a crash may leave of it, at a moment
abbrev pub left_at : RecordedDisk → ℕ → ℕ → ℕ → Left
left_at disk t f p = left_in disk.pages (take t disk.log) f p

-- what it reads as
abbrev pub image_of : RecordedDisk → Image
image_of disk f p = (left_at disk disk.calls f p).seen

-- what a crash at a moment may leave of each page
abbrev pub choices_of : RecordedDisk → ℕ → Choices
choices_of disk t f p c = Contains (left_at disk t f p).contents c

-- the pages that it holds
abbrev pub spots_of : RecordedDisk → List Spot
spots_of disk = spots_in disk.pages (take disk.calls disk.log)

-- its room for calls is spent
abbrev pub IsPast : RecordedDisk → Type 0
IsPast disk = disk.call_room ≤ length disk.log

-- the next call is one of those that fail
abbrev pub IsListed : RecordedDisk → Type 0
IsListed disk = Contains disk.failing (next_count disk.calls)

-- the page is new and the room for pages is spent
abbrev pub IsFull : RecordedDisk → ℕ → ℕ → Type 0
IsFull disk f p = IsNone (place_in (spots_of disk) f p) × (disk.page_room ≤ length (spots_of disk))

-- the same as a test
abbrev pub is_full : RecordedDisk → ℕ → ℕ → Bool
is_full disk f p = is_none (place_in (spots_of disk) f p) && nat_le disk.page_room
    (length (spots_of disk))

-- a call was counted, and is kept on the list of calls where there is room; all else stays
pub record Keeps {T E : Type 0} (call : Call) (old new : RecordedDisk) (result : Result T E) : Type 0 where
  pub log : new.log ≡ (if nat_le old.call_room (length old.log) then old.log
      else old.log ++ call ∷ [])
  pub pages : new.pages ≡ old.pages
  pub page_room : new.page_room ≡ old.page_room
  pub call_room : new.call_room ≡ old.call_room
  pub failing : new.failing ≡ old.failing
  pub calls : new.calls ≡ next_count old.calls
  pub faults : new.faults ≡ (if is_err result then next_count old.faults else old.faults)

-- a read or a length: it fails exactly at a listed call and past the room for calls, and changes
-- nothing else
pub record RecordsLook {T E : Type 0} (old new : RecordedDisk) (result : Result T E) : Type 0 where
  pub failed : IsErr result ↔ (IsPast old ⊎ IsListed old)
  pub kept : Keeps Idle old new result

-- a sync: it fails exactly at a listed call and past the room for calls, and then changes nothing
-- else
pub record RecordsSync {T E : Type 0} (old new : RecordedDisk) (result : Result T E) : Type 0 where
  pub failed : IsErr result ↔ (IsPast old ⊎ IsListed old)
  pub kept : Keeps (if is_ok result then Sync else Idle) old new result

-- a write: it fails exactly at a listed call and where a room is spent; where a room is spent it
-- changes the counts alone
pub record RecordsWrite {T E : Type 0} (file page : ℕ) (content : List ℕ) (old new : RecordedDisk)
    (result : Result T E) : Type 0 where
  pub failed : IsErr result ↔ (IsPast old ⊎ (IsFull old file page ⊎ IsListed old))
  pub kept : Keeps (if is_full old file page then Idle
      else Write (record { file = file; page = page; content = content; done = is_ok result })) old
      new result

-- its list of calls is as long as its count of calls and its room allow
abbrev pub IsCounted : RecordedDisk → Type 0
IsCounted disk = length disk.log ≡ min disk.calls disk.call_room

-- a disk in memory on which a page was put, synced at once
abbrev pub with_held : RecordedDisk → ℕ → ℕ → List ℕ → RecordedDisk
with_held disk file page content =
    record disk {
      pages = put_at disk.pages (held_with (spot file page) content)
          (place_in (map spot_of disk.pages) file page);
    }

-- a disk in memory after a crash
abbrev pub crashed : RecordedDisk → ℕ → List ℕ → RecordedDisk
crashed disk moment choice =
    record {
      pages = settled_in disk.pages (take moment disk.log) choice;
      log = [];
      page_room = disk.page_room;
      call_room = disk.call_room;
      failing = [];
      calls = 0;
      faults = 0;
    }

-- its list of calls is as long as its count of calls and its room allow, and its numbers are those
-- of their types
pub record IsRecordedDisk (disk : RecordedDisk) : Type 0 where
  pub counted : IsCounted disk
  pub room : disk.call_room < 2 ^ 32
  pub calls : disk.calls < 2 ^ 64
  pub faults : disk.faults < 2 ^ 64
