-- A disk in memory that keeps its pages alone.
use Rattle.std.specs.Prelude.{◌≡◌, ℕ, ◌+◌, ◌≤◌, ◌==◌, ◌&&◌, ◌↔◌, List, length, Option, None, Some}
use Rattle.std.specs.Prelude.{Result, IsErr, IsNone, IsSome, OnErr, OnOk, is_none, is_err, slice_index_or}
use Rattle.std.specs.Prelude.{if◌then◌else◌}
use Rattle.std.specs.Map.{lookup}
use Rattle.kv_base.specs.Calls.{next_count}
use Rattle.kv_base.specs.Image.{Image, zero_page}
use Rattle.kv_base.specs.Crash.{Choices}

-- contents that were written, the place among them of each page by file and page, the room for
-- pages, and the counts of calls and faults
pub record Plain : Type 0 where
  pub places : List ((ℕ × ℕ) × ℕ)
  pub contents : List (List ℕ)
  pub room : ℕ
  pub calls : ℕ
  pub faults : ℕ

-- the content at a place, zeros where there is no place
abbrev pub content_at : List (List ℕ) → Option ℕ → List ℕ
content_at contents None = zero_page
content_at contents (Some place) = slice_index_or contents place zero_page

-- the place of a page that was written
abbrev pub place_of : List ((ℕ × ℕ) × ℕ) → ℕ → ℕ → Option ℕ
place_of places f p = lookup (λ k. (f == k.0) && (p == k.1)) places

-- what it reads as
abbrev pub image_of : Plain → Image
image_of disk f p = content_at disk.contents (place_of disk.places f p)

-- one past the last page of the file that was written, and 0 where none was
pub record EndsAt (disk : Plain) (file pages : ℕ) : Type 0 where
  pub above : (p : ℕ) → pages ≤ p → place_of disk.places file p ≡ None
  pub last : (p : ℕ) → pages ≡ p + 1 → IsSome (place_of disk.places file p)

-- no content is told to be left by a crash
abbrev pub no_choices : ℕ → Choices
no_choices t f p c = ⊥

-- a call that changes the count of calls alone
abbrev pub Counts : Plain → Plain → Type 0
Counts old new = new ≡ record old { calls = next_count old.calls }

-- a write fails exactly where the page is new and the room is spent, and then changes the counts
-- alone
pub record PlainWrites {T E : Type 0} (file page : ℕ) (old new : Plain) (result : Result T E) : Type
    0 where
  pub failed : IsErr result ↔ (IsNone (place_of old.places file page)
      × (old.room ≤ length old.contents))
  pub kept : OnErr result ((new.places ≡ old.places) × (new.contents ≡ old.contents))
  pub held : OnOk result (length new.contents ≡ length old.contents
      + (if is_none (place_of old.places file page) then 1 else 0))
  pub room : new.room ≡ old.room
  pub calls : new.calls ≡ next_count old.calls
  pub faults : new.faults ≡ (if is_err result then next_count old.faults else old.faults)
