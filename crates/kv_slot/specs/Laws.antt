-- What is put in a slot is read from it again.
use Rattle.std.specs.Prelude.{◌≡◌, ◌≢◌, ℕ, ◌^◌, ◌+◌, ◌<◌, ◌≤◌, List, ◌∷◌, length, take, drop}
use Rattle.std.specs.Prelude.{Option, Some, IfSome, slice_set}
use Rattle.kv_model.specs.Layout.{Layout, class_of, slot_size, pages_in_slot}
use Rattle.kv_model.specs.SlotBytes.{item_bytes, tombstone_bytes, tombstone_size, large_page}
use Rattle.kv_model.specs.SlotBytes.{large_pages}
use Rattle.kv_slot.specs.Overwrite.{overwritten}
use Rattle.kv_model.specs.Slots.{Item, Tombstone, Torn, read_small, read_large, stamp_field}

-- an item of the classes 1 to 7 is read again, under each layout that gives it its class
abbrev pub ItemsReadAgain : Type 0
ItemsReadAgain = (layout : Layout) (class stamp : ℕ) (key value : List ℕ) → class ≤ 7
    → stamp < 2 ^ 64
    → class_of layout (length key) (length value) ≡ Some class
    → read_small layout class (item_bytes class stamp key value) ≡ Item stamp key value

-- a tombstone of the classes 1 to 7 is read again, under each layout
abbrev pub TombstonesReadAgain : Type 0
TombstonesReadAgain = (layout : Layout) (class stamp : ℕ) (link : Option ℕ) → stamp < 2 ^ 64
    → IfSome link (λ slot. slot < 2 ^ 24)
    → read_small layout class (tombstone_bytes class stamp link) ≡ Tombstone stamp link

-- a tombstone of the classes 8 to 11 is read again from the first page, whatever the later pages
-- have
abbrev pub LargeTombstonesReadAgain : Type 0
LargeTombstonesReadAgain = (layout : Layout) (class stamp : ℕ) (link : Option ℕ)
    (later : List (List ℕ)) → stamp < 2 ^ 64 → IfSome link (λ slot. slot < 2 ^ 24)
    → read_large layout class (tombstone_bytes class stamp link ∷ later) ≡ Tombstone stamp link

-- an item of the classes 8 to 11 is read again, under each layout that gives it its class
abbrev pub LargeItemsReadAgain : Type 0
LargeItemsReadAgain = (layout : Layout) (class stamp : ℕ) (key value : List ℕ) → 8 ≤ class
    → class ≤ 11 → stamp < 2 ^ 64
    → class_of layout (length key) (length value) ≡ Some class
    → read_large layout class (large_pages class stamp key value) ≡ Item stamp key value

-- an item of the classes 8 to 11 with another stamp at the head of one of its later pages is torn
abbrev pub OtherStampsTear : Type 0
OtherStampsTear = (layout : Layout) (class stamp : ℕ) (key value : List ℕ) (number : ℕ)
    (page : List ℕ) → 8 ≤ class → class ≤ 11 → stamp < 2 ^ 64
    → class_of layout (length key) (length value) ≡ Some class → 1 ≤ number
    → number < pages_in_slot class → stamp_field page ≢ stamp
    → read_large layout class (slice_set (large_pages class stamp key value) number page)
    ≡ Torn stamp

-- the bytes at the offset, of this count
abbrev pub part_at : List ℕ → ℕ → ℕ → List ℕ
part_at page offset count = take count (drop offset page)

-- the page now has these bytes at the offset, as many bytes as before, and each part beside them as
-- it was
pub record IsPutInPlace (page : List ℕ) (offset : ℕ) (bytes now : List ℕ) : Type 0 where
  pub size : length now ≡ length page
  pub put : part_at now offset (length bytes) ≡ bytes
  pub before : (other count : ℕ) → other + count ≤ offset
      → part_at now other count ≡ part_at page other count
  pub behind : (other count : ℕ) → offset + length bytes ≤ other
      → part_at now other count ≡ part_at page other count

-- bytes that are put over others inside a page change nothing else of it
abbrev pub OverwritesStayInPlace : Type 0
OverwritesStayInPlace = (page bytes : List ℕ) (offset : ℕ) → offset + length bytes ≤ length page
    → IsPutInPlace page offset bytes (overwritten page offset bytes)

-- each slot and page that is written has its size
pub record HaveTheirSize : Type 0 where
  pub item : (layout : Layout) (class stamp : ℕ) (key value : List ℕ) → class ≤ 7
      → class_of layout (length key) (length value) ≡ Some class
      → length (item_bytes class stamp key value) ≡ slot_size class
  pub tombstone : (class stamp : ℕ) (link : Option ℕ) → length (tombstone_bytes class stamp link)
      ≡ tombstone_size class
  pub page : (stamp : ℕ) (key value : List ℕ) (number : ℕ)
      → length (large_page stamp key value number) ≡ 4096

-- each slot and page that is written begins with its stamp
pub record BeginWithStamp : Type 0 where
  pub item : (class stamp : ℕ) (key value : List ℕ) → stamp < 2 ^ 64
      → stamp_field (item_bytes class stamp key value) ≡ stamp
  pub tombstone : (class stamp : ℕ) (link : Option ℕ) → stamp < 2 ^ 64
      → stamp_field (tombstone_bytes class stamp link) ≡ stamp
  pub page : (stamp : ℕ) (key value : List ℕ) (number : ℕ) → stamp < 2 ^ 64
      → stamp_field (large_page stamp key value number) ≡ stamp
