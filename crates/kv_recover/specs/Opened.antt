-- What opening a disk of all classes keeps and gives.
use Rattle.std.specs.Prelude.{◌≡◌, ◌⊎◌, ℕ, ◌<◌, ◌≤◌, List, [], length, slice_get, slice_index, Some}
use Rattle.kv_base.specs.Image.{Image, zero_page, with_page}
use Rattle.kv_free.specs.FreeList.{Tail, StandsFor}
use Rattle.kv_index.specs.Entries.{Entries}
use Rattle.kv_model.specs.Head.{head_page}
use Rattle.kv_model.specs.Layout.{all_classes}
use Rattle.kv_model.specs.Recovery.{OpensAs, IsNew, most_pages}
use Rattle.kv_base.specs.Crash.{MayLeave}
use Rattle.kv_disk.specs.declared.disk.Disk.{Ghosts}
use Rattle.kv_model.specs.Reading.{slot_at, heads_at, small_slot, large_slot, IsFloor}
use Rattle.kv_recover.specs.Free.{free_slots}
use Rattle.kv_recover.specs.Freed.{KeepsSame}
use Rattle.kv_recover.specs.Found.{HoldsKept}
use Rattle.kv_recover.specs.Pass.{IsSlabEnd, HasFoundBelow, ItemsFit}
use Rattle.kv_recover.specs.Large.{IsLargeSlabEnd}
use Rattle.kv_recover.specs.Causes.{AreBounded, IsUntouched}
use Rattle.kv_recover.specs.Lists.{IsFreeList, HasLinks}

-- the same items are kept as in the first image, the floor and the head page are the same, and each
-- page past the most slots of its class
pub record KeepsSlabs (first : Image) (worker workers : ℕ) (image : Image) : Type 0 where
  pub kept : KeepsSame (slot_at all_classes first) worker workers (slot_at all_classes image)
  pub floor : (floor : ℕ) → IsFloor (heads_at all_classes first) floor
      → IsFloor (heads_at all_classes image) floor
  pub head : image 0 0 ≡ first 0 0
  pub past : (class page : ℕ) → most_pages class ≤ page → image class page ≡ first class page

-- the same items are kept as in the first image, and the floor is the same; the image opens as this
-- worker if the first did, and the head page is the same, or that of this worker on a new disk
pub record KeepsStore (first : Image) (worker workers : ℕ) (image : Image) : Type 0 where
  pub kept : KeepsSame (slot_at all_classes first) worker workers (slot_at all_classes image)
  pub floor : (floor : ℕ) → IsFloor (heads_at all_classes first) floor
      → IsFloor (heads_at all_classes image) floor
  pub opens : OpensAs all_classes first worker workers
      → OpensAs all_classes image worker workers
  pub head : (image 0 0 ≡ first 0 0) ⊎ (IsNew first × (image 0 0 ≡ head_page worker workers))

-- the disk has the head of this worker and is as it was, or it is new and has got that head
abbrev pub IsPrepared : {D : Type 0} → Ghosts D → ℕ → ℕ → D → D → Type 0
IsPrepared d worker workers old new =
    (IsUntouched d old new × (d.seen old 0 0 ≡ head_page worker workers))
    ⊎ (IsNew (d.seen old)
    × (d.seen new ≡ with_page (d.seen old) 0 0 (head_page worker workers)))

-- a crash could leave the image at the beginning, or it keeps the store that the disk read as then
abbrev pub LeftOrKept : {D : Type 0} → Ghosts D → D → ℕ → ℕ → Image → Type 0
LeftOrKept d old worker workers image = MayLeave (d.leaves old (d.calls old)) image
    ⊎ KeepsStore (d.seen old) worker workers image

-- one past the class's last slot that has a byte other than zero
pub record IsEndOf (image : Image) (class end : ℕ) : Type 0 where
  pub small : class ≤ 7 → IsSlabEnd (small_slot image class) end
  pub large : 8 ≤ class → IsLargeSlabEnd (large_slot image class) end

-- the classes below this one were seen
pub record FindsAllBelow (image : Image) (worker workers class : ℕ) (entries : Entries) (floor : ℕ)
    (ends : List ℕ) : Type 0 where
  pub found : HasFoundBelow image worker workers class entries floor
  pub ends_are : (c : ℕ) → 1 ≤ c → c < class → IsEndOf image c (slice_index ends c)
  pub bounded : (c page : ℕ) → 1 ≤ c → c < class → most_pages c ≤ page
      → image c page ≡ zero_page
  pub fits : (c : ℕ) → 1 ≤ c → c < class → ItemsFit image c

-- what was found on the image: the index has the items that are kept, the number is the floor, and
-- each item has the least class that holds it
pub record HasFoundStore (image : Image) (worker workers : ℕ) (entries : Entries)
    (floor : ℕ) : Type 0 where
  pub holds : HoldsKept entries (slot_at all_classes image) worker workers
  pub floor_is : IsFloor (heads_at all_classes image) floor
  pub fits : (class : ℕ) → ItemsFit image class

-- what a class has after opening: its end, and its list, which the stack stands for
pub record HasClassList (image : Image) (worker workers : ℕ) (entries : Entries)
    (floor class end : ℕ) (stack : Tail) : Type 0 where
  pub list : List ℕ
  pub list_is : list ≡ free_slots entries (slot_at all_classes image) class end
  pub end_is : IsEndOf image class end
  pub free : IsFreeList (slot_at all_classes image) worker workers class end list
  pub links : HasLinks (slot_at all_classes image) class floor list
  pub stands : StandsFor stack list

-- the image is that of an opened store
pub record IsOpenedStore (image : Image) (worker workers : ℕ) (entries : Entries) (floor : ℕ)
    (ends : List ℕ) (stacks : List Tail) : Type 0 where
  pub holds : HoldsKept entries (slot_at all_classes image) worker workers
  pub floor_is : IsFloor (heads_at all_classes image) floor
  pub count : length stacks ≡ 12
  pub lists : (class : ℕ) (stack : Tail) → 1 ≤ class → slice_get stacks class ≡ Some stack
      → HasClassList image worker workers entries floor class (slice_index ends class) stack
  pub none : (stack : Tail) → slice_get stacks 0 ≡ Some stack → StandsFor stack []
  pub head : image 0 0 ≡ head_page worker workers
  pub bounded : AreBounded image
