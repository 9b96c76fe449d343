-- Why a disk is refused, and which refusals leave it as it was.
use Rattle.std.specs.Prelude.{◌≡◌, ◌≢◌, ◌⊎◌, ℕ, ◌-◌, ◌^◌, ◌<◌, ◌≤◌, List, IsTrue, ⊤}
use Rattle.kv_base.specs.Crash.{NoMore}
use Rattle.kv_base.specs.Image.{Image, zero_page}
use Rattle.kv_model.specs.Layout.{all_classes}
use Rattle.kv_model.specs.Reading.{heads_at, IsFloor}
use Rattle.kv_model.specs.Head.{IsHead, head_page}
use Rattle.kv_model.specs.Recovery.{OpensAs, IsNew, most_pages}
use Rattle.kv_disk.specs.declared.disk.Disk.{Ghosts}
use Rattle.kv_recover.specs.Pass.{IsPast}
use Rattle.kv_recover.specs.declared.fault.OpenFault.{OpenFault}
use Rattle.kv_recover.specs.declared.fault.OpenFault.TheVariants.{NotAStore, OtherStore, StampsSpent}
use Rattle.kv_recover.specs.declared.fault.OpenFault.TheVariants.{DiskFault, NoMemory}

-- the refusal of a call that only reads has its cause: a disk that is no store, a failed call of the
-- disk, or want of memory
abbrev pub HasReadCause : Type 0 → OpenFault → Type 0
HasReadCause no_store NotAStore = no_store
HasReadCause no_store (OtherStore a b c d) = ⊥
HasReadCause no_store (StampsSpent stamp) = ⊥
HasReadCause no_store DiskFault = ⊤
HasReadCause no_store NoMemory = ⊤

-- the refusal of a call that reads and takes no memory has its cause: a disk that is no store, or a
-- failed call of the disk
abbrev pub HasCheckCause : Type 0 → OpenFault → Type 0
HasCheckCause no_store NotAStore = no_store
HasCheckCause no_store (OtherStore a b c d) = ⊥
HasCheckCause no_store (StampsSpent stamp) = ⊥
HasCheckCause no_store DiskFault = ⊤
HasCheckCause no_store NoMemory = ⊥

-- no slab has a byte other than zero past the most slots of its class
abbrev pub AreBounded : Image → Type 0
AreBounded image = (class page : ℕ) → 1 ≤ class → class ≤ 11 → most_pages class ≤ page
    → image class page ≡ zero_page

-- some slab has a byte other than zero past the most slots of its class
abbrev pub IsPastEnd : Image → Type 0
IsPastEnd image = (class : ℕ) × (1 ≤ class) × (class ≤ 11) × IsPast image class

-- some slab has a byte other than zero
abbrev pub IsUsed : Image → Type 0
IsUsed image = (class : ℕ) × (page : ℕ) × (1 ≤ class) × (class ≤ 11)
    × (image class page ≢ zero_page)

-- the image is no store: its head page is neither zeros nor a head, or it is zeros while a slab
-- isn't, or a slab has a byte past the most slots of its class
abbrev pub IsNoStore : Image → Type 0
IsNoStore image = ((image 0 0 ≢ zero_page) × ((a b : ℕ) → IsHead (image 0 0) a b → ⊥))
    ⊎ (((image 0 0 ≡ zero_page) × IsUsed image) ⊎ IsPastEnd image)

-- the head page is that of another worker or number of workers than asked
pub record IsOtherStore (page : List ℕ) (worker workers kept of : ℕ) : Type 0 where
  pub head : IsHead page kept of
  pub differ : kept ≡ worker → of ≡ workers → ⊥

-- if the page is a head, it is that of this worker of so many
abbrev pub IsNoOthers : List ℕ → ℕ → ℕ → Type 0
IsNoOthers page worker workers = (a b : ℕ) → IsHead page a b → (a ≡ worker) × (b ≡ workers)

-- the disk is new, or its head page is that of this worker of so many
abbrev pub IsOwn : Image → ℕ → ℕ → Type 0
IsOwn image worker workers = IsNew image ⊎ (image 0 0 ≡ head_page worker workers)

-- stamps are left above the floor
pub record HasStampsLeft (image : Image) : Type 0 where
  pub floor : ℕ
  pub floor_is : IsFloor (heads_at all_classes image) floor
  pub spare : floor < 2 ^ 62 - 1

-- the image opens as this worker's, and stamps are left
pub record IsUsable (image : Image) (worker workers : ℕ) : Type 0 where
  pub opens : OpensAs all_classes image worker workers
  pub left : HasStampsLeft image

-- the refusal by a head page has its cause
abbrev pub HasHeadCause : Type 0 → List ℕ → ℕ → ℕ → OpenFault → Type 0
HasHeadCause tells page worker workers NotAStore = tells → (page ≢ zero_page)
    × ((a b : ℕ) → IsHead page a b → ⊥)
HasHeadCause tells page worker workers (OtherStore kept of asked of_asked) =
    (asked ≡ worker) × (of_asked ≡ workers)
    × (tells → IsOtherStore page worker workers kept of)
HasHeadCause tells page worker workers (StampsSpent stamp) = ⊥
HasHeadCause tells page worker workers DiskFault = ⊤
HasHeadCause tells page worker workers NoMemory = ⊥

-- the refusal of a disk before its slabs are read has its cause
abbrev pub HasMakeCause : Type 0 → Image → ℕ → ℕ → OpenFault → Type 0
HasMakeCause tells first worker workers NotAStore = tells → IsNoStore first
    × IsNoOthers (first 0 0) worker workers
HasMakeCause tells first worker workers (OtherStore kept of asked of_asked) =
    (asked ≡ worker) × (of_asked ≡ workers)
    × (tells → IsOtherStore (first 0 0) worker workers kept of)
HasMakeCause tells first worker workers (StampsSpent stamp) = ⊥
HasMakeCause tells first worker workers DiskFault = ⊤
HasMakeCause tells first worker workers NoMemory = tells → IsOwn first worker workers

-- the refusal of opening the slabs of a disk, which tells or not what it reads, has its cause
abbrev pub HasSlabCause : Type 0 → Image → OpenFault → Type 0
HasSlabCause tells first NotAStore = tells → IsPastEnd first
HasSlabCause tells first (OtherStore a b c d) = ⊥
HasSlabCause tells first (StampsSpent stamp) = (2 ^ 62 - 1 ≤ stamp)
    × (tells → IsFloor (heads_at all_classes first) stamp × AreBounded first)
HasSlabCause tells first DiskFault = ⊤
HasSlabCause tells first NoMemory = ⊤

-- a refusal that comes before anything is written
abbrev pub IsSpared : OpenFault → Type 0
IsSpared NotAStore = ⊤
IsSpared (OtherStore a b c d) = ⊤
IsSpared (StampsSpent stamp) = ⊤
IsSpared DiskFault = ⊥
IsSpared NoMemory = ⊥

-- the refusal of opening a disk, which tells or not what it reads, has its cause
abbrev pub HasOpenCause : Type 0 → Image → ℕ → ℕ → OpenFault → Type 0
HasOpenCause tells first worker workers NotAStore = tells → IsNoStore first
    × IsNoOthers (first 0 0) worker workers
HasOpenCause tells first worker workers (OtherStore kept of asked of_asked) =
    (asked ≡ worker) × (of_asked ≡ workers)
    × (tells → IsOtherStore (first 0 0) worker workers kept of)
HasOpenCause tells first worker workers (StampsSpent stamp) = (2 ^ 62 - 1 ≤ stamp)
    × (tells → IsFloor (heads_at all_classes first) stamp
    × OpensAs all_classes first worker workers)
HasOpenCause tells first worker workers DiskFault = ⊤
HasOpenCause tells first worker workers NoMemory = tells → IsOwn first worker workers

-- the disk reads as before, and a crash leaves no more than it could before
pub record IsUntouched {D : Type 0} (d : Ghosts D) (old new : D) : Type 0 where
  pub seen : IsTrue d.tells → d.seen new ≡ d.seen old
  pub crash : NoMore (d.leaves old (d.calls old)) (d.leaves new (d.calls new))
