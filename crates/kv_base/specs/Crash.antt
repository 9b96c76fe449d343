-- What a crash may leave of a disk, and how the calls of a disk change it.
use Rattle.std.specs.Prelude.{◌≡◌, ◌⊎◌, ℕ, ◌+◌, ◌-◌, ◌^◌, ◌≤◌, min, List, Result, OnOk}
use Rattle.kv_base.specs.Image.{Image, with_page}

-- the contents that a crash may leave of each page, by file and page
abbrev pub Choices : Type 1
Choices = ℕ → ℕ → List ℕ → Type 0

-- a crash may leave this image, each page by itself
abbrev pub MayLeave : Choices → Image → Type 0
MayLeave choices image = (f p : ℕ) → choices f p (image f p)

-- a crash leaves no other image than this
abbrev pub Only : Image → Choices → Type 0
Only image choices = (f p : ℕ) (c : List ℕ) → choices f p c → c ≡ image f p

-- each content that may be left now could be left before
abbrev pub NoMore : Choices → Choices → Type 0
NoMore old new = (f p : ℕ) (c : List ℕ) → new f p c → old f p c

-- the same contents may be left as before
pub record Same (old new : Choices) : Type 0 where
  pub no_more : NoMore old new
  pub no_less : NoMore new old

-- a write of a page: besides what could be left before, only this content at this page, and after
-- Ok that too
pub record Adds {T E : Type 0} (file page : ℕ) (content : List ℕ) (result : Result T E)
    (old new : Choices) : Type 0 where
  pub no_more : (f p : ℕ) (c : List ℕ) → new f p c → old f p c ⊎ ((f ≡ file) × (p ≡ page)
      × (c ≡ content))
  pub no_less : NoMore new old
  pub written : (c : List ℕ) → old file page c → OnOk result (new file page content)

-- the image is as before, or has this content on this page
abbrev pub WrittenOrNot : ℕ → ℕ → List ℕ → Image → Image → Type 0
WrittenOrNot file page content old new = (new ≡ old) ⊎ (new ≡ with_page old file page content)

-- one more call was counted, and what could be left at earlier moments stays; the count stops at
-- the greatest of its type
pub record Advances (before now : ℕ) (past since : ℕ → Choices) : Type 0 where
  pub later : before ≤ now
  pub counted : now ≡ min (before + 1) (2 ^ 64 - 1)
  pub same : (t : ℕ) → t ≤ before → Same (past t) (since t)

-- at each moment from one to another a crash leaves only images that have P, and what could be left
-- at earlier ones stays
pub record LeavesOnly (from to : ℕ) (past since : ℕ → Choices) (P : Image → Type 0) : Type 0 where
  pub later : from ≤ to
  pub each : (t : ℕ) → from ≤ t → t ≤ to → (image : Image) → MayLeave (since t) image → P image
  pub before : (t : ℕ) → t ≤ from → Same (past t) (since t)
