-- Files of pages, and a disk of such files.
use Rattle.std.specs.Prelude.{◌≡◌, ◌⊎◌, ℕ, ◌<◌, ◌==◌, Bool, true, false, List, ◌++◌, map, drop}
use Rattle.std.specs.Prelude.{replicate, slice_index_or, Result, Ok, Err, if◌then◌else◌}
use Rattle.kv_base.specs.Fault.{Counted}
use Rattle.kv_base.specs.Image.{Image, zero_page}

-- the pages with this content on one of them
unfoldable pub put_page : (ℕ → List ℕ) → ℕ → List ℕ → ℕ → List ℕ
put_page pages page content p = if p == page then content else pages p

-- the pages are as before, or have this content on this one
abbrev pub IsPutOrNot : (ℕ → List ℕ) → (ℕ → List ℕ) → ℕ → List ℕ → Type 0
IsPutOrNot old new page content = (new ≡ old) ⊎ (new ≡ put_page old page content)

-- the files by number and behind them three folders, and the counts of calls and faults
pub record DiskFiles (F : Type 0) : Type 0 where
  pub files : List F
  pub calls : ℕ
  pub faults : ℕ

-- what the files read as
abbrev pub image_in : {F : Type 0} → (F → ℕ → List ℕ) → List F → Image
image_in reads files f p = slice_index_or (map (λ file. reads file p) files) f zero_page

-- a fault of the disk is one of this file, and the other way round
abbrev pub CountedIn : {F T E : Type 0} → (F → ℕ) → ℕ → List F → List F → Result T E → Type 0
CountedIn faults f old new result = Counted (slice_index_or (map faults old) f 0)
    (slice_index_or (map faults new) f 0) result

-- after Ok all are durable; else those in front of one that wasn't, and that one and those behind
-- it are as before
abbrev pub SyncsInOrder : {T E : Type 0} → List Bool → List Bool → Result T E → Type 0
SyncsInOrder old new (Ok done) = new ≡ replicate 17 true
SyncsInOrder old new (Err e) = (failed : ℕ) × (failed < 17)
    × (slice_index_or old failed true ≡ false) × (new ≡ replicate failed true ++ drop failed old)
