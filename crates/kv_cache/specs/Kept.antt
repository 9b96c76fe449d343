-- The pages that a cache keeps, the most recently used first.
use Rattle.std.specs.Prelude.{◌≡◌, ℕ, ◌≤◌, ◌==◌, ◌&&◌, Bool, not, List, [], ◌∷◌, length, take}
use Rattle.std.specs.Prelude.{Option, None, Some, is_some, if◌then◌else◌, ⊤}
use Rattle.std.specs.List.{AllByRecursion, filter}
use Rattle.kv_base.specs.Image.{Image}

-- a page that is kept: where it lies on the disk, and its content
pub record KeptPage : Type 0 where
  pub file : ℕ
  pub page : ℕ
  pub content : List ℕ

-- how many pages may be kept, and those that are
pub record Kept : Type 0 where
  pub capacity : ℕ
  pub pages : List KeptPage

-- the page with a content
abbrev pub kept_page : ℕ → ℕ → List ℕ → KeptPage
kept_page file page content = record { file = file; page = page; content = content }

-- other pages under the same capacity
abbrev pub with_pages : Kept → List KeptPage → Kept
with_pages kept pages = record { capacity = kept.capacity; pages = pages }

-- it is this page
abbrev pub is_at : ℕ → ℕ → KeptPage → Bool
is_at file page kept = (file == kept.file) && (page == kept.page)

-- the content that is kept of a page
abbrev pub content_of : List KeptPage → ℕ → ℕ → Option (List ℕ)
content_of [] file page = None
content_of (kept ∷ pages) file page =
    if is_at file page kept then Some kept.content else content_of pages file page

-- the pages but this one, in their order
abbrev pub without : List KeptPage → ℕ → ℕ → List KeptPage
without pages file page = filter (λ kept. not (is_at file page kept)) pages

-- this page with this content at the front, and the others behind it in their order
abbrev pub to_front : List KeptPage → ℕ → ℕ → List ℕ → List KeptPage
to_front pages file page content = kept_page file page content ∷ without pages file page

-- the pages once this one has another content: if it is kept, it is at the front with that
abbrev pub renewed : List KeptPage → ℕ → ℕ → List ℕ → List KeptPage
renewed pages file page content =
    if is_some (content_of pages file page) then to_front pages file page content else pages

-- one page more at the front; of a full list the last is lost
abbrev pub with_new : ℕ → List KeptPage → ℕ → ℕ → List ℕ → List KeptPage
with_new capacity pages file page content = take capacity (kept_page file page content ∷ pages)

-- no page is kept twice
abbrev pub AreApart : List KeptPage → Type 0
AreApart [] = ⊤
AreApart (kept ∷ pages) = (content_of pages kept.file kept.page ≡ None) × AreApart pages

-- each content is that of the image
abbrev pub AgreeWith : Image → List KeptPage → Type 0
AgreeWith image pages = AllByRecursion (λ kept. kept.content ≡ image kept.file kept.page) pages

-- at least one page may be kept and at most 1,024, no more are, and none is kept twice
pub record IsKept (kept : Kept) : Type 0 where
  pub least : 1 ≤ kept.capacity
  pub most : kept.capacity ≤ 1024
  pub within : length kept.pages ≤ kept.capacity
  pub apart : AreApart kept.pages
