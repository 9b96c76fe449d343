-- What a disk reads as.
use Rattle.std.specs.Prelude.{ℕ, List, replicate, ◌==◌, ◌&&◌, if◌then◌else◌}

-- the bytes of each page, by file and page
abbrev pub Image : Type 0
Image = ℕ → ℕ → List ℕ

-- the bytes of a page
abbrev pub page_size : ℕ
page_size = 4096

-- a page that was never written
unfoldable pub zero_page : List ℕ
zero_page = replicate page_size 0

-- the image with this content on one page
unfoldable pub with_page : Image → ℕ → ℕ → List ℕ → Image
with_page image file page content f p = if (f == file) && (p == page) then content else image f p
