-- Two pages that are written one behind the other, each with a sync.
use Rattle.std.specs.Prelude.{◌≡◌, ◌⊎◌, ℕ, List}
use Rattle.kv_base.specs.Image.{Image, with_page}

-- the image before, with the first page alone, or with both
abbrev pub IsInOrder : Image → ℕ → ℕ → List ℕ → ℕ → List ℕ → Image → Type 0
IsInOrder base file first one second two image =
    (image ≡ base) ⊎ ((image ≡ with_page base file first one)
    ⊎ (image ≡ with_page (with_page base file first one) file second two))
