-- The head page of a disk, which names its worker.
use Rattle.std.specs.Prelude.{◌≡◌, ℕ, ◌<◌, ◌≤◌, List, [], ◌∷◌, ◌++◌}
use Rattle.std.specs.Int.{w16, to_le_bytes}
use Rattle.kv_model.specs.Layout.{page_size}
use Rattle.kv_model.specs.Padding.{padded}

-- the letters KVPAGED1
abbrev pub magic : List ℕ
magic = 0x4b ∷ 0x56 ∷ 0x50 ∷ 0x41 ∷ 0x47 ∷ 0x45 ∷ 0x44 ∷ 0x31 ∷ []

-- the head page of this worker of so many
unfoldable pub head_page : ℕ → ℕ → List ℕ
head_page worker workers = padded page_size (magic ++ to_le_bytes w16 1 ++ to_le_bytes w16 worker
    ++ to_le_bytes w16 workers)

-- a worker of 1 to 16
pub record IsWorker (worker workers : ℕ) : Type 0 where
  pub below : worker < workers
  pub limit : workers ≤ 16

-- the page is the head of this worker of so many
pub record IsHead (page : List ℕ) (worker workers : ℕ) : Type 0 where
  pub worker_is : IsWorker worker workers
  pub page_is : page ≡ head_page worker workers
