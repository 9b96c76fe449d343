-- What the reader of a head page answers.
use Rattle.std.specs.Prelude.{◌≡◌, ◌≢◌, ℕ, List}
use Rattle.kv_base.specs.Image.{zero_page}
use Rattle.kv_model.specs.Head.{IsHead}
use Rattle.kv_slot.specs.declared.head.HeadRead.{HeadRead}
use Rattle.kv_slot.specs.declared.head.HeadRead.TheVariants.{Zero, Head, Other}

-- the page is zeros, the head of this worker, or neither zeros nor any head
abbrev pub IsReadAs : HeadRead → List ℕ → Type 0
IsReadAs Zero page = page ≡ zero_page
IsReadAs (Head worker workers) page = IsHead page worker workers
IsReadAs Other page = (page ≢ zero_page) × ((worker workers : ℕ) → IsHead page worker workers → ⊥)
