-- A stream of requests that comes in pieces.
use Rattle.std.specs.Prelude.{◌≡◌, ℕ, List, [], ◌∷◌, ◌++◌}
use Rattle.kv_base.specs.declared.request.Request.{Request}
use Rattle.kv_model.specs.Frames.{SplitsInto}

-- each piece is read behind what was left: the requests that were whole so, and what is left at the
-- end
abbrev pub ReadInPieces : List (List ℕ) → List ℕ → List Request → List ℕ → Type 0
ReadInPieces [] left requests rest = (requests ≡ []) × (rest ≡ left)
ReadInPieces (piece ∷ pieces) left requests rest =
    (now : List Request) × (later : List Request) × (between : List ℕ)
    × SplitsInto (left ++ piece) now between
    × ReadInPieces pieces between later rest
    × (requests ≡ now ++ later)
