-- Lemmas on frames.
use Rattle.std.proofs.Common.{◌≡◌, ℕ, ◌+◌, ◌≤◌, List, ◌++◌, length, take, refl}
use Rattle.std.proofs.Common.{ap, ◌∙◌, arith, length-append, append_assoc}
use Rattle.std.proofs.lemmas.List.{take_at}
use Rattle.std.proofs.lemmas.Nat.{from_le_bytes-to_le_bytes_4}
use Rattle.std.specs.Int.{w32, to_le_bytes, from_le_bytes}
use Rattle.kv_model.specs.Frames.{framed, stated_length, request_frame, request_content}
use Rattle.kv_model.specs.Frames.{BeginsWithNoRequest, IsPartial}

-- a frame's length is read back from its first four bytes
pub stated_length-framed : (content rest : List ℕ) → length content ≤ 66000
    → stated_length (framed content ++ rest) ≡ length content
stated_length-framed content rest small =
    ap (from_le_bytes w32) (ap (take 4) (append_assoc (to_le_bytes w32 (length content)) content
    rest) ∙ take_at (to_le_bytes w32 (length content)) (content ++ rest) 4 refl)
    ∙ from_le_bytes-to_le_bytes_4 (length content) (omega arith)

-- no frame begins a part of a frame
pub BeginsWithNoRequest-partial : (bytes : List ℕ) → IsPartial bytes → BeginsWithNoRequest bytes
BeginsWithNoRequest-partial bytes partial request rest begins =
    let content : List ℕ = request_content request in
    let stated : stated_length bytes ≡ length content = ap stated_length begins.parts
    ∙ stated_length-framed content rest begins.has.size in
    let long : length bytes ≡ 4 + length content + length rest = ap length begins.parts
    ∙ (length-append (request_frame request) rest
    ∙ ap (λ n. n + length rest) (length-append (to_le_bytes w32 (length content))
    content)) in
    let short = partial (omega arith) in
    absurd (omega arith)
