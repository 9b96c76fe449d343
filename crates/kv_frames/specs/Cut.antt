-- The content of the frame that bytes begin with.
use Rattle.std.specs.Prelude.{◌≡◌, ℕ, ◌+◌, ◌≤◌, ◌<◌, List, ◌++◌, length, drop}
use Rattle.kv_frames.specs.declared.cut.Front.{Front}
use Rattle.kv_frames.specs.declared.cut.Front.TheVariants.{Whole, More, Malformed}
use Rattle.kv_model.specs.Frames.{framed, stated_length, longest_content, IsPartial}

-- the bytes are a length in range, as many bytes of content, and a rest
pub record BeginsWithContent (bytes content : List ℕ) : Type 0 where
  pub some : 1 ≤ length content
  pub most : length content ≤ longest_content
  pub parts : bytes ≡ framed content ++ drop (4 + length content) bytes

-- a length is there, and it is out of range
pub record IsOutOfRange (bytes : List ℕ) : Type 0 where
  pub length_there : 4 ≤ length bytes
  pub out : 1 ≤ stated_length bytes → longest_content < stated_length bytes

-- what the bytes begin with, as far as the length tells
abbrev pub IsFront : Front → List ℕ → Type 0
IsFront (Whole content) bytes = BeginsWithContent bytes content.now
IsFront More bytes = IsPartial bytes
IsFront Malformed bytes = IsOutOfRange bytes
