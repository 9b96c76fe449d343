-- Frames: a length in four bytes, least first, and as many bytes of a kind and a body.
use Rattle.std.specs.Prelude.{◌≡◌, ℕ, ◌+◌, ◌^◌, ◌<◌, ◌≤◌, List, [], ◌∷◌, ◌++◌, length, take, Bool}
use Rattle.std.specs.Prelude.{true, false, ⊤}
use Rattle.std.specs.List.{AllByRecursion, flat_map}
use Rattle.std.specs.Int.{w32, w64, to_le_bytes, from_le_bytes}
use Rattle.kv_base.specs.declared.request.Request.{Request}
use Rattle.kv_base.specs.declared.request.Request.TheVariants.{Put, Get, Delete, Flush, After}
use Rattle.kv_base.specs.declared.reply.Reply.{Reply}
use Rattle.kv_base.specs.declared.reply.Reply.TheVariants.{Stored, Found, Missing, Removed, Absent}
use Rattle.kv_base.specs.declared.reply.Reply.TheVariants.{BadKey, TooLarge, Full, NoMemory}
use Rattle.kv_base.specs.declared.reply.Reply.TheVariants.{DiskFault, Unsure, Closed, StampsSpent}
use Rattle.kv_base.specs.declared.reply.Reply.TheVariants.{Malformed, Noted, Ahead}

-- the content behind its length
abbrev pub framed : List ℕ → List ℕ
framed content = to_le_bytes w32 (length content) ++ content

-- the most bytes of kind and body
abbrev pub longest_content : ℕ
longest_content = 66000

-- the kind and the body of a request
abbrev pub request_content : Request → List ℕ
request_content (Put key value) = 0x01 ∷ length key ∷ key ++ value
request_content (Get key) = 0x02 ∷ key
request_content (Delete key) = 0x03 ∷ key
request_content Flush = 0x05 ∷ []
request_content (After stamp) = 0x06 ∷ to_le_bytes w64 stamp

-- the request's fields can be written in its body
abbrev pub HasRequestBody : Request → Type 0
HasRequestBody (Put key value) = length key < 256
HasRequestBody (Get key) = ⊤
HasRequestBody (Delete key) = ⊤
HasRequestBody Flush = ⊤
HasRequestBody (After stamp) = stamp < 2 ^ 64

-- the request has a frame
pub record HasRequestFrame (request : Request) : Type 0 where
  pub body : HasRequestBody request
  pub size : length (request_content request) ≤ longest_content

-- the one frame of the request
abbrev pub request_frame : Request → List ℕ
request_frame request = framed (request_content request)

-- the kind and the body of a reply
abbrev pub reply_content : Reply → List ℕ
reply_content (Stored stamp) = 0x81 ∷ to_le_bytes w64 stamp
reply_content (Found stamp value) = 0x82 ∷ to_le_bytes w64 stamp ++ value
reply_content (Missing stamp) = 0x83 ∷ to_le_bytes w64 stamp
reply_content (Removed stamp) = 0x84 ∷ to_le_bytes w64 stamp
reply_content (Absent stamp) = 0x85 ∷ to_le_bytes w64 stamp
reply_content BadKey = 0xE1 ∷ []
reply_content TooLarge = 0xE2 ∷ []
reply_content (Full class) = 0xE3 ∷ class ∷ []
reply_content NoMemory = 0xE4 ∷ []
reply_content DiskFault = 0xE5 ∷ []
reply_content (Unsure stamp) = 0xE6 ∷ to_le_bytes w64 stamp
reply_content Closed = 0xE7 ∷ []
reply_content (StampsSpent number) = 0xE8 ∷ to_le_bytes w64 number
reply_content (Malformed offset) = 0xE9 ∷ to_le_bytes w64 offset
reply_content Noted = 0x87 ∷ []
reply_content (Ahead number) = 0xEA ∷ to_le_bytes w64 number

-- the reply's fields can be written in its body
abbrev pub HasReplyBody : Reply → Type 0
HasReplyBody (Stored stamp) = stamp < 2 ^ 64
HasReplyBody (Found stamp value) = stamp < 2 ^ 64
HasReplyBody (Missing stamp) = stamp < 2 ^ 64
HasReplyBody (Removed stamp) = stamp < 2 ^ 64
HasReplyBody (Absent stamp) = stamp < 2 ^ 64
HasReplyBody BadKey = ⊤
HasReplyBody TooLarge = ⊤
HasReplyBody (Full class) = class < 256
HasReplyBody NoMemory = ⊤
HasReplyBody DiskFault = ⊤
HasReplyBody (Unsure stamp) = stamp < 2 ^ 64
HasReplyBody Closed = ⊤
HasReplyBody (StampsSpent number) = number < 2 ^ 64
HasReplyBody (Malformed offset) = offset < 2 ^ 64
HasReplyBody Noted = ⊤
HasReplyBody (Ahead number) = number < 2 ^ 64

-- the reply has a frame
pub record HasReplyFrame (reply : Reply) : Type 0 where
  pub body : HasReplyBody reply
  pub size : length (reply_content reply) ≤ longest_content

-- the one frame of the reply
abbrev pub reply_frame : Reply → List ℕ
reply_frame reply = framed (reply_content reply)

-- the number in the first four bytes
abbrev pub stated_length : List ℕ → ℕ
stated_length bytes = from_le_bytes w32 (take 4 bytes)

-- the bytes are the request's frame and then the rest
pub record BeginsWithRequest (bytes : List ℕ) (request : Request) (rest : List ℕ) : Type 0 where
  pub has : HasRequestFrame request
  pub parts : bytes ≡ request_frame request ++ rest

-- no request's frame begins the bytes
abbrev pub BeginsWithNoRequest : List ℕ → Type 0
BeginsWithNoRequest bytes = (request : Request) (rest : List ℕ)
    → BeginsWithRequest bytes request rest → ⊥

-- the bytes are the reply's frame and then the rest
pub record BeginsWithReply (bytes : List ℕ) (reply : Reply) (rest : List ℕ) : Type 0 where
  pub has : HasReplyFrame reply
  pub parts : bytes ≡ reply_frame reply ++ rest

-- no reply's frame begins the bytes
abbrev pub BeginsWithNoReply : List ℕ → Type 0
BeginsWithNoReply bytes = (reply : Reply) (rest : List ℕ) → BeginsWithReply bytes reply rest → ⊥

-- fewer than four bytes are there, or a length in range and fewer bytes than it says
abbrev pub IsPartial : List ℕ → Type 0
IsPartial bytes = 4 ≤ length bytes → (1 ≤ stated_length bytes)
    × (stated_length bytes ≤ longest_content) × (length bytes < 4 + stated_length bytes)

-- a length is there, and all bytes that it asks for where it is in range; still no request begins
-- the bytes
pub record IsMalformed (bytes : List ℕ) : Type 0 where
  pub length_there : 4 ≤ length bytes
  pub all_there : 1 ≤ stated_length bytes → stated_length bytes ≤ longest_content
      → 4 + stated_length bytes ≤ length bytes
  pub none : BeginsWithNoRequest bytes

-- the same of a reply
pub record IsMalformedReply (bytes : List ℕ) : Type 0 where
  pub length_there : 4 ≤ length bytes
  pub all_there : 1 ≤ stated_length bytes → stated_length bytes ≤ longest_content
      → 4 + stated_length bytes ≤ length bytes
  pub none : BeginsWithNoReply bytes

-- the bytes are the frames of these requests and then the rest
pub record BeginsWithRequests (bytes : List ℕ) (requests : List Request)
    (rest : List ℕ) : Type 0 where
  pub parts : bytes ≡ flat_map request_frame requests ++ rest
  pub each : AllByRecursion HasRequestFrame requests

-- the requests are all whole frames at the front of the bytes, and the rest is what is left
abbrev pub SplitsInto : List ℕ → List Request → List ℕ → Type 0
SplitsInto bytes requests rest = BeginsWithRequests bytes requests rest × BeginsWithNoRequest rest

-- at least one byte is left, and no request begins there
pub record IsCut (rest : List ℕ) : Type 0 where
  pub some : 1 ≤ length rest
  pub none : BeginsWithNoRequest rest

-- what is left is bad: it is malformed, or the input ended behind it, before a whole frame
abbrev pub IsBad : List ℕ → Bool → Type 0
IsBad rest false = IsMalformed rest
IsBad rest true = IsCut rest
