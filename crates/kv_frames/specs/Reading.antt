-- Contents read from left to right, as the private steps of parsing read them.
use Rattle.std.specs.Prelude.{◌≡◌, ℕ, ◌==◌, List, [], ◌∷◌, length, take, drop, Option, Some, None}
use Rattle.std.specs.Prelude.{nat_le, if◌then◌else◌}
use Rattle.std.specs.Int.{w64, from_le_bytes}
use Rattle.std.specs.Option.{option_and_then, option_map}
use Rattle.kv_base.specs.declared.request.Request.{Request}
use Rattle.kv_base.specs.declared.request.Request.TheVariants.{Put, Get, Delete, Flush, After}
use Rattle.kv_base.specs.declared.reply.Reply.{Reply}
use Rattle.kv_base.specs.declared.reply.Reply.TheVariants.{Stored, Found, Missing, Removed, Absent}
use Rattle.kv_base.specs.declared.reply.Reply.TheVariants.{BadKey, TooLarge, Full, NoMemory}
use Rattle.kv_base.specs.declared.reply.Reply.TheVariants.{DiskFault, Unsure, Closed, StampsSpent}
use Rattle.kv_base.specs.declared.reply.Reply.TheVariants.{Malformed, Noted, Ahead}

-- the key of so many bytes, and the value behind it, where the key is all there
abbrev pub put_in : ℕ → List ℕ → Option Request
put_in key_length body =
    if nat_le key_length (length body)
    then Some (Put (take key_length body) (drop key_length body)) else None

-- a Put's body: the length of the key in a byte, the key, the value
abbrev pub put_body_in : List ℕ → Option Request
put_body_in [] = None
put_body_in (key_length ∷ rest) = put_in key_length rest

-- a Flush's body: nothing
abbrev pub flush_body_in : List ℕ → Option Request
flush_body_in [] = Some Flush
flush_body_in (byte ∷ rest) = None

-- the number that a body of eight bytes is
abbrev pub number_in : List ℕ → Option ℕ
number_in body = if length body == 8 then Some (from_le_bytes w64 body) else None

-- an After's body: a stamp
abbrev pub after_in : List ℕ → Option Request
after_in body = option_map (λ stamp. After stamp) (number_in body)

-- the request with this content, where there is one
abbrev pub request_in : List ℕ → Option Request
request_in [] = None
request_in (kind ∷ body) =
    if kind == 0x01 then put_body_in body else
    (if kind == 0x02 then Some (Get body) else
    (if kind == 0x03 then Some (Delete body) else
    (if kind == 0x05 then flush_body_in body else
    (if kind == 0x06 then after_in body else None))))

-- the reply of a kind whose body is empty
abbrev pub bare_of : ℕ → Option Reply
bare_of kind =
    if kind == 0x87 then Some Noted else
    (if kind == 0xE1 then Some BadKey else
    (if kind == 0xE2 then Some TooLarge else
    (if kind == 0xE4 then Some NoMemory else
    (if kind == 0xE5 then Some DiskFault else
    (if kind == 0xE7 then Some Closed else None)))))

-- the reply of a kind whose body is a class
abbrev pub full_of : ℕ → ℕ → Option Reply
full_of kind class = if kind == 0xE3 then Some (Full class) else None

-- the reply of a kind whose body is a number
abbrev pub stamped_of : ℕ → ℕ → Option Reply
stamped_of kind number =
    if kind == 0x81 then Some (Stored number) else
    (if kind == 0x83 then Some (Missing number) else
    (if kind == 0x84 then Some (Removed number) else
    (if kind == 0x85 then Some (Absent number) else
    (if kind == 0xE6 then Some (Unsure number) else
    (if kind == 0xE8 then Some (StampsSpent number) else
    (if kind == 0xE9 then Some (Malformed number) else
    (if kind == 0xEA then Some (Ahead number) else None)))))))

-- the reply with this kind and body, but for a Found
abbrev pub plain_in : ℕ → List ℕ → Option Reply
plain_in kind [] = bare_of kind
plain_in kind (class ∷ []) = full_of kind class
plain_in kind (first ∷ second ∷ rest) =
    option_and_then (λ number. stamped_of kind number) (number_in (first ∷ second ∷ rest))

-- a stamp, and the value behind it
abbrev pub found_in : List ℕ → Option Reply
found_in body =
    if nat_le 8 (length body) then Some (Found (from_le_bytes w64 (take 8 body)) (drop 8 body))
    else None

-- the reply with this content, where there is one
abbrev pub reply_in : List ℕ → Option Reply
reply_in [] = None
reply_in (kind ∷ body) = if kind == 0x82 then found_in body else plain_in kind body

-- a Found has this content
pub record IsFoundContent (content : List ℕ) : Type 0 where
  pub stamp : ℕ
  pub value : List ℕ
  pub is : reply_in content ≡ Some (Found stamp value)
