-- Worked examples: the bytes are written by hand from the documents of the formats.
use Rattle.std.specs.Prelude.{◌≡◌, ℕ, List, [], ◌∷◌, ◌++◌, replicate, true, false}
use Rattle.kv_base.specs.declared.request.Request.{Request}
use Rattle.kv_base.specs.declared.request.Request.TheVariants.{Put, Get, Flush, After}
use Rattle.kv_base.specs.declared.reply.Reply.{Reply}
use Rattle.kv_base.specs.declared.reply.Reply.TheVariants.{Stored, Found, Missing, BadKey}
use Rattle.kv_base.specs.declared.reply.Reply.TheVariants.{Noted, Ahead}
use Rattle.kv_base.specs.declared.cause.Cause.TheVariants.{End, Malformed, SinkFault}
use Rattle.kv_model.specs.Pairs.{Pair}
use Rattle.kv_model.specs.Groups.{groups_of}
use Rattle.kv_model.specs.Transcript.{HasTranscript, HasTranscriptSoFar}

-- the key a
abbrev pub key_a : List ℕ
key_a = 0x61 ∷ []

-- the value 1, as text
abbrev pub value_1 : List ℕ
value_1 = 0x31 ∷ []

-- Put a 1
abbrev pub put_a : Request
put_a = Put key_a value_1

-- its frame
abbrev pub put_a_bytes : List ℕ
put_a_bytes = 4 ∷ 0 ∷ 0 ∷ 0 ∷ 1 ∷ 1 ∷ 0x61 ∷ 0x31 ∷ []

-- the frame of Get a
abbrev pub get_a_bytes : List ℕ
get_a_bytes = 2 ∷ 0 ∷ 0 ∷ 0 ∷ 2 ∷ 0x61 ∷ []

-- the frame of Flush
abbrev pub flush_bytes : List ℕ
flush_bytes = 1 ∷ 0 ∷ 0 ∷ 0 ∷ 5 ∷ []

-- the frame of After 0
abbrev pub after_0_bytes : List ℕ
after_0_bytes = 9 ∷ 0 ∷ 0 ∷ 0 ∷ 6 ∷ 0 ∷ 0 ∷ 0 ∷ 0 ∷ 0 ∷ 0 ∷ 0 ∷ 0 ∷ []

-- the frame of After 1
abbrev pub after_1_bytes : List ℕ
after_1_bytes = 9 ∷ 0 ∷ 0 ∷ 0 ∷ 6 ∷ 1 ∷ 0 ∷ 0 ∷ 0 ∷ 0 ∷ 0 ∷ 0 ∷ 0 ∷ []

-- the frame of Noted
abbrev pub noted_bytes : List ℕ
noted_bytes = 1 ∷ 0 ∷ 0 ∷ 0 ∷ 0x87 ∷ []

-- the frame of Ahead 1
abbrev pub ahead_1_bytes : List ℕ
ahead_1_bytes = 9 ∷ 0 ∷ 0 ∷ 0 ∷ 0xEA ∷ 1 ∷ 0 ∷ 0 ∷ 0 ∷ 0 ∷ 0 ∷ 0 ∷ 0 ∷ []

-- the frame of Stored 1
abbrev pub stored_1_bytes : List ℕ
stored_1_bytes = 9 ∷ 0 ∷ 0 ∷ 0 ∷ 0x81 ∷ 1 ∷ 0 ∷ 0 ∷ 0 ∷ 0 ∷ 0 ∷ 0 ∷ 0 ∷ []

-- the frame of Found 2 1
abbrev pub found_2_bytes : List ℕ
found_2_bytes = 10 ∷ 0 ∷ 0 ∷ 0 ∷ 0x82 ∷ 2 ∷ 0 ∷ 0 ∷ 0 ∷ 0 ∷ 0 ∷ 0 ∷ 0 ∷ 0x31 ∷ []

-- the frame of Missing 1
abbrev pub missing_1_bytes : List ℕ
missing_1_bytes = 9 ∷ 0 ∷ 0 ∷ 0 ∷ 0x83 ∷ 1 ∷ 0 ∷ 0 ∷ 0 ∷ 0 ∷ 0 ∷ 0 ∷ 0 ∷ []

-- the frame of Malformed 8
abbrev pub malformed_8_bytes : List ℕ
malformed_8_bytes = 9 ∷ 0 ∷ 0 ∷ 0 ∷ 0xE9 ∷ 8 ∷ 0 ∷ 0 ∷ 0 ∷ 0 ∷ 0 ∷ 0 ∷ 0 ∷ []

-- Get a
abbrev pub get_a : Request
get_a = Get key_a

-- the pair of a request and its reply
abbrev pub pair_of : Request → Reply → Pair
pair_of request reply = record { request = request; reply = reply }

-- a put and a get of one group, answered
abbrev pub put_and_get : List Pair
put_and_get = pair_of put_a (Stored 1) ∷ pair_of get_a (Found 2 value_1) ∷ []

-- a put and a get, answered
abbrev pub PutAndGet : Type 0
PutAndGet = HasTranscript (put_a_bytes ++ get_a_bytes) true (stored_1_bytes ++ found_2_bytes) [] End
    (put_and_get ∷ [])

-- a get of a key that has no value
abbrev pub GetOfNothing : Type 0
GetOfNothing = HasTranscript get_a_bytes true missing_1_bytes [] End
    ((pair_of get_a (Missing 1) ∷ []) ∷ [])

-- a put with an empty key is refused, and the put behind it has the first stamp
abbrev pub RefusedThenPut : Type 0
RefusedThenPut = HasTranscript ((3 ∷ 0 ∷ 0 ∷ 0 ∷ 1 ∷ 0 ∷ 0x31 ∷ []) ++ put_a_bytes) true
    ((1 ∷ 0 ∷ 0 ∷ 0 ∷ 0xE1 ∷ []) ++ stored_1_bytes) [] End
    ((pair_of (Put [] value_1) BadKey ∷ pair_of put_a (Stored 1) ∷ []) ∷ [])

-- the input ends inside the second frame
abbrev pub CutInside : Type 0
CutInside = HasTranscript (put_a_bytes ++ 4 ∷ 0 ∷ 0 ∷ 0 ∷ 1 ∷ 1 ∷ []) true (stored_1_bytes
    ++ malformed_8_bytes) [] (Malformed 8) ((pair_of put_a (Stored 1) ∷ []) ∷ [])

-- the sink took the first reply of the last group and failed at the second
abbrev pub SinkFails : Type 0
SinkFails = HasTranscript (put_a_bytes ++ get_a_bytes) true stored_1_bytes (Found 2 value_1 ∷ [])
    SinkFault (put_and_get ∷ [])

-- the sink failed at the reply to the group before a flush, and the get behind that isn't handled
abbrev pub SinkFailsBeforeTheEnd : Type 0
SinkFailsBeforeTheEnd = HasTranscript (put_a_bytes ++ flush_bytes ++ get_a_bytes) true []
    (Stored 1 ∷ []) SinkFault ((pair_of put_a (Stored 1) ∷ []) ∷ [])

-- the sink failed at the reply to the group before an After, which isn't handled
abbrev pub SinkFailsBeforeAnAfter : Type 0
SinkFailsBeforeAnAfter = HasTranscript (put_a_bytes ++ after_1_bytes) false [] (Stored 1 ∷ [])
    SinkFault ((pair_of put_a (Stored 1) ∷ []) ∷ [])

-- a new session is told of 0, and then of 1, which is ahead
abbrev pub told_twice : List (List Pair)
told_twice = (pair_of (After 0) Noted ∷ []) ∷ (pair_of (After 1) (Ahead 1) ∷ []) ∷ []

-- its transcript
abbrev pub ToldTwice : Type 0
ToldTwice = HasTranscript (after_0_bytes ++ after_1_bytes) true (noted_bytes ++ ahead_1_bytes) [] End
    told_twice

-- a put and a get in two groups, answered while the session goes on
abbrev pub GoesOn : Type 0
GoesOn = HasTranscriptSoFar (put_a_bytes ++ flush_bytes ++ get_a_bytes ++ flush_bytes ++ 2 ∷ [])
    (stored_1_bytes ++ found_2_bytes)
    ((pair_of put_a (Stored 1) ∷ []) ∷ (pair_of get_a (Found 2 value_1) ∷ []) ∷ [])

-- 64 requests are a group, and what comes behind them begins another; a flush ends a group and is
-- in none, and an After is one by itself
pub record GroupsEnd : Type 0 where
  pub full : groups_of (replicate 64 get_a)
      ≡ record { ended = replicate 64 get_a ∷ []; current = [] }
  pub one_more : groups_of (replicate 65 get_a)
      ≡ record { ended = replicate 64 get_a ∷ []; current = get_a ∷ [] }
  pub flushed : groups_of (put_a ∷ Flush ∷ Flush ∷ get_a ∷ [])
      ≡ record { ended = (put_a ∷ []) ∷ []; current = get_a ∷ [] }
  pub flush_counts_not : groups_of (Flush ∷ replicate 64 get_a ++ Flush ∷ [])
      ≡ record { ended = replicate 64 get_a ∷ []; current = [] }
  pub alone : groups_of (put_a ∷ After 0 ∷ After 1 ∷ get_a ∷ []) ≡ record {
    ended = (put_a ∷ []) ∷ (After 0 ∷ []) ∷ (After 1 ∷ []) ∷ [];
    current = get_a ∷ [];
  }

-- a slot of class 1 with a at stamp 258 and the value 1
abbrev pub slot_a : List ℕ
slot_a = 2 ∷ 1 ∷ 0 ∷ 0 ∷ 0 ∷ 0 ∷ 0 ∷ 0 ∷ 1 ∷ 0 ∷ 1 ∷ 0 ∷ 1 ∷ 0 ∷ 0 ∷ 0 ∷ 0x61 ∷ 0x31 ∷ replicate 46
    0

-- a slot of class 1 with a tombstone of stamp 258 that links to slot 4
abbrev pub tombstone_4 : List ℕ
tombstone_4 = 2 ∷ 1 ∷ 0 ∷ 0 ∷ 0 ∷ 0 ∷ 0 ∷ 0 ∷ 2 ∷ 0 ∷ 0 ∷ 0 ∷ 5 ∷ 0 ∷ 0 ∷ 0 ∷ replicate 48 0

-- the head page of worker 2 of 3
abbrev pub head_2_of_3 : List ℕ
head_2_of_3 = 0x4b ∷ 0x56 ∷ 0x50 ∷ 0x41 ∷ 0x47 ∷ 0x45 ∷ 0x44 ∷ 0x31 ∷ 1 ∷ 0 ∷ 2 ∷ 0 ∷ 3 ∷ 0
    ∷ replicate 4082 0
