-- Requests with their replies, and the writes that they stand for.
use Rattle.std.specs.Prelude.{ℕ, List, ◌++◌, map, Option, None, Some}
use Rattle.std.specs.List.{filter_map, flat_map}
use Rattle.kv_base.specs.declared.request.Request.{Request}
use Rattle.kv_base.specs.declared.request.Request.TheVariants.{Put, Get, Delete, Flush, After}
use Rattle.kv_base.specs.declared.reply.Reply.{Reply}
use Rattle.kv_base.specs.declared.reply.Reply.TheVariants.{Stored, Found, Missing, Removed, Absent}
use Rattle.kv_base.specs.declared.reply.Reply.TheVariants.{BadKey, TooLarge, Full, NoMemory}
use Rattle.kv_base.specs.declared.reply.Reply.TheVariants.{DiskFault, Unsure, Closed, StampsSpent}
use Rattle.kv_base.specs.declared.reply.Reply.TheVariants.{Malformed, Noted, Ahead}
use Rattle.kv_model.specs.History.{Write}

-- a request and its reply
pub record Pair : Type 0 where
  pub request : Request
  pub reply : Reply

-- an After and its reply
abbrev pub told_pair : ℕ → Reply → Pair
told_pair stamp reply = record { request = After stamp; reply = reply }

-- what the request writes at the stamp
abbrev pub written : Request → ℕ → Option Write
written (Put key value) stamp = Some (record { stamp = stamp; key = key; value = Some value })
written (Get key) stamp = None
written (Delete key) stamp = Some (record { stamp = stamp; key = key; value = None })
written Flush stamp = None
written (After told) stamp = None

-- the key that the request is about, where it is about one
abbrev pub key_of : Request → Option (List ℕ)
key_of (Put key value) = Some key
key_of (Get key) = Some key
key_of (Delete key) = Some key
key_of Flush = None
key_of (After stamp) = None

-- the write of the request that this reply acknowledges
abbrev pub acknowledged_by : Request → Reply → Option Write
acknowledged_by request (Stored stamp) = written request stamp
acknowledged_by request (Found stamp value) = None
acknowledged_by request (Missing stamp) = None
acknowledged_by request (Removed stamp) = written request stamp
acknowledged_by request (Absent stamp) = None
acknowledged_by request BadKey = None
acknowledged_by request TooLarge = None
acknowledged_by request (Full class) = None
acknowledged_by request NoMemory = None
acknowledged_by request DiskFault = None
acknowledged_by request (Unsure stamp) = None
acknowledged_by request Closed = None
acknowledged_by request (StampsSpent number) = None
acknowledged_by request (Malformed offset) = None
acknowledged_by request Noted = None
acknowledged_by request (Ahead number) = None

-- the write that the pair acknowledges
abbrev pub acknowledged : Pair → Option Write
acknowledged pair = acknowledged_by pair.request pair.reply

-- the write of the request that may be on disk or not after this reply
abbrev pub unsure_by : Request → Reply → Option Write
unsure_by request (Stored stamp) = None
unsure_by request (Found stamp value) = None
unsure_by request (Missing stamp) = None
unsure_by request (Removed stamp) = None
unsure_by request (Absent stamp) = None
unsure_by request BadKey = None
unsure_by request TooLarge = None
unsure_by request (Full class) = None
unsure_by request NoMemory = None
unsure_by request DiskFault = None
unsure_by request (Unsure stamp) = written request stamp
unsure_by request Closed = None
unsure_by request (StampsSpent number) = None
unsure_by request (Malformed offset) = None
unsure_by request Noted = None
unsure_by request (Ahead number) = None

-- the stamp that the reply carries
abbrev pub stamp_of : Reply → Option ℕ
stamp_of (Stored stamp) = Some stamp
stamp_of (Found stamp value) = Some stamp
stamp_of (Missing stamp) = Some stamp
stamp_of (Removed stamp) = Some stamp
stamp_of (Absent stamp) = Some stamp
stamp_of BadKey = None
stamp_of TooLarge = None
stamp_of (Full class) = None
stamp_of NoMemory = None
stamp_of DiskFault = None
stamp_of (Unsure stamp) = Some stamp
stamp_of Closed = None
stamp_of (StampsSpent number) = None
stamp_of (Malformed offset) = None
stamp_of Noted = None
stamp_of (Ahead number) = None

-- the stamp that the session is told of by the request, where the reply says that it is noted
abbrev pub noted_by : Request → Reply → Option ℕ
noted_by (Put key value) reply = None
noted_by (Get key) reply = None
noted_by (Delete key) reply = None
noted_by Flush reply = None
noted_by (After stamp) Noted = Some stamp
noted_by (After stamp) reply = None

-- the number at which the counter stood, where the reply to an After tells it
abbrev pub counter_by : Request → Reply → Option ℕ
counter_by (Put key value) reply = None
counter_by (Get key) reply = None
counter_by (Delete key) reply = None
counter_by Flush reply = None
counter_by (After stamp) (Ahead number) = Some number
counter_by (After stamp) reply = None

-- the writes that were acknowledged
abbrev pub writes : List Pair → List Write
writes pairs = filter_map acknowledged pairs

-- the writes that may be on disk or not
abbrev pub unsure_writes : List Pair → List Write
unsure_writes pairs = filter_map (λ pair. unsure_by pair.request pair.reply) pairs

-- the stamps of the replies, in the order of the pairs
abbrev pub stamps : List Pair → List ℕ
stamps pairs = filter_map (λ pair. stamp_of pair.reply) pairs

-- the stamps that were noted
abbrev pub noted_stamps : List Pair → List ℕ
noted_stamps pairs = filter_map (λ pair. noted_by pair.request pair.reply) pairs

-- what the session has seen by these pairs: the stamps of the replies, and those that were noted
abbrev pub seen_in : List Pair → List ℕ
seen_in pairs = stamps pairs ++ noted_stamps pairs

-- the numbers at which the counter stood, as replies tell
abbrev pub counter_numbers : List Pair → List ℕ
counter_numbers pairs = filter_map (λ pair. counter_by pair.request pair.reply) pairs

-- the requests of a group of pairs
abbrev pub requests_of : List Pair → List Request
requests_of group = map (λ pair. pair.request) group

-- the pairs of all groups, one behind the other
abbrev pub pairs_in : List (List Pair) → List Pair
pairs_in groups = flat_map (λ group. group) groups

-- the replies to all groups, one behind the other
abbrev pub replies_in : List (List Pair) → List Reply
replies_in groups = map (λ pair. pair.reply) (pairs_in groups)
