-- What the answers to a batch and its net changes have, whatever the batch is.
use Rattle.std.specs.Prelude.{◌≡◌, ◌≢◌, ℕ, ◌+◌, ◌-◌, ◌≤◌, ◌<◌, ◌^◌, List, [], ◌∷◌, ◌++◌, length}
use Rattle.std.specs.Prelude.{Bool, MatchOption, ⊤, Option, ◌⊎◌, map}
use Rattle.std.specs.List.{AllByRecursion}
use Rattle.kv_base.specs.declared.request.Request.{Request}
use Rattle.kv_base.specs.declared.reply.Reply.{Reply}
use Rattle.kv_model.specs.Pairwise.{Pairwise}
use Rattle.kv_model.specs.History.{Write, value_at}
use Rattle.kv_model.specs.Layout.{Layout}
use Rattle.kv_model.specs.Pairs.{Pair, writes, unsure_writes, stamp_of}
use Rattle.kv_model.specs.Agreement.{AgreesWithMap, told_of}
use Rattle.kv_model.specs.Batch.{Start, IsTask, answers, accepted_writes, net, value_after}
use Rattle.kv_model.specs.Batch.{failed_replies}
use Rattle.kv_model.specs.Items.{FollowsHistory, SameValue, HasChanges}

-- each request with its reply
abbrev pub pairs_of : List Request → List Reply → List Pair
pairs_of [] replies = []
pairs_of (request ∷ requests) [] = []
pairs_of (request ∷ requests) (reply ∷ replies) = record { request = request; reply = reply }
    ∷ pairs_of requests replies

-- the stamps rise one by one from this one, and each reply that carries a stamp has its own
abbrev pub AreStamped : ℕ → List Reply → Type 0
AreStamped stamp [] = ⊤
AreStamped stamp (reply ∷ replies) = MatchOption (stamp_of reply) ⊤ (λ carried. carried ≡ stamp)
    × AreStamped (stamp + 1) replies

-- the stamps of the writes rise, the first is at least `low`, and the last is below `high`
abbrev pub RiseBetween : ℕ → ℕ → List Write → Type 0
RiseBetween low high [] = low ≤ high
RiseBetween low high (write ∷ writes) = (low ≤ write.stamp)
    × RiseBetween (write.stamp + 1) high writes

-- there is one reply for each request, with the next stamp
abbrev pub StampsFollowRequests : Type 0
StampsFollowRequests = (start : Start) (base : ℕ) (requests : List Request)
    → (length (answers start [] base requests) ≡ length requests)
    × AreStamped base (answers start [] base requests)

-- no two net changes are of one key, and their stamps rise within those of the batch
abbrev pub NetHasOneWritePerKey : Type 0
NetHasOneWritePerKey = (start : Start) (base : ℕ) (requests : List Request)
    → Pairwise (λ write other. write.key ≢ other.key)
    (net start (accepted_writes start [] base requests))
    × RiseBetween base (base + length requests) (net start (accepted_writes start [] base requests))

-- behind the net changes a key has what it has behind all accepted writes
abbrev pub NetReadsAsAll : Type 0
NetReadsAsAll = (told : Bool) (history : List Write) (base : ℕ) (start : Start)
    (requests : List Request) (stamp : ℕ) (key : List ℕ)
    → FollowsHistory told history (base - 1) start
    → AllByRecursion (λ write. write.stamp < base) history → base + length requests ≤ stamp + 1
    → value_at (history ++ net start (accepted_writes start [] base requests)) stamp key
    ≡ value_at (history ++ accepted_writes start [] base requests) stamp key

-- behind the acknowledged writes a key has what it has behind all accepted ones
abbrev pub AcknowledgedReadAsAll : Type 0
AcknowledgedReadAsAll = (told : Bool) (history : List Write) (base : ℕ) (start : Start)
    (requests : List Request) (stamp : ℕ) (key : List ℕ)
    → FollowsHistory told history (base - 1) start
    → AllByRecursion (λ write. write.stamp < base) history → base + length requests ≤ stamp + 1
    → value_at (history ++ writes (pairs_of requests (answers start [] base requests))) stamp key
    ≡ value_at (history ++ accepted_writes start [] base requests) stamp key

-- replies that are those of one plain map stay so with the answers to a batch behind them
abbrev pub AnswersAgree : Type 0
AnswersAgree = (told : Bool) (layout : Layout) (before : List Write) (floor : ℕ) (pairs : List Pair)
    (base : ℕ) (start : Start) (requests : List Request)
    → AgreesWithMap told layout before floor pairs → start.layout ≡ layout
    → FollowsHistory told (before ++ writes pairs) (base - 1) start → floor < base
    → AllByRecursion (λ write. write.stamp < base) before
    → AllByRecursion (λ pair. MatchOption (stamp_of pair.reply) ⊤ (λ stamp. stamp < base)) pairs
    → base + length requests ≤ 2 ^ 62
    → AllByRecursion (IsTask layout) requests
    → AgreesWithMap told layout before floor (pairs ++ pairs_of requests
    (answers start [] base requests))

-- a store that has the net changes follows the history with the acknowledged writes
abbrev pub StoreFollowsHistory : Type 0
StoreFollowsHistory = (told : Bool) (history : List Write) (base : ℕ) (start after : Start)
    (requests : List Request) (stamp : ℕ) → FollowsHistory told history (base - 1) start
    → AllByRecursion (λ write. write.stamp < base) history → base + length requests ≤ stamp + 1
    → HasChanges told start after (net start (accepted_writes start [] base requests))
    → FollowsHistory told (history ++ writes (pairs_of requests (answers start [] base requests)))
    stamp after

-- a key that has its old or its new value has what it has behind a prefix of the net changes, which
-- holds the history
abbrev pub OldOrNewIsPrefix : Type 0
OldOrNewIsPrefix = (told : Bool) (history : List Write) (base : ℕ) (start : Start)
    (requests : List Request) (key : List ℕ) (value : Option (List ℕ))
    → FollowsHistory told history (base - 1) start → 1 ≤ base
    → AllByRecursion (λ write. write.stamp < base) history
    → (value ≡ start.value key) ⊎ (value ≡ value_after start
    (net start (accepted_writes start [] base requests)) key)
    → (stamp : ℕ) × (AllByRecursion (λ write. write.stamp ≤ stamp) history
    × SameValue told value (value_at (history ++ net start (accepted_writes start [] base requests))
    stamp key))

-- replies of which the same is told as of the answers keep this too: with them behind it a run
-- agrees with one plain map
abbrev pub ToldAnswersAgree : Type 0
ToldAnswersAgree = (told : Bool) (layout : Layout) (before : List Write) (floor : ℕ)
    (pairs : List Pair) (base : ℕ) (start : Start) (requests : List Request) (replies : List Reply)
    → AgreesWithMap told layout before floor pairs → start.layout ≡ layout
    → FollowsHistory told (before ++ writes pairs) (base - 1) start → floor < base
    → AllByRecursion (λ write. write.stamp < base) before
    → AllByRecursion (λ pair. MatchOption (stamp_of pair.reply) ⊤ (λ stamp. stamp < base)) pairs
    → base + length requests ≤ 2 ^ 62
    → AllByRecursion (IsTask layout) requests
    → map (told_of told) replies ≡ map (told_of told) (answers start [] base requests)
    → AgreesWithMap told layout before floor (pairs ++ pairs_of requests replies)

-- replies that are those of one plain map stay so with the replies of a failed batch behind them
abbrev pub FailedAnswersAgree : Type 0
FailedAnswersAgree = (told : Bool) (layout : Layout) (before : List Write) (floor : ℕ)
    (pairs : List Pair) (base : ℕ) (start : Start) (requests : List Request)
    → AgreesWithMap told layout before floor pairs → start.layout ≡ layout → floor < base
    → AllByRecursion (λ write. write.stamp < base) before
    → AllByRecursion (λ pair. MatchOption (stamp_of pair.reply) ⊤ (λ stamp. stamp < base)) pairs
    → base + length requests ≤ 2 ^ 62
    → AllByRecursion (IsTask layout) requests
    → AgreesWithMap told layout before floor (pairs ++ pairs_of requests
    (failed_replies base requests (answers start [] base requests)))

-- where a write failed, all accepted writes of the batch are unsure and none is acknowledged; else
-- none is unsure
pub record FailedAreUnsure : Type 0 where
  pub unsure : (start : Start) (base : ℕ) (requests : List Request)
      → unsure_writes (pairs_of requests (failed_replies base requests
      (answers start [] base requests))) ≡ accepted_writes start [] base requests
  pub unacknowledged : (start : Start) (base : ℕ) (requests : List Request)
      → writes (pairs_of requests (failed_replies base requests
      (answers start [] base requests))) ≡ []
  pub sure : (start : Start) (base : ℕ) (requests : List Request)
      → unsure_writes (pairs_of requests (answers start [] base requests)) ≡ []

-- the key with this value has what it has at a stamp of the history's end or of the batch, by all
-- accepted writes and by the acknowledged ones
pub record ReadsAsAll (told : Bool) (history : List Write) (base : ℕ) (start : Start)
    (requests : List Request) (key : List ℕ) (value : Option (List ℕ)) : Type 0 where
  pub stamp : ℕ
  pub above : AllByRecursion (λ write. write.stamp ≤ stamp) history
  pub within : stamp < base + length requests
  pub accepted : SameValue told value
      (value_at (history ++ accepted_writes start [] base requests) stamp key)
  pub acknowledged : SameValue told value
      (value_at (history ++ writes (pairs_of requests (answers start [] base requests))) stamp key)

-- a key that has its old or its new value has what it has behind a prefix of the accepted writes,
-- and of the acknowledged ones, which holds the history
abbrev pub OldOrNewOfAccepted : Type 0
OldOrNewOfAccepted = (told : Bool) (history : List Write) (base : ℕ) (start : Start)
    (requests : List Request) (key : List ℕ) (value : Option (List ℕ))
    → FollowsHistory told history (base - 1) start → 1 ≤ base
    → AllByRecursion (λ write. write.stamp < base) history
    → (value ≡ start.value key) ⊎ (value ≡ value_after start
    (net start (accepted_writes start [] base requests)) key)
    → ReadsAsAll told history base start requests key value
